use Rattle.std.proofs.Common.{length}
use Rattle.rows.proofs.closing.+threads_differ.Given as goal

abbrev pub decreases-threads_differ : goal.decreases-threads_differ
decreases-threads_differ l = length l.steps.now
