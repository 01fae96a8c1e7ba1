use Rattle.std.proofs.Common.{length, ap, arith}
use Rattle.feed.proofs.Splitting.{lines_bound}
use Rattle.feed.proofs.file.feed_lines.Goals as goal

pub overflow_add-line : goal.overflow_add-line
overflow_add-line c = omega (arith, c.loop-bytes.invariant.1, ap length c.in-Some.ensures.steps, lines_bound c.args.file.now, c.requires)
