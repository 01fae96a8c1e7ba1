use Rattle.std.proofs.Common.{length, ap, arith}
use Rattle.feed.proofs.Splitting.{lines_bound}
use Rattle.feeding.proofs.file.Lent.feed_lines.Goals as goal

pub overflow_add-line : goal.overflow_add-line
overflow_add-line g c =
    omega (arith, c.loop-bytes.invariant.0.bound, ap length c.in-Some.ensures.steps, lines_bound c.args.file.now, c.requires)
