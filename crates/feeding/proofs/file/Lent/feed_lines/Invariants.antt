use Rattle.feed.specs.Lines.{lines}
use Rattle.feeding.specs.Lent.{state_of, SameLoans}
use Rattle.feeding.proofs.Feeding.{Going}
use Rattle.feeding.proofs.file.Lent.feed_lines.Given as goal

abbrev pub invariant-loop-bytes : goal.invariant-loop-bytes
invariant-loop-bytes g l =
    let order = g.O.SegmentOrder in
    Going order.limit (state_of order.meaning l.initial.self) (lines l.file) (state_of order.meaning l.self) l.bytes-iterator l.line
    × SameLoans l.initial.self l.self
