use Rattle.std.proofs.Common.{◌≡◌, List, drop}
use Rattle.order.specs.Arrows.{Arrow}
use Rattle.order.specs.Histories.{start, replayed}
use Rattle.order.proofs.history.replay.Given as goal

-- What is left of the calls brings the order to where all of them bring a fresh one.
abbrev pub invariant-loop-call : goal.invariant-loop-call
invariant-loop-call g l =
    (drawn : List Arrow)
    × (replayed g.O.SegmentOrder.limit (record { order = g.O.SegmentOrder.meaning l.order; arrows = drawn }) (drop l.call-index l.calls)
    ≡ replayed g.O.SegmentOrder.limit start l.calls)
