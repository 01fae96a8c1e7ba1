use Rattle.std.proofs.Common.{◌≡◌, [], ◌∷◌, ◌++◌, length}
use Rattle.recording.specs.Enumeration.{left}
use Rattle.recording.specs.Walks.{left_from}
use Rattle.search.specs.Stacks.{stacked, places, Walks}
use Rattle.search.proofs.stack.Stack.next_chain.Given as goal

-- What was left is what goes on from the stack at place `from` or a later one, or comes after all that.
abbrev pub invariant-loop-place : goal.invariant-loop-place
invariant-loop-place g l =
    let before = (g.O.SegmentOrder.meaning l.graph.order.now).before in
    let rows = l.graph.rows.now in
    Walks rows before l.self
    × (left rows before (places l.initial.self) ≡ left_from rows before (places l.self ++ l.from ∷ []))

abbrev pub decreases-loop-place : goal.decreases-loop-place
decreases-loop-place g l = length (stacked l.self)
