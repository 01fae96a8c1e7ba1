use Rattle.std.proofs.Common.{◌≡◌, ◌-◌, length}
use Rattle.recording.specs.Walks.{may_follow, first_from}
use Rattle.search.specs.Stacks.{edges}
use Rattle.search.proofs.stack.Stack.next_fitting.Given as goal

-- No edge before `at` may go on.
abbrev pub invariant-loop-place : goal.invariant-loop-place
invariant-loop-place g l =
    let test = may_follow (g.O.SegmentOrder.meaning l.graph.order.now).before (edges l.self) in
    first_from test l.graph.rows.now l.from ≡ first_from test l.graph.rows.now l.at

abbrev pub decreases-loop-place : goal.decreases-loop-place
decreases-loop-place g l = length l.graph.rows.now - l.at
