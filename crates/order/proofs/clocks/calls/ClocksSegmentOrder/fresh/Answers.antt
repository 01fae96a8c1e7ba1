use Rattle.std.proofs.Common.{ℕ, List, length, get_or, ap, ◌∙◌}
use Rattle.order.specs.declared.clock.Clock.{Clock}
use Rattle.order.specs.Clock.{seen_of, no_clock, view}
use Rattle.order.proofs.Clocking.{fresh_orderly, all_zero}
use Rattle.order.proofs.clocks.calls.ClocksSegmentOrder.fresh.Goals as goal

pub invariant_of-result : goal.invariant_of-result
invariant_of-result c =
    let known = c.one.ensures.known in
    let run = ap (λ (l : List Clock). (get_or l 0 no_clock).run) known ∙ c.none.ensures.run in
    let seen = λ (q : ℕ). ap (λ (l : List Clock). seen_of (get_or l 0 no_clock) q) known
    ∙ ap (λ (l : List ℕ). get_or l q 0) c.none.ensures.seen ∙ all_zero 127 q in
    record { orderly = fresh_orderly (view c.one.result.places.items) (ap length known) run seen }
