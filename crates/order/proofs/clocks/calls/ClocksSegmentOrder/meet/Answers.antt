use Rattle.std.proofs.Common.{◌≡◌, Ok, max, ◌∙◌}
use Rattle.order.specs.Clocks.{runs_of, clocks_meaning}
use Rattle.order.specs.Meaning.{meet_answer}
use Rattle.order.proofs.Clocking.{view_shut, view_grown, grown_at, meet_done}
use Rattle.order.proofs.clocks.calls.ClocksSegmentOrder.meet.Goals as goal

pub invariant_of-self : goal.invariant_of-self
invariant_of-self c =
    let was = c.args.self.now in
    let x = c.args.x in
    let y = c.args.y in
    let a : meet_answer 127 (clocks_meaning was) x y ≡ Ok c.in_ok-n.n = cc c.in_ok-n.was in
    let clock = c.merge-clock.ensures in
    let shut = view_shut _ _ x c.close.ensures.ends c.close.ensures.known in
    let once = view_grown _ _ _ c.add.ensures.ends c.add.ensures.known
    ∙ grown_at shut (clock.run ∙ c.up_to.ensures.run) (λ q. clock.seen q ∙ (λ i. max (c.up_to.ensures.seen q i) (c.up_to-2.ensures.seen q i))) in
    record { orderly = (meet_done (runs_of was) was.orderly x y _ _ a once).0 }

pub returns-clause-means : goal.returns-clause-means
returns-clause-means c =
    let was = c.args.self.now in
    let x = c.args.x in
    let y = c.args.y in
    let a : meet_answer 127 (clocks_meaning was) x y ≡ Ok c.in_ok-n.n = cc c.in_ok-n.was in
    let clock = c.merge-clock.ensures in
    let shut = view_shut _ _ x c.close.ensures.ends c.close.ensures.known in
    let once = view_grown _ _ _ c.add.ensures.ends c.add.ensures.known
    ∙ grown_at shut (clock.run ∙ c.up_to.ensures.run) (λ q. clock.seen q ∙ (λ i. max (c.up_to.ensures.seen q i) (c.up_to-2.ensures.seen q i))) in
    (meet_done (runs_of was) was.orderly x y _ _ a once).1
