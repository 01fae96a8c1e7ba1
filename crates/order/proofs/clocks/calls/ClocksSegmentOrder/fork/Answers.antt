use Rattle.std.proofs.Common.{◌≡◌, Ok, Err, ap, ◌∙◌}
use Rattle.order.specs.Clock.{seen_of}
use Rattle.order.specs.Clocks.{runs_of, clocks_meaning}
use Rattle.order.specs.Meaning.{fork_answer, forked}
use Rattle.order.proofs.Calls.{stays}
use Rattle.order.proofs.Clocking.{view_shut, view_grown, grown_at, fork_done}
use Rattle.order.proofs.clocks.calls.ClocksSegmentOrder.fork.Goals as goal

pub returns-in_err-n-clause-means : goal.returns-in_err-n-clause-means
returns-in_err-n-clause-means c =
    let m = clocks_meaning c.args.self.now in
    let a : fork_answer 127 m c.args.x ≡ Err c.in_err-n.field-0.0 = cc c.in_err-n.was in
    stays _ _ (forked m c.args.x) m a

pub invariant_of-self : goal.invariant_of-self
invariant_of-self c =
    let was = c.args.self.now in
    let x = c.args.x in
    let a : fork_answer 127 (clocks_meaning was) x ≡ Ok c.in_ok-n.n = cc c.in_ok-n.was in
    let clock = c.up_to-clock.ensures in
    let shut = view_shut _ _ x c.close.ensures.ends c.close.ensures.known in
    let once = view_grown _ _ _ c.add.ensures.ends c.add.ensures.known ∙ grown_at shut clock.run clock.seen in
    let twice = view_grown _ _ _ c.add-2.ensures.ends c.add-2.ensures.known
    ∙ grown_at once (ap (λ k. k.run) c.in_run.ensures) (λ q. ap (λ k. seen_of k q) c.in_run.ensures ∙ clock.seen q) in
    record { orderly = (fork_done (runs_of was) was.orderly x _ _ a twice).0 }

pub returns-clause-means : goal.returns-clause-means
returns-clause-means c =
    let was = c.args.self.now in
    let x = c.args.x in
    let a : fork_answer 127 (clocks_meaning was) x ≡ Ok c.in_ok-n.n = cc c.in_ok-n.was in
    let clock = c.up_to-clock.ensures in
    let shut = view_shut _ _ x c.close.ensures.ends c.close.ensures.known in
    let once = view_grown _ _ _ c.add.ensures.ends c.add.ensures.known ∙ grown_at shut clock.run clock.seen in
    let twice = view_grown _ _ _ c.add-2.ensures.ends c.add-2.ensures.known
    ∙ grown_at once (ap (λ k. k.run) c.in_run.ensures) (λ q. ap (λ k. seen_of k q) c.in_run.ensures ∙ clock.seen q) in
    (fork_done (runs_of was) was.orderly x _ _ a twice).1
