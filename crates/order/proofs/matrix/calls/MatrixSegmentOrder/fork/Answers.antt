use Rattle.std.proofs.Common.{◌≡◌, Ok, Err}
use Rattle.order.specs.Bits.{has}
use Rattle.order.specs.Matrices.{matrix_meaning}
use Rattle.order.specs.Meaning.{fork_answer, forked}
use Rattle.order.proofs.Calls.{stays, forks}
use Rattle.order.proofs.Matrices.{closes, opens, fork_done}
use Rattle.order.proofs.matrix.calls.MatrixSegmentOrder.fork.Goals as goal

pub returns-in_err-n-clause-means : goal.returns-in_err-n-clause-means
returns-in_err-n-clause-means c =
    let m = matrix_meaning c.args.self.now in
    let a : fork_answer 256 m c.args.x ≡ Err c.in_err-n.field-0.0 = cc c.in_err-n.was in
    stays _ _ (forked m c.args.x) m a

pub invariant_of-self : goal.invariant_of-self
invariant_of-self c =
    let m = matrix_meaning c.args.self.now in
    let x = c.args.x in
    let p = has c.up_to-past.result in
    let a : fork_answer 256 m x ≡ Ok c.in_ok-n.n = cc c.in_ok-n.was in
    let f = forks m _ _ _ x p p (closes _ _ x c.close.ensures.ends c.close.ensures.known) (opens _ _ _ c.add.ensures.ends c.add.ensures.known)
    (opens _ _ _ c.add-2.ensures.ends c.add-2.ensures.known) c.up_to-past.ensures c.up_to-past.ensures in
    record { earlier = (fork_done c.args.self.now x _ _ a f).0 }

pub returns-clause-means : goal.returns-clause-means
returns-clause-means c =
    let m = matrix_meaning c.args.self.now in
    let x = c.args.x in
    let p = has c.up_to-past.result in
    let a : fork_answer 256 m x ≡ Ok c.in_ok-n.n = cc c.in_ok-n.was in
    let f = forks m _ _ _ x p p (closes _ _ x c.close.ensures.ends c.close.ensures.known) (opens _ _ _ c.add.ensures.ends c.add.ensures.known)
    (opens _ _ _ c.add-2.ensures.ends c.add-2.ensures.known) c.up_to-past.ensures c.up_to-past.ensures in
    (fork_done c.args.self.now x _ c.add-2.new.self.places.items a f).1
