use Rattle.std.proofs.Common.{◌≡◌, ℕ, ◌||◌, Ok, ◌∙◌}
use Rattle.order.specs.Bits.{has}
use Rattle.order.specs.Matrices.{matrix_meaning}
use Rattle.order.specs.Meaning.{meet_answer, upto}
use Rattle.order.proofs.Calls.{meets}
use Rattle.order.proofs.Matrices.{closes, opens, meet_done}
use Rattle.order.proofs.matrix.calls.MatrixSegmentOrder.meet.Goals as goal

pub invariant_of-self : goal.invariant_of-self
invariant_of-self c =
    let m = matrix_meaning c.args.self.now in
    let x = c.args.x in
    let y = c.args.y in
    let a : meet_answer 256 m x y ≡ Ok c.in_ok-n.n = cc c.in_ok-n.was in
    let both : (a : ℕ) → has c.merge-past.result a ≡ (upto m x a || upto m y a) =
    λ a. c.merge-past.ensures a ∙ (λ i. c.up_to.ensures a i || c.up_to-2.ensures a i) in
    let f = meets m _ _ x y _ (closes _ _ x c.close.ensures.ends c.close.ensures.known) (opens _ _ _ c.add.ensures.ends c.add.ensures.known) both in
    record { earlier = (meet_done c.args.self.now x y _ _ a f).0 }

pub returns-clause-means : goal.returns-clause-means
returns-clause-means c =
    let m = matrix_meaning c.args.self.now in
    let x = c.args.x in
    let y = c.args.y in
    let a : meet_answer 256 m x y ≡ Ok c.in_ok-n.n = cc c.in_ok-n.was in
    let both : (a : ℕ) → has c.merge-past.result a ≡ (upto m x a || upto m y a) =
    λ a. c.merge-past.ensures a ∙ (λ i. c.up_to.ensures a i || c.up_to-2.ensures a i) in
    let f = meets m _ _ x y _ (closes _ _ x c.close.ensures.ends c.close.ensures.known) (opens _ _ _ c.add.ensures.ends c.add.ensures.known) both in
    (meet_done c.args.self.now x y _ c.add.new.self.places.items a f).1
