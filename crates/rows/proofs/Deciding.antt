-- The tests of a circle say what they are tests of.
-- Assumes nothing.
use Rattle.std.proofs.Common.{◌≡◌, ℕ, ◌<◌, Bool, false, ◌&&◌, eqb, List, [], ◌∷◌, length, drop, Decides, refl, ap, arith}
use Rattle.std.specs.List.{AllByRecursion}
use Rattle.std.proofs.lemmas.Bool.{leb-true, le-leb, ne_eqb, not_from_false, false≢true}
use Rattle.std.proofs.lemmas.Bool.Decides.{Decides-eqb, Decides-ltb, Decides-not, Decides-and, Decides-like, Decides-at}
use Rattle.std.proofs.ByRecursion.{Decides-by_and}
use Rattle.rows.specs.Circles.{Linked, Apart, IsCircle, IsCircleRow, every, linked, apart, closes, smallest_first, is_circle, is_circle_row, is_zero, zero_step, steps_of}
use Rattle.rows.specs.declared.row.CircleRow.{CircleRow}
use Rattle.rows.specs.declared.step.Step.{Step}

every_decides : (test : Step → Bool) (P : Step → Type 0) → ((s : Step) → Decides (test s) (P s)) → (zs : List Step) → Decides (every test zs) (AllByRecursion P zs)
every_decides test P each = Decides-by_and test P (every test) each refl (λ _ _. refl)

linked_decides : (wanted : ℕ) (zs : List Step) (last : ℕ) → Decides (linked wanted zs last) (Linked wanted zs last)
linked_decides wanted [] last = Decides-eqb wanted last
linked_decides wanted (z ∷ zs) last = Decides-and _ _ (Decides-eqb wanted z.held) (linked_decides z.wanted zs last)

apart_decides : (zs : List Step) → Decides (apart zs) (Apart zs)
apart_decides [] = (λ _. tt, λ _. refl)
apart_decides (s ∷ zs) =
    Decides-and _ _ (every_decides _ (λ z. s.thread ≡ z.thread → ⊥) (λ z. Decides-not _ (Decides-eqb s.thread z.thread)) zs) (apart_decides zs)

circle_decides : (zs : List Step) → Decides (is_circle zs) (IsCircle zs)
circle_decides [] = (λ _. tt, λ _. refl)
circle_decides (s ∷ []) = (λ e. absurd (false≢true e), λ x. absurd x)
circle_decides (s ∷ z ∷ zs) =
    let many : eqb (length (s ∷ z ∷ zs)) 1 ≡ false = ne_eqb _ _ (λ e. omega arith) in
    let tests = Decides-and _ _ (linked_decides s.wanted (z ∷ zs) s.held) (Decides-and _ _ (apart_decides (s ∷ z ∷ zs)) (every_decides _ (λ b. s.thread < b.thread) (λ b. Decides-ltb s.thread b.thread) (z ∷ zs))) in
    Decides-at _ _ (ap (λ b. b && (closes (s ∷ z ∷ zs) && (apart (s ∷ z ∷ zs) && smallest_first (s ∷ z ∷ zs)))) (not_from_false _ many))
    (Decides-like _ (λ p. (p.0, p.1.0, p.1.1)) (λ p. (p.0, (p.1, p.2))) tests)

zero_decides : (z : Step) → Decides (is_zero z) (z ≡ zero_step)
zero_decides z =
    Decides-like _
    (λ p. (λ i. record { thread = p.0 i; held = p.1.0 i; wanted = p.1.1 i }))
    (λ e. (ap (λ s. s.thread) e, (ap (λ s. s.held) e, ap (λ s. s.wanted) e)))
    (Decides-and _ _ (Decides-eqb z.thread 0) (Decides-and _ _ (Decides-eqb z.held 0) (Decides-eqb z.wanted 0)))

pub row_decides : (r : CircleRow) (b : Bool) → b ≡ is_circle_row r → Decides b (IsCircleRow r)
row_decides r b e =
    Decides-at _ _ e
    (Decides-like _
    (λ p. record { count = p.0.0; circle = p.0.1; rest = p.1 })
    (λ c. ((c.count, c.circle), c.rest))
    (Decides-and _ _ (Decides-and _ _ (leb-true r.count 64, le-leb r.count 64) (circle_decides (steps_of r)))
    (every_decides is_zero (λ z. z ≡ zero_step) zero_decides (drop r.count r.steps))))
