-- How rows are compared: by one field after the other, which is by their places.
-- Assumes nothing.
use Rattle.std.specs.Prelude.{◌≡◌, ℕ, List, [], ◌∷◌, map, refl}
use Rattle.std.specs.declared.cmp.Ordering.TheVariants.{Less, Equal, Greater}
use Rattle.std.specs.declared.cmp.Ordering.{Ordering}
use Rattle.std.specs.Cmp.Derive.Mapped.{lex_map}
use Rattle.std.specs.Cmp.Lexicographic.{slice_cmp, bytes_decides, texts_ties}
use Rattle.std.specs.Ordering.{ordering_then, nat_cmp, is_eq}
use Rattle.std.proofs.Common.{sym, ap, ◌∙◌, arith}
use Rattle.rows.specs.Orders.{step_places, rank_step, rank_row}
use Rattle.rows.specs.declared.row.CircleRow.{CircleRow}
use Rattle.rows.specs.declared.step.Step.{Step}

pub then_equal : (o : Ordering) → o ≡ ordering_then o Equal
then_equal Less = refl
then_equal Equal = refl
then_equal Greater = refl

abbrev pub by_fields : Step → Step → Ordering
by_fields s z = ordering_then (nat_cmp s.thread z.thread) (ordering_then (nat_cmp s.held z.held) (nat_cmp s.wanted z.wanted))

pub step_ranked : (s z : Step) → by_fields s z ≡ rank_step s z
step_ranked s z =
    ap (λ o. ordering_then (nat_cmp s.thread z.thread) (ordering_then (nat_cmp s.held z.held) o)) (then_equal (nat_cmp s.wanted z.wanted))

-- what the comparison of two arrays of steps answers
pub steps_ranked : (xs ys : List Step)
    → slice_cmp rank_step xs ys ≡ slice_cmp (slice_cmp nat_cmp) (map step_places xs) (map step_places ys)
steps_ranked xs ys = sym (lex_map step_places (slice_cmp nat_cmp) xs ys)

pub row_ranked : (a b : CircleRow) → ordering_then (nat_cmp a.count b.count) (slice_cmp by_fields a.steps b.steps) ≡ rank_row a b
row_ranked a b =
    let steps = ap (λ R. slice_cmp R a.steps b.steps) (λ i s z. step_ranked s z i) ∙ steps_ranked a.steps b.steps in
    λ i. ordering_then (then_equal (nat_cmp a.count b.count) i) (steps i)

-- equal in all places
pub lex_same : {K : Type 0} {R : K → K → Ordering} → ((x y : K) → R x y ≡ Equal → x ≡ y) → (xs ys : List K) → slice_cmp R xs ys ≡ Equal → xs ≡ ys
lex_same same [] [] e = refl
lex_same same [] (y ∷ ys) e = let z : ◌≡◌ {A = ℕ} 0 1 = cc in absurd (omega arith)
lex_same same (x ∷ xs) [] e = let z : ◌≡◌ {A = ℕ} 0 1 = cc in absurd (omega arith)
lex_same {R = R} same (x ∷ xs) (y ∷ ys) e = go (R x y) refl e (lex_same {R = R} same xs ys)
  where
    go : (k : Ordering) → R x y ≡ k → ordering_then k (slice_cmp R xs ys) ≡ Equal → (slice_cmp R xs ys ≡ Equal → xs ≡ ys) → x ∷ xs ≡ y ∷ ys
    go Less f g ih = let z : ◌≡◌ {A = ℕ} 0 1 = cc in absurd (omega arith)
    go Equal f g ih = λ i. same x y f i ∷ ih g i
    go Greater f g ih = let z : ◌≡◌ {A = ℕ} 0 1 = cc in absurd (omega arith)

pub numbers_same : (xs ys : List ℕ) → slice_cmp nat_cmp xs ys ≡ Equal → xs ≡ ys
numbers_same xs ys e = (bytes_decides xs ys).0 (texts_ties xs ys ∙ ap is_eq e)

-- what has the same places is the same
pub step_same : (s z : Step) → step_places s ≡ step_places z → s ≡ z
step_same s z e =
    let t : s.thread ≡ z.thread = cc in
    let l : s.held ≡ z.held = cc in
    let w : s.wanted ≡ z.wanted = cc in
    λ i. record { thread = t i; held = l i; wanted = w i }

pub steps_same : (xs ys : List Step) → map step_places xs ≡ map step_places ys → xs ≡ ys
steps_same [] [] e = refl
steps_same [] (y ∷ ys) e = let z : ◌≡◌ {A = ℕ} 0 1 = cc in absurd (omega arith)
steps_same (x ∷ xs) [] e = let z : ◌≡◌ {A = ℕ} 0 1 = cc in absurd (omega arith)
steps_same (x ∷ xs) (y ∷ ys) e =
    let s = step_same x y cc in
    let more = steps_same xs ys cc in
    λ i. s i ∷ more i
