-- The product that the numbers from 1 on give.
-- Assumes nothing.
use Rattle.std.proofs.Common.{◌≡◌, ℕ, suc, ◌+◌, ◌*◌, ◌<◌, ◌≤◌, true, false, List, [], ◌∷◌, length, get_or, refl, ap, ◌∙◌, add-zero, arith}
use Rattle.std.specs.List.{fold}
use Rattle.std.specs.Iterator.Runs.{Run, ItemsCountUp}
use Rattle.std.specs.Range.{range_inclusive_start, range_inclusive_end, range_inclusive_exhausted}
use Rattle.std.specs.declared.ops.RangeInclusive.{RangeInclusive}
use Rattle.std.proofs.iter.runs.Sources.{nat_range_inclusive_steps, inclusive_listed}
use Rattle.output.specs.Odds.{factorial}
use Rattle.output.proofs.Fractions.{factorial_more}

-- numbers that count up from j + 1 carry the product of those up to j on
factors : (a j : ℕ) (xs : List ℕ) → a ≡ factorial j → ((k : ℕ) → k < length xs → get_or xs k 0 ≡ (j + 1) + k) → fold (λ b x. b * x) a xs ≡ factorial (j + length xs)
factors a j [] e h = rw add-zero e
factors a j (x ∷ xs) e h =
    let first : x ≡ (j + 1) + 0 = h 0 (omega arith) in
    let next : x ≡ j + 1 = omega arith in
    let rest : (k : ℕ) → k < length xs → get_or xs k 0 ≡ ((j + 1) + 1) + k = λ k l. omega (arith, h (suc k) (omega arith)) in
    let same : j + length (x ∷ xs) ≡ (j + 1) + length xs = omega arith in
    rw same (factors (a * x) (j + 1) xs (rw (e, next) (factorial_more j)) rest)

-- the place of each number among those that count up
placed : (a b : ℕ) (p : Run nat_range_inclusive_steps) → ItemsCountUp p a b → (i : ℕ) → i < length p.items → get_or p.items i 0 ≡ a + i
placed a b p up i l =
    let come = up.3 i (omega (arith, p.long)) in
    let read = p.reads i 0 (omega (arith, p.long)) in
    cc

-- what comes of 1..=k
pub record Multiplied (k : ℕ) (p : Run nat_range_inclusive_steps) : Type 0 where
  pub product : fold (λ a x. a * x) 1 p.items ≡ factorial (length p.items)
  pub at_most : length p.items ≤ k
  pub all : p.whole ≡ true → length p.items ≡ k

pub multiplied : (k : ℕ) (s : RangeInclusive ℕ) (p : Run nat_range_inclusive_steps) → p.from ≡ s → range_inclusive_start s ≡ 1 →
    range_inclusive_end s ≡ k → range_inclusive_exhausted s ≡ false → Multiplied k p
multiplied k s p from start end fresh =
    let r = inclusive_listed p p.seen in
    let up = r.4 (ap range_inclusive_exhausted from ∙ fresh) in
    let low : r.0 ≡ 1 = r.2 ∙ ap range_inclusive_start from ∙ start in
    let high : r.1 ≡ k + 1 = omega (arith, r.3, ap range_inclusive_end from, end) in
    let places : (i : ℕ) → i < length p.items → get_or p.items i 0 ≡ (0 + 1) + i = λ i l. omega (arith, placed r.0 r.1 p up.0 i l) in
    let none : 0 + length p.items ≡ length p.items = omega arith in
    record {
      product = factors 1 0 p.items refl places ∙ ap factorial none;
      at_most = omega (arith, p.long, up.0.0);
      all = λ w. omega (arith, p.long, up.0.1 w);
    }
