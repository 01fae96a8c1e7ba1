-- The run of digits at the front of some bytes.
-- Assumes nothing.
use Rattle.std.proofs.Common.{◌≡◌, ℕ, zero, suc, ◌-◌, ◌^◌, ◌<◌, ◌≤◌, true, false, cond, List, [], ◌∷◌, ◌++◌, length, get_or, take, refl, ap, ◌∙◌, subst, add-one, arith}
use Rattle.std.specs.Str.Parse.{AllDigits, digits_value}
use Rattle.std.specs.Char.{is_ascii_digit, digit_value}
use Rattle.std.specs.List.{prefix_len}
use Rattle.std.proofs.lemmas.Int.Digits.{digits_more, digits_value-lt}
use Rattle.std.proofs.lemmas.List.{length-take-le}
use Rattle.std.proofs.lemmas.List.Recursion.{same_from_clauses}
use Rattle.std.proofs.lemmas.List.Sums.{prefix_len-le-length, prefix_len_passes}
use Rattle.std.proofs.lemmas.Str.Parse.{digit_from_value}
use Rattle.std.proofs.lemmas.Bool.{cond-true, cond-false, cond_both, and_from, le-leb}
use Rattle.std.proofs.lemmas.Bool.Decides.{nat_tests}
use Rattle.text.specs.Numbers.{run}

-- the run in the library's word
pub run_is : (bs : List ℕ) → run bs ≡ prefix_len is_ascii_digit bs
run_is =
    same_from_clauses run (prefix_len is_ascii_digit) (λ b n. cond (is_ascii_digit b) (suc n) 0) refl (λ _ _. refl)
    (λ b bs. ap (λ n. cond (is_ascii_digit b) n 0) (omega arith))

pub run_within : (bs : List ℕ) → run bs ≤ length bs
run_within bs = omega (arith, run_is bs, prefix_len-le-length is_ascii_digit bs)

pub run_at : (bs : List ℕ) (i : ℕ) → i < run bs → is_ascii_digit (get_or bs i 0) ≡ true
run_at bs i h = prefix_len_passes is_ascii_digit bs i 0 (omega (arith, run_is bs))

-- The default of `get_or` is no digit, so the byte after a run is none, also where the bytes end.
pub run_after : (bs : List ℕ) → is_ascii_digit (get_or bs (run bs) 0) ≡ false
run_after [] = refl
run_after (b ∷ bs) =
    cond_both (is_ascii_digit b) (suc (run bs)) 0 (λ n. is_ascii_digit (get_or (b ∷ bs) n 0) ≡ false) (λ _. run_after bs) (λ e. e)

digit_below_ten : (b : ℕ) → is_ascii_digit b ≡ true → digit_value b < 10
digit_below_ten b d = grind (arith, nat_tests)

-- the first bytes of a run are digits
pub run_digits : (bs : List ℕ) (i : ℕ) → i ≤ run bs → AllDigits 10 (take i bs)
run_digits bs zero h = tt
run_digits bs (suc i) h =
    let at : i < run bs = omega arith in
    let more : i < length bs = omega (arith, run_within bs) in
    subst (λ n. AllDigits 10 (take n bs)) (add-one i) (digits_more 10 bs i more (run_digits bs i (omega arith)) (digit_below_ten (get_or bs i 0) (run_at bs i at)))

pub run_value : (bs : List ℕ) (i : ℕ) → i ≤ run bs → digits_value 10 (take i bs) < 10 ^ i
run_value bs i h =
    let long : length (take i bs) ≡ i = length-take-le i bs (omega (arith, run_within bs)) in
    rw long at (digits_value-lt 10 (take i bs) (run_digits bs i h))

-- a digit of a run stands for its distance from the digit 0
pub run_digit : (bs : List ℕ) (i : ℕ) → i < run bs → (48 ≤ get_or bs i 0) × (get_or bs i 0 ≤ 57) × (digit_value (get_or bs i 0) ≡ get_or bs i 0 - 48)
run_digit bs i h = let d = run_at bs i h in (grind (arith, nat_tests), grind (arith, nat_tests), grind (arith, nat_tests))

-- up to two digits of a run
pub run_few : (bs : List ℕ) (i : ℕ) → i ≤ run bs → i < 3 → digits_value 10 (take i bs) < 100
run_few bs zero h k = omega (arith, run_value bs 0 h)
run_few bs (suc zero) h k = omega (arith, run_value bs 1 h)
run_few bs (suc (suc zero)) h k = run_value bs 2 h
run_few bs (suc (suc (suc i))) h k = absurd (omega arith)

-- digits that no further digit follows
pub run_append : (ds rest : List ℕ) → AllDigits 10 ds → is_ascii_digit (get_or rest 0 0) ≡ false → run (ds ++ rest) ≡ length ds
run_append [] [] d stop = refl
run_append [] (b ∷ rest) d stop = cond-false _ _ _ stop
run_append (b ∷ ds) rest d stop =
    let low = digit_from_value b d.0 in
    cond-true _ _ _ (and_from _ _ (le-leb 48 b low.0) (le-leb b 57 low.1)) ∙ ap suc (run_append ds rest d.1 stop)

-- a run goes on in the bytes that begin alike
pub run_take : (bs rest : List ℕ) (i : ℕ) → i ≤ run bs → i ≤ run (take i bs ++ rest)
run_take bs rest zero h = omega arith
run_take [] rest (suc i) h = absurd (omega arith)
run_take (b ∷ bs) rest (suc i) h =
    let d = run_at (b ∷ bs) 0 (omega arith) in
    let whole = cond-true (is_ascii_digit b) (suc (run bs)) 0 d in
    let part = cond-true (is_ascii_digit b) (suc (run (take i bs ++ rest))) 0 d in
    omega (arith, whole, part, run_take bs rest i (omega (arith, whole)))
