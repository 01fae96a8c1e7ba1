-- Numbers as they stand in a line, and their texts.
-- Assumes nothing.
use Rattle.std.proofs.Common.{◌≡◌, ℕ, zero, suc, ◌^◌, ◌<◌, ◌≤◌, Bool, true, false, cond, leb, List, ◌++◌, length, get_or, take, Some, None, Ok, decimal, Result, sym, refl, ap, ◌∙◌, subst, ⊎_elim, arith}
use Rattle.std.specs.Str.{IsUtf8}
use Rattle.std.specs.Str.Parse.{AllDigits, ParsesUnsigned, digits_value}
use Rattle.std.specs.Char.{is_ascii_digit}
use Rattle.std.proofs.lemmas.Fmt.{IsAscii-from_digits, decimal-digits_value, digits_decimal, digits_value-decimal, decimal_nonempty, length-decimal-le, first_decimal}
use Rattle.std.proofs.lemmas.List.{take_at, length-take-le, get_or-take, get_or_append_left}
use Rattle.std.proofs.lemmas.Str.{IsUtf8-from_ascii}
use Rattle.std.proofs.lemmas.Str.Parse.{parse_gives, IsNumeralModel, digits_value_short, numerals_by_value, tells_digits}
use Rattle.std.proofs.lemmas.Bool.{cond-true, and_parts, and_from, or_cases, or_left, or_right, leb-true, ltb-true, le-leb, lt-ltb, eqb-false, ne_eqb, not-true, not_from_false}
use Rattle.text.specs.declared.number.Numeral.{Numeral}
use Rattle.text.specs.Numbers.{run, tidy, good, front, numeral}
use Rattle.text.proofs.Runs.{run_within, run_digits, run_append}

own : IsNumeralModel (AllDigits 10) (digits_value 10)
own = numerals_by_value (AllDigits 10) tells_digits

below_thousand : (bs : List ℕ) (i : ℕ) → i ≤ run bs → i ≤ 3 → digits_value 10 (take i bs) ≤ 999
below_thousand bs i h k =
    let long = length-take-le i bs (omega (arith, run_within bs)) in
    omega (arith, digits_value_short own (take i bs) 3 (run_digits bs i h) (omega arith))

-- the run is text, and short ones are parsed as the numbers that they write
module _ (bs : List ℕ) (n : ℕ) (all : n ≡ run bs) where
  digits : AllDigits 10 (take n bs)
  digits = run_digits bs n (omega arith)

  pub run_is_utf8 : IsUtf8 (take n bs)
  run_is_utf8 = IsUtf8-from_ascii _ (IsAscii-from_digits _ digits)

  pub run_parses : {E : Type 0} (r : Result ℕ E) → ParsesUnsigned 16 10 (take n bs) r → 0 < n → n ≤ 3 → r ≡ Ok (digits_value 10 (take n bs))
  run_parses r h some few =
      let long = length-take-le n bs (omega (arith, run_within bs)) in
      let small = below_thousand bs n (omega arith) few in
      parse_gives own 16 _ r h digits (omega arith) (omega arith)

some_from_cond : {X : Type 0} (b : Bool) (x y : X) → cond b (Some x) None ≡ Some y → (b ≡ true) × (x ≡ y)
some_from_cond true x y e = (refl, cc)
some_from_cond false x y e = let z : ◌≡◌ {A = ℕ} 0 1 = cc in absurd (omega arith)

-- the number at the front of some bytes
pub record Number (bs : List ℕ) (n : Numeral) : Type 0 where
  pub all : n.digits ≡ run bs
  pub few : n.digits ≤ 3
  pub within : n.digits ≤ length bs
  pub small : n.value ≤ 999
  pub text : decimal n.value ≡ take n.digits bs

-- up to three digits of a run are the text of their number, unless a zero stands before others
module _ (bs : List ℕ) (i : ℕ) (some : 0 < i) (run_on : i ≤ run bs) (few : i ≤ 3) (lone : get_or bs 0 0 ≡ 48 → i ≡ 1) where
  pub taken_small : digits_value 10 (take i bs) ≤ 999
  taken_small = below_thousand bs i run_on few

  pub taken_text : decimal (digits_value 10 (take i bs)) ≡ take i bs
  taken_text =
      let long = length-take-le i bs (omega (arith, run_within bs)) in
      decimal-digits_value own (take i bs) (run_digits bs i run_on) (omega arith) (λ e. long ∙ lone (sym (get_or-take i bs 0 0 some) ∙ e)) (omega (arith, taken_small))

front_text : (bs : List ℕ) → good bs ≡ true → Number bs (front bs)
front_text bs g =
    let parts = and_parts _ _ g in
    let most = and_parts _ _ parts.1 in
    let some = ltb-true 0 (run bs) parts.0 in
    let few = leb-true (run bs) 3 most.0 in
    let on : run bs ≤ run bs = omega arith in
    let lone : get_or bs 0 0 ≡ 48 → run bs ≡ 1 = single some most.1 in
    record {
      all = refl;
      few = few;
      within = run_within bs;
      small = taken_small bs (run bs) some on few lone;
      text = taken_text bs (run bs) some on few lone;
    }
  where
    single : 0 < run bs → tidy bs ≡ true → get_or bs 0 0 ≡ 48 → run bs ≡ 1
    single some t e =
        ⊎_elim
        (λ (l : leb (run bs) 1 ≡ true). omega (arith, leb-true (run bs) 1 l))
        (λ n. absurd (eqb-false (get_or bs 0 0) 48 (not-true _ n) e))
        (or_cases _ _ t)

pub numeral_text : (bs : List ℕ) (n : Numeral) → numeral bs ≡ Some n → Number bs n
numeral_text bs n e = let p = some_from_cond (good bs) (front bs) n e in subst (Number bs) p.1 (front_text bs p.0)

-- a number that no digit follows
module _ (n : ℕ) (rest : List ℕ) (small : n ≤ 999) (stop : is_ascii_digit (get_or rest 0 0) ≡ false) where
  fits : n < 2 ^ 64
  fits = omega arith

  pub ends : run (decimal n ++ rest) ≡ length (decimal n)
  ends = run_append (decimal n) rest (digits_decimal own n fits) stop

  neat : tidy (decimal n ++ rest) ≡ true
  neat = go n refl
    where
      go : (m : ℕ) → n ≡ m → tidy (decimal n ++ rest) ≡ true
      go zero e =
          let one : run (decimal n ++ rest) ≤ 1 = omega (arith, ends, length-decimal-le 1 n (omega arith) (omega arith) fits) in
          or_left _ _ (le-leb _ 1 one)
      go (suc m) e =
          let first = first_decimal n (omega arith) fits in
          let same = get_or_append_left (decimal n) rest 0 0 (decimal_nonempty n fits) in
          let other : get_or (decimal n ++ rest) 0 0 ≡ 48 → ⊥ = λ z. omega arith in
          or_right _ _ (not_from_false _ (ne_eqb _ 48 other))

  pub decimal_good : good (decimal n ++ rest) ≡ true
  decimal_good =
      let some : 0 < run (decimal n ++ rest) = omega (arith, ends, decimal_nonempty n fits) in
      let short = length-decimal-le 3 n (omega arith) (omega arith) fits in
      let few : run (decimal n ++ rest) ≤ 3 = omega (arith, ends) in
      and_from _ _ (lt-ltb 0 _ some) (and_from _ _ (le-leb _ 3 few) neat)

  pub decimal_front : numeral (decimal n ++ rest) ≡ Some (record { value = n; digits = length (decimal n) })
  decimal_front =
      let all = ap (λ k. take k (decimal n ++ rest)) ends ∙ take_at (decimal n) rest _ refl in
      let same = ap (digits_value 10) all ∙ digits_value-decimal own n fits in
      cond-true _ _ _ decimal_good ∙ ap Some (λ i. record { value = same i; digits = ends i })
