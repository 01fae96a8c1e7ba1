-- Where a scan fails: the bytes before begin some text of its pieces, and with the byte that stands there they begin none.
-- Assumes nothing.
use Rattle.std.proofs.Common.{◌≡◌, ℕ, suc, ◌+◌, ◌<◌, ◌≤◌, Bool, true, false, cond, eqb, List, [], ◌∷◌, ◌++◌, length, get_or, take, drop, Some, None, Ok, Err, decimal, Option, Result, sym, refl, ap, ◌∙◌, subst, ⊎_elim, append_assoc, add-zero, add_assoc, add-suc, arith, take-add}
use Rattle.std.specs.Char.{is_ascii_digit}
use Rattle.std.proofs.lemmas.List.{drop_at, get_or-drop, length-drop, length-take-le}
use Rattle.std.proofs.lemmas.Bool.{cond-true, cond-false, cond_both, cases_Bool, eqb-true, eqb-false, and_parts, ltb-true, both_ways}
use Rattle.std.proofs.lemmas.Bool.Decides.{nat_tests}
use Rattle.text.specs.declared.fault.LineFault.{LineFault}
use Rattle.text.specs.declared.fault.TextCause.{TextCause}
use Rattle.text.specs.declared.fault.TextCause.TheVariants.{Byte, Digit}
use Rattle.text.specs.declared.number.Numeral.{Numeral}
use Rattle.text.specs.Numbers.{run, good, front, numeral, misplaced}
use Rattle.text.specs.Pieces.{Piece, byte, number, wrong, and_then, scan}
use Rattle.text.proofs.Runs.{run_within, run_at, run_after, run_append, run_digits, run_take}
use Rattle.text.proofs.Numerals.{Number, numeral_text, ends, decimal_good, taken_small, taken_text}
use Rattle.text.proofs.Spelling.{Spells, Bare, Parted, stops}
use Rattle.text.proofs.Results.{ok_or_err, err_same}
use Rattle.text.proofs.Steps.{scan_byte, scan_byte_fault, scan_number, scan_number_fault}

pub record Wrong (ps : List Piece) (bs : List ℕ) (i : ℕ) : Type 0 where
  pub within : i ≤ length bs
  pub before : (ns rest : List ℕ) × Spells ps ns (take i bs ++ rest)
  pub here : i < length bs → (ns rest : List ℕ) → Spells ps ns (take (suc i) bs ++ rest) → ⊥

-- the pieces have some text
some_text : (ps : List Piece) → (ns bs : List ℕ) × Spells ps ns bs
some_text [] = ([], [], (refl, refl))
some_text (byte b ∷ ps) = let (ns, bs, s) = some_text ps in (ns, b ∷ bs, (bs, refl, s))
some_text (number ∷ ps) = let (ns, bs, s) = some_text ps in (0 ∷ ns, decimal 0 ++ bs, (0, ns, bs, omega arith, refl, refl, s))

-- wrong at once
at_once : (ps : List Piece) (bs : List ℕ) → (0 < length bs → (ns rest : List ℕ) → Spells ps ns (take 1 bs ++ rest) → ⊥) → Wrong ps bs 0
at_once ps bs h = record { within = omega arith; before = ((some_text ps).0, (some_text ps).1, (some_text ps).2); here = h }

-- a byte further on
byte_on : (b x : ℕ) (ps : List Piece) (bs : List ℕ) (i : ℕ) → x ≡ b → Wrong ps bs i → Wrong (byte b ∷ ps) (x ∷ bs) (suc i)
byte_on b x ps bs i e w =
    record {
      within = omega (arith, w.within);
      before = (w.before.0, w.before.1, (take i bs ++ w.before.1, ap (λ y. y ∷ (take i bs ++ w.before.1)) e, w.before.2));
      here = λ h ns rest s. w.here (omega arith) ns rest (subst (Spells ps ns) (tail s.1) s.2);
    }
  where
    tail : {y z : ℕ} {us vs : List ℕ} → y ∷ us ≡ z ∷ vs → vs ≡ us
    tail e = cc

first_byte : (xs rest : List ℕ) (i : ℕ) → 0 < length xs → get_or (take (suc i) xs ++ rest) 0 0 ≡ get_or xs 0 0
first_byte [] rest i l = absurd (omega arith)
first_byte (x ∷ xs) rest i l = refl

-- the number is wrong
module _ (ps : List Piece) (bare : Bare ps) (bs : List ℕ) where
  good_text : (ns rest : List ℕ) → Spells (number ∷ ps) ns rest → good rest ≡ true
  good_text ns rest (n, ms, more, small, e, f, s) = ap good f ∙ decimal_good n more small (stops ps ms more bare s)

  -- so many digits are a number, and they are followed by no further one
  digits_stop : (i : ℕ) → 0 < i → i ≤ run bs → i ≤ 3 → (get_or bs 0 0 ≡ 48 → i ≡ 1) →
      ((rest : List ℕ) → good (take (suc i) bs ++ rest) ≡ true → ⊥) → Wrong (number ∷ ps) bs i
  digits_stop i some on few lone bad =
      let (ns, more, s) = some_text ps in
      let text = taken_text bs i some on few lone in
      record {
        within = omega (arith, run_within bs);
        before = (_ ∷ ns, more, (_, ns, more, taken_small bs i some on few lone, refl, ap (λ t. t ++ more) (sym text), s));
        here = λ _ ns rest s. bad rest (good_text ns _ s);
      }

  no_digit : run bs ≡ 0 → Wrong (number ∷ ps) bs 0
  no_digit none = at_once (number ∷ ps) bs (λ l ns rest s. go bs none l rest (good_text ns _ s))
    where
      go : (xs : List ℕ) → run xs ≡ 0 → 0 < length xs → (rest : List ℕ) → good (take 1 xs ++ rest) ≡ true → ⊥
      go [] n l rest g = omega arith
      go (x ∷ xs) n l rest g =
          let digit = run_at (x ∷ rest) 0 (ltb-true 0 (run (x ∷ rest)) (and_parts _ _ g).0) in
          both_ways (is_ascii_digit x) (ap (λ k. is_ascii_digit (get_or (x ∷ xs) k 0)) (sym n) ∙ run_after (x ∷ xs)) digit

  number_wrong : good bs ≡ false → Wrong (number ∷ ps) bs (misplaced bs)
  number_wrong g =
      cond_both (eqb (run bs) 0) 0 (cond (eqb (get_or bs 0 0) 48) 1 3) (Wrong (number ∷ ps) bs)
      (λ e. no_digit (eqb-true _ _ e))
      (λ e. cond_both (eqb (get_or bs 0 0) 48) 1 3 (Wrong (number ∷ ps) bs) (λ z. after_zero e z) (λ z. fourth e z))
    where
      after_zero : eqb (run bs) 0 ≡ false → eqb (get_or bs 0 0) 48 ≡ true → Wrong (number ∷ ps) bs 1
      after_zero e z =
          let two : 2 ≤ run bs = grind (arith, nat_tests) in
          digits_stop 1 (omega arith) (omega arith) (omega arith) (λ _. refl)
          (λ rest h.
          let on = run_take bs rest 2 two in
          let zero = first_byte bs rest 1 (omega (arith, run_within bs)) in
          let z' = eqb-true (get_or bs 0 0) 48 z in
          grind (arith, nat_tests))

      fourth : eqb (run bs) 0 ≡ false → eqb (get_or bs 0 0) 48 ≡ false → Wrong (number ∷ ps) bs 3
      fourth e z =
          let four : 4 ≤ run bs = grind (arith, nat_tests) in
          digits_stop 3 (omega arith) (omega arith) (omega arith) (λ y. absurd (eqb-false _ _ z y))
          (λ rest h. let on = run_take bs rest 4 four in grind (arith, nat_tests))

-- a number further on
number_on : (ps : List Piece) → Bare ps → (bs : List ℕ) (n : Numeral) (i : ℕ) → Number bs n → Wrong ps (drop n.digits bs) i →
    Wrong (number ∷ ps) bs (n.digits + i)
number_on ps bare bs n i told w =
    let d = n.digits in
    let back = length-drop d bs in
    record {
      within = omega (arith, w.within, told.within);
      before = (_ ∷ w.before.0, w.before.1, (_, w.before.0, _, told.small, refl, split i w.before.1 ∙ ap (λ t. t ++ (take i (drop d bs) ++ w.before.1)) (sym told.text), w.before.2));
      here = λ l ns rest s. w.here (omega (arith, told.within)) s.1 rest (again (omega (arith, told.within)) rest ns s);
    }
  where
    split : (k : ℕ) (rest : List ℕ) → take (n.digits + k) bs ++ rest ≡ take n.digits bs ++ (take k (drop n.digits bs) ++ rest)
    split k rest = ap (λ t. t ++ rest) (take-add n.digits k bs) ∙ append_assoc (take n.digits bs) (take k (drop n.digits bs)) rest

    -- the digits of both end in the same place
    again : 0 < length (drop n.digits bs) → (rest ns : List ℕ) (s : Spells (number ∷ ps) ns (take (suc (n.digits + i)) bs ++ rest)) →
        Spells ps s.1 (take (suc i) (drop n.digits bs) ++ rest)
    again more rest ns (m, ms, r, small, e, f, s) =
        let d = n.digits in
        let next = take (suc i) (drop d bs) ++ rest in
        let both = sym f ∙ ap (λ k. take k bs ++ rest) (sym (add-suc d i)) ∙ split (suc i) rest in
        let at = first_byte (drop d bs) rest i more ∙ get_or-drop d bs 0 0 ∙ ap (λ k. get_or bs k 0) (add-zero d ∙ told.all) in
        let mine = run_append (take d bs) next (run_digits bs d (omega (arith, told.all))) (ap is_ascii_digit at ∙ run_after bs) in
        let its = ends m r small (stops ps ms r bare s) in
        let long = length-take-le d bs told.within in
        let same : length (decimal m) ≡ d = sym its ∙ ap run both ∙ mine ∙ long in
        subst (Spells ps ms) (sym (drop_at (decimal m) r d same) ∙ ap (drop d) both ∙ drop_at (take d bs) next d long) s

none_from_cond : {X : Type 0} (b : Bool) (x : X) → cond b (Some x) None ≡ None → b ≡ false
none_from_cond true x e = let z : ◌≡◌ {A = ℕ} 0 1 = cc in absurd (omega arith)
none_from_cond false x e = refl

pub same_column : {A : Type 0} {r : Result A LineFault} (column : ℕ) (cause : TextCause) (f : LineFault) → r ≡ Err (wrong column cause) →
    r ≡ Err f → f.column ≡ column
same_column column cause f p q = let g : f ≡ wrong column cause = cc in ap (λ x. x.column) g

pub wrong_at : (ps : List Piece) → Parted ps → (column : ℕ) (bs : List ℕ) (f : LineFault) → scan ps column bs ≡ Err f → (i : ℕ) ×
    (f.column ≡ column + i) × Wrong ps bs i
unfolding scan
wrong_at [] h column [] f e = absurd (ok_or_err {f = f} refl e)
wrong_at [] h column (b ∷ bs) f e =
    (0, same_column column Byte f refl e ∙ sym (add-zero column), at_once [] (b ∷ bs) (λ _ ns rest s. let z : ◌≡◌ {A = ℕ} 0 1 = cc s.1 in omega arith))
wrong_at (byte b ∷ ps) h column [] f e =
    (0, same_column column Byte f refl e ∙ sym (add-zero column), at_once (byte b ∷ ps) [] (λ l ns rest s. absurd (omega arith)))
wrong_at (byte b ∷ ps) h column (x ∷ bs) f e =
    ⊎_elim
    (λ t.
    let (i, k, w) = wrong_at ps h (column + 1) bs f (sym (scan_byte b column (x ∷ bs) ps bs (cond-true _ _ _ t)) ∙ e) in
    (suc i, omega arith, byte_on b x ps bs i (eqb-true x b t) w))
    (λ n. (
      0,
      same_column column Byte f (scan_byte_fault b column (x ∷ bs) ps _ (cond-false _ _ _ n)) e ∙ sym (add-zero column),
      at_once (byte b ∷ ps) (x ∷ bs) (λ _ ns rest s. eqb-false x b n (cc s.1)),
    ))
    (cases_Bool (eqb x b))
wrong_at (number ∷ ps) h column bs f e = go (numeral bs) refl (wrong_at ps h.1)
  where
    After : Type 0
    After = (column : ℕ) (bs : List ℕ) (f : LineFault) → scan ps column bs ≡ Err f → (i : ℕ) × (f.column ≡ column + i) × Wrong ps bs i

    more : (n : Numeral) → numeral bs ≡ Some n → After → (r : Result (List ℕ) LineFault) →
        scan ps (column + n.digits) (drop n.digits bs) ≡ r → (i : ℕ) × (f.column ≡ column + i) × Wrong (number ∷ ps) bs i
    more n g ih (Ok ms) k = absurd (ok_or_err (scan_number column bs ps n g ∙ ap (λ r. and_then r (λ ms. Ok (n.value ∷ ms))) k) e)
    more n g ih (Err x) k =
        let all = scan_number column bs ps n g ∙ ap (λ r. and_then r (λ ms. Ok (n.value ∷ ms))) k in
        let same = sym all ∙ e in
        let (i, at, w) = ih _ _ f (k ∙ ap Err (err_same same)) in
        (n.digits + i, at ∙ add_assoc column n.digits i, number_on ps h.0 bs n i (numeral_text bs n g) w)

    go : (o : Option Numeral) → numeral bs ≡ o → After → (i : ℕ) × (f.column ≡ column + i) × Wrong (number ∷ ps) bs i
    go None g ih =
        (misplaced bs, same_column _ Digit f (scan_number_fault column bs ps g) e, number_wrong ps h.0 bs (none_from_cond (good bs) (front bs) g))
    go (Some n) g ih = more n g ih _ refl
