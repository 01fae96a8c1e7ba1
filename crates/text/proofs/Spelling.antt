-- A scan reads exactly the bytes that spell its pieces.
-- Assumes nothing.
use Rattle.std.proofs.Common.{◌≡◌, ℕ, ◌+◌, ◌≤◌, false, eqb, List, [], ◌∷◌, ◌++◌, get_or, drop, Some, None, Ok, Err, decimal, Option, Result, sym, refl, ap, ◌∙◌, ⊎_elim}
use Rattle.std.specs.Char.{is_ascii_digit}
use Rattle.std.proofs.lemmas.List.{take-append-drop, drop_at}
use Rattle.std.proofs.lemmas.Bool.{cond-true, cond-false, cases_Bool, eqb-true, eq-eqb}
use Rattle.text.specs.declared.fault.LineFault.{LineFault}
use Rattle.text.specs.declared.number.Numeral.{Numeral}
use Rattle.text.specs.Numbers.{numeral}
use Rattle.text.specs.Pieces.{Piece, byte, number, and_then, scan}
use Rattle.text.proofs.Numerals.{numeral_text, decimal_front}
use Rattle.text.proofs.Results.{ok_or_err}
use Rattle.text.proofs.Steps.{scan_byte, scan_byte_fault, scan_number, scan_number_fault}

-- the bytes spell the pieces with these numbers
abbrev pub Spells : List Piece → List ℕ → List ℕ → Type 0
Spells [] ns bs = (ns ≡ []) × (bs ≡ [])
Spells (byte b ∷ ps) ns bs = (rest : List ℕ) × (bs ≡ b ∷ rest) × Spells ps ns rest
Spells (number ∷ ps) ns bs = (n : ℕ) × (ms rest : List ℕ) × (n ≤ 999) × (ns ≡ n ∷ ms) × (bs ≡ decimal n ++ rest) × Spells ps ms rest

-- no text of these pieces begins with a digit
abbrev pub Bare : List Piece → Type 0
Bare [] = Unit {0}
Bare (byte b ∷ ps) = is_ascii_digit b ≡ false
Bare (number ∷ ps) = ⊥

-- no digit follows a number
abbrev pub Parted : List Piece → Type 0
Parted [] = Unit {0}
Parted (byte b ∷ ps) = Parted ps
Parted (number ∷ ps) = Bare ps × Parted ps

pub spelled_by : (ps : List Piece) (column : ℕ) (bs ns : List ℕ) → scan ps column bs ≡ Ok ns → Spells ps ns bs
unfolding scan
spelled_by [] column [] ns e = (cc, refl)
spelled_by [] column (b ∷ bs) ns e = absurd (ok_or_err e refl)
spelled_by (byte b ∷ ps) column [] ns e = absurd (ok_or_err e refl)
spelled_by (byte b ∷ ps) column (x ∷ bs) ns e =
    ⊎_elim
    (λ t. (bs, ap (λ y. y ∷ bs) (eqb-true x b t), spelled_by ps (column + 1) bs ns (sym (scan_byte b column (x ∷ bs) ps bs (cond-true _ _ _ t)) ∙ e)))
    (λ f. absurd (ok_or_err e (scan_byte_fault b column (x ∷ bs) ps _ (cond-false _ _ _ f))))
    (cases_Bool (eqb x b))
spelled_by (number ∷ ps) column bs ns e = go (numeral bs) refl (spelled_by ps)
  where
    After : Type 0
    After = (column : ℕ) (bs ns : List ℕ) → scan ps column bs ≡ Ok ns → Spells ps ns bs

    more : (n : Numeral) → numeral bs ≡ Some n → After → (r : Result (List ℕ) LineFault) →
        scan ps (column + n.digits) (drop n.digits bs) ≡ r → Spells (number ∷ ps) ns bs
    more n f ih (Ok ms) g =
        let told = numeral_text bs n f in
        let all = scan_number column bs ps n f ∙ ap (λ r. and_then r (λ ms. Ok (n.value ∷ ms))) g in
        (n.value, ms, drop n.digits bs, told.small, cc, sym (ap (λ t. t ++ drop n.digits bs) told.text ∙ take-append-drop n.digits bs), ih _ _ ms g)
    more n f ih (Err x) g = absurd (ok_or_err e (scan_number column bs ps n f ∙ ap (λ r. and_then r (λ ms. Ok (n.value ∷ ms))) g))

    go : (o : Option Numeral) → numeral bs ≡ o → After → Spells (number ∷ ps) ns bs
    go None f ih = absurd (ok_or_err e (scan_number_fault column bs ps f))
    go (Some n) f ih = more n f ih _ refl

pub stops : (ps : List Piece) (ns bs : List ℕ) → Bare ps → Spells ps ns bs → is_ascii_digit (get_or bs 0 0) ≡ false
stops [] ns bs h s = ap (λ t. is_ascii_digit (get_or t 0 0)) s.1
stops (byte b ∷ ps) ns bs h s = ap (λ t. is_ascii_digit (get_or t 0 0)) s.1 ∙ h
stops (number ∷ ps) ns bs h s = absurd h

pub reads_spelled : (ps : List Piece) → Parted ps → (column : ℕ) (bs ns : List ℕ) → Spells ps ns bs → scan ps column bs ≡ Ok ns
unfolding scan
reads_spelled [] h column bs ns s = ap (scan [] column) s.1 ∙ ap Ok (sym s.0)
reads_spelled (byte b ∷ ps) h column bs ns s =
    ap (scan (byte b ∷ ps) column) s.1 ∙ scan_byte b column (b ∷ s.0) ps s.0 (cond-true _ _ _ (eq-eqb b b refl))
    ∙ reads_spelled ps h (column + 1) s.0 ns s.2
reads_spelled (number ∷ ps) h column bs ns (n, ms, rest, small, front, text, s) =
    let at = decimal_front n rest small (stops ps ms rest h.0 s) in
    ap (scan (number ∷ ps) column) text ∙ scan_number column (decimal n ++ rest) ps _ at
    ∙ ap (λ r. and_then r (λ ms. Ok (n ∷ ms))) (ap (scan ps _) (drop_at (decimal n) rest _ refl) ∙ reads_spelled ps h.1 _ rest ms s)
    ∙ ap Ok (sym front)
