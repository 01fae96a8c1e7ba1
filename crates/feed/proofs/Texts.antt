-- The lines of a file that says events are their texts.
-- Assumes nothing.
use Rattle.std.proofs.Common.{◌≡◌, ℕ, ◌≤◌, Bool, true, not, ◌&&◌, eqb, ◌⊎◌, List, [], ◌∷◌, ◌++◌, map, codes, decimal, sym, refl, ap, ◌∙◌, inl, inr, append_assoc, arith}
use Rattle.std.specs.Str.Parse.{AllDigits}
use Rattle.std.proofs.lemmas.Fmt.{digits_decimal}
use Rattle.std.proofs.lemmas.List.{append_cancel_right}
use Rattle.std.proofs.lemmas.Str.Parse.{numerals_by_value, tells_digits, digit_from_value}
use Rattle.std.proofs.lemmas.Bool.{cond-false, eqb-false, ne_eqb, and_parts, not-true}
use Rattle.rows.specs.declared.event.Event.{Event}
use Rattle.rows.specs.declared.event.Event.TheVariants.{Lock, Release, Start, Join}
use Rattle.text.specs.Lines.{Sayable, text_of, line_of}
use Rattle.feed.specs.Files.{file_of, AllSayable}
use Rattle.feed.specs.Lines.{onto, lines}

-- the file, or the file with a last newline
abbrev pub Ended : List ℕ → List ℕ → Type 0
Ended file whole = (file ≡ whole) ⊎ (file ++ (10 ∷ []) ≡ whole)

-- no byte ends a line
abbrev Solid : List ℕ → Type 0
Solid [] = Unit {0}
Solid (b ∷ bs) = (b ≡ 10 → ⊥) × Solid bs

solid_append : (xs ys : List ℕ) → Solid xs → Solid ys → Solid (xs ++ ys)
solid_append [] ys p q = q
solid_append (x ∷ xs) ys p q = (p.0, solid_append xs ys p.1 q)

solid_digits : (ds : List ℕ) → AllDigits 10 ds → Solid ds
solid_digits [] d = tt
solid_digits (b ∷ ds) d = ((λ e. omega (arith, digit_from_value b d.0)), solid_digits ds d.1)

solid_decimal : (n : ℕ) → n ≤ 999 → Solid (decimal n)
solid_decimal n small = solid_digits (decimal n) (digits_decimal (numerals_by_value (AllDigits 10) tells_digits) n (omega arith))

-- at bytes that are written out this is computed
abbrev no_newline : List ℕ → Bool
no_newline [] = true
no_newline (b ∷ bs) = not (eqb b 10) && no_newline bs

solid_literal : (bs : List ℕ) → no_newline bs ≡ true → Solid bs
solid_literal [] h = tt
solid_literal (b ∷ bs) h = let p = and_parts _ _ h in (eqb-false b 10 (not-true _ p.0), solid_literal bs p.1)

solid_line : (front between : List ℕ) (t x : ℕ) → no_newline front ≡ true → no_newline between ≡ true → t ≤ 999 → x ≤ 999 →
    Solid (line_of front between t x)
solid_line front between t x p q small also =
    solid_append front _ (solid_literal front p) (solid_append (decimal t) _ (solid_decimal t small)
    (solid_append between _ (solid_literal between q) (solid_append (decimal x) _ (solid_decimal x also) ((λ e. omega arith), tt))))

solid_text : (e : Event) → Sayable e → Solid (text_of e)
solid_text (Lock t o) s = solid_line (codes "l(T") (codes ",L") t o refl refl s.0 s.1
solid_text (Release t o) s = solid_line (codes "u(T") (codes ",L") t o refl refl s.0 s.1
solid_text (Start t u) s = solid_line (codes "s(T") (codes ",T") t u refl refl s.0 s.1
solid_text (Join t u) s = solid_line (codes "j(T") (codes ",T") t u refl refl s.0 s.1

-- a line of its own, and the last one without a newline
lines_of_line : (l rest : List ℕ) → Solid l → lines (l ++ (10 ∷ rest)) ≡ l ∷ lines rest
lines_of_line [] rest s = refl
lines_of_line (b ∷ l) rest s = cond-false _ _ _ (ne_eqb b 10 s.0) ∙ ap (onto b) (lines_of_line l rest s.1)

lines_of_last : (b : ℕ) (l : List ℕ) → Solid (b ∷ l) → lines (b ∷ l) ≡ (b ∷ l) ∷ []
lines_of_last b [] s = cond-false _ _ _ (ne_eqb b 10 s.0)
lines_of_last b (c ∷ l) s = cond-false _ _ _ (ne_eqb b 10 s.0) ∙ ap (onto b) (lines_of_last c l s.1)

lines_of_text : (e : Event) → Sayable e → lines (text_of e) ≡ text_of e ∷ []
lines_of_text (Lock t o) s = lines_of_last _ _ (solid_text (Lock t o) s)
lines_of_text (Release t o) s = lines_of_last _ _ (solid_text (Release t o) s)
lines_of_text (Start t u) s = lines_of_last _ _ (solid_text (Start t u) s)
lines_of_text (Join t u) s = lines_of_last _ _ (solid_text (Join t u) s)

lines_of_file : (es : List Event) → AllSayable es → lines (file_of es) ≡ map text_of es
lines_of_file [] s = refl
lines_of_file (e ∷ es) s = lines_of_line (text_of e) (file_of es) (solid_text e s.0)
    ∙ ap (λ ls. text_of e ∷ ls) (lines_of_file es s.1)

-- the file without its last newline
abbrev open_file : Event → List Event → List ℕ
open_file e [] = text_of e
open_file e (f ∷ es) = text_of e ++ (10 ∷ open_file f es)

closed : (e : Event) (es : List Event) → file_of (e ∷ es) ≡ open_file e es ++ (10 ∷ [])
closed e [] = refl
closed e (f ∷ es) = ap (λ t. text_of e ++ (10 ∷ t)) (closed f es) ∙ sym (append_assoc (text_of e) (10 ∷ open_file f es) (10 ∷ []))

lines_of_open : (e : Event) (es : List Event) → AllSayable (e ∷ es) → lines (open_file e es) ≡ map text_of (e ∷ es)
lines_of_open e [] s = lines_of_text e s.0
lines_of_open e (f ∷ es) s = lines_of_line (text_of e) (open_file f es) (solid_text e s.0)
    ∙ ap (λ ls. text_of e ∷ ls) (lines_of_open f es s.1)

pub lines_of_ended : (file : List ℕ) (es : List Event) → AllSayable es → Ended file (file_of es) → lines file ≡ map text_of es
lines_of_ended file es s (inl h) = ap lines h ∙ lines_of_file es s
lines_of_ended file [] s (inr h) = absurd (no_end file h)
  where
    no_end : (file : List ℕ) → file ++ (10 ∷ []) ≡ [] → ⊥
    no_end [] h = let z : ◌≡◌ {A = ℕ} 0 1 = cc in omega arith
    no_end (b ∷ file) h = let z : ◌≡◌ {A = ℕ} 0 1 = cc in omega arith
lines_of_ended file (e ∷ es) s (inr h) =
    ap lines (append_cancel_right file (open_file e es) (10 ∷ []) (h ∙ closed e es)) ∙ lines_of_open e es s
