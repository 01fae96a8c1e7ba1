-- What a line is read as, by its letter and its two numbers.
-- Assumes nothing.
use Rattle.std.proofs.Common.{◌≡◌, ℕ, suc, ◌-◌, ◌<◌, ◌≤◌, Bool, true, false, eqb, ◌⊎◌, ◌↔◌, List, [], ◌∷◌, ◌++◌, length, get_or, take, Ok, Err, decimal, Result, sym, refl, ap, ◌∙◌, subst, subst₂, inl, inr, ⊎_elim, arith}
use Rattle.std.proofs.lemmas.Bool.{cond-false, eqb-true}
use Rattle.rows.specs.declared.event.Event.{Event}
use Rattle.rows.specs.declared.event.Event.TheVariants.{Lock, Release, Start, Join}
use Rattle.text.specs.declared.fault.LineFault.{LineFault}
use Rattle.text.specs.declared.fault.TextCause.TheVariants.{Letter}
use Rattle.text.specs.Pieces.{wrong, and_then, scan}
use Rattle.text.proofs.Leftmost.{Wrong, same_column, wrong_at}
use Rattle.text.proofs.Results.{ok_same, err_same, ok_or_err}
use Rattle.text.specs.Lines.{Sayable, Says, Begins, Leftmost, text_of, arguments, event, reading}
use Rattle.text.proofs.Spelling.{Spells, Parted, spelled_by, reads_spelled}

-- from the bracket on
abbrev after_letter : ℕ → ℕ → ℕ → List ℕ
after_letter k t x = 40 ∷ 84 ∷ (decimal t ++ (44 ∷ k ∷ (decimal x ++ (41 ∷ []))))

-- two numbers that a line can say, and that it does say from the bracket on
record Told (k : ℕ) (ns bs : List ℕ) : Type 0 where
  first : ℕ
  second : ℕ
  small : (first ≤ 999) × (second ≤ 999)
  numbers : ns ≡ first ∷ second ∷ []
  bytes : bs ≡ after_letter k first second

told : (k : ℕ) (ns bs : List ℕ) → Spells (arguments k) ns bs → Told k ns bs
told k ns bs (r1, e1, (r2, e2, (t, ms, r3, p, e3, e4, (r5, e5, (r6, e6, (x, ls, r7, q, e7, e8, (r9, e9, (e10, e11)))))))) =
    record { first = t; second = x; small = (p, q); numbers = cc; bytes = cc }

spelled : (k t x : ℕ) → t ≤ 999 → x ≤ 999 → Spells (arguments k) (t ∷ x ∷ []) (after_letter k t x)
spelled k t x p q = (_, refl, (_, refl, (t, x ∷ [], _, p, refl, refl, (_, refl, (_, refl, (x, [], _, q, refl, refl, (_, refl, (refl, refl))))))))

parted : (k : ℕ) → Parted (arguments k)
parted k = (refl, (refl, tt))

event_scan : (make : ℕ → ℕ → Event) (k : ℕ) (bs : List ℕ) (r : Result (List ℕ) LineFault) → scan (arguments k) 2 bs ≡ r →
    event make k bs ≡ and_then r (λ ns. Ok (make (get_or ns 0 0) (get_or ns 1 0)))
event_scan make k bs r f = ap (λ x. and_then x (λ ns. Ok (make (get_or ns 0 0) (get_or ns 1 0)))) f

event_spelled : (make : ℕ → ℕ → Event) (k : ℕ) (bs : List ℕ) (e : Event) (r : Result (List ℕ) LineFault) → scan (arguments k) 2 bs ≡ r →
    event make k bs ≡ Ok e → (ns : List ℕ) × Spells (arguments k) ns bs × (e ≡ make (get_or ns 0 0) (get_or ns 1 0))
event_spelled make k bs e (Ok ns) f g = (ns, spelled_by (arguments k) 2 bs ns f, ok_same (sym g ∙ event_scan make k bs (Ok ns) f))
event_spelled make k bs e (Err x) f g = absurd (ok_or_err g (event_scan make k bs (Err x) f))

event_fault : (make : ℕ → ℕ → Event) (k : ℕ) (bs : List ℕ) (f : LineFault) (r : Result (List ℕ) LineFault) → scan (arguments k) 2 bs ≡ r →
    event make k bs ≡ Err f → scan (arguments k) 2 bs ≡ Err f
event_fault make k bs f (Ok ns) g h = absurd (ok_or_err (event_scan make k bs (Ok ns) g) h)
event_fault make k bs f (Err x) g h = g ∙ ap Err (err_same (sym (event_scan make k bs (Err x) g) ∙ h))

-- one kind of event, by its letter and the letter before its second number
record Kind (make : ℕ → ℕ → Event) (letter k : ℕ) : Type 0 where
  read : (xs : List ℕ) → reading (letter ∷ xs) ≡ event make k xs
  text : (t x : ℕ) → text_of (make t x) ≡ letter ∷ after_letter k t x
  sayable : (t x : ℕ) → t ≤ 999 → x ≤ 999 → Sayable (make t x)

record OfKind (b : ℕ) : Type 0 where
  make : ℕ → ℕ → Event
  letter : ℕ
  k : ℕ
  kind : Kind make letter k
  is : b ≡ letter

-- the first letter is that of a kind, or no line with it is read
letters : (b : ℕ) → OfKind b ⊎ ((xs : List ℕ) → reading (b ∷ xs) ≡ Err (wrong 1 Letter))
letters b =
    or_else (eqb b 108) (λ e. record { make = Lock; letter = 108; k = 76; kind = record { read = λ _. refl; text = λ _ _. refl; sayable = λ _ _ p q. (p, q) }; is = eqb-true b 108 e })
    (λ n₁. or_else (eqb b 117) (λ e. record { make = Release; letter = 117; k = 76; kind = record { read = λ _. refl; text = λ _ _. refl; sayable = λ _ _ p q. (p, q) }; is = eqb-true b 117 e })
    (λ n₂. or_else (eqb b 115) (λ e. record { make = Start; letter = 115; k = 84; kind = record { read = λ _. refl; text = λ _ _. refl; sayable = λ _ _ p q. (p, q) }; is = eqb-true b 115 e })
    (λ n₃. or_else (eqb b 106) (λ e. record { make = Join; letter = 106; k = 84; kind = record { read = λ _. refl; text = λ _ _. refl; sayable = λ _ _ p q. (p, q) }; is = eqb-true b 106 e })
    (λ n₄. inr (λ xs. cond-false _ _ _ n₁ ∙ cond-false _ _ _ n₂ ∙ cond-false _ _ _ n₃ ∙ cond-false _ _ _ n₄)))))
  where
    or_else : {A B : Type 0} (t : Bool) → (t ≡ true → A) → (t ≡ false → A ⊎ B) → A ⊎ B
    or_else true f g = inl (f refl)
    or_else false f g = g refl

-- what a line of a kind says, and that it is read so
module _ (b : ℕ) (of : OfKind b) where
  as_event : (bs : List ℕ) {r : Result Event LineFault} → reading (b ∷ bs) ≡ r → event of.make of.k bs ≡ r
  as_event bs h = sym (of.kind.read bs) ∙ ap (λ x. reading (x ∷ bs)) (sym of.is) ∙ h

  said : (bs : List ℕ) (e : Event) → reading (b ∷ bs) ≡ Ok e → Says (b ∷ bs) e
  said bs e h =
      let (ns, s, f) = event_spelled of.make of.k bs e _ refl (as_event bs h) in
      let two = told of.k ns bs s in
      let same = f ∙ ap (λ ns. of.make (get_or ns 0 0) (get_or ns 1 0)) two.numbers in
      let text = of.kind.text two.first two.second in
      subst₂ Says (sym (λ i. of.is i ∷ two.bytes i)) (sym same) (of.kind.sayable _ _ two.small.0 two.small.1, sym text)

says : (line : List ℕ) (e : Event) → reading line ≡ Ok e → Says line e
says [] e h = absurd (ok_or_err h refl)
says (b ∷ bs) e h = ⊎_elim (λ of. said b of bs e h) (λ none. absurd (ok_or_err h (none bs))) (letters b)

event_read : (make : ℕ → ℕ → Event) (k t x : ℕ) → t ≤ 999 → x ≤ 999 → event make k (after_letter k t x) ≡ Ok (make t x)
event_read make k t x p q = event_scan make k _ _ (reads_spelled (arguments k) (parted k) 2 _ _ (spelled k t x p q))

reads_text : (e : Event) → Sayable e → reading (text_of e) ≡ Ok e
reads_text (Lock t o) (p, q) = event_read Lock 76 t o p q
reads_text (Release t o) (p, q) = event_read Release 76 t o p q
reads_text (Start t u) (p, q) = event_read Start 84 t u p q
reads_text (Join t u) (p, q) = event_read Join 84 t u p q

-- a line is read as an event exactly when it is that event's text
pub reading_says : (line : List ℕ) (e : Event) → (reading line ≡ Ok e) ↔ Says line e
reading_says line e = (says line e, λ s. ap reading s.1 ∙ reads_text e s.0)

begins_nothing : Begins []
begins_nothing = (Lock 0 0, text_of (Lock 0 0), (omega arith, omega arith), refl)

-- the fault lies behind the letter
module _ (b : ℕ) (of : OfKind b) (bs : List ℕ) (i : ℕ) (w : Wrong (arguments of.k) bs i) where
  letter_begins : Begins (b ∷ take i bs)
  letter_begins =
      let (ns, rest, s) = w.before in
      let two = told of.k ns (take i bs ++ rest) s in (
        of.make two.first two.second,
        rest,
        of.kind.sayable _ _ two.small.0 two.small.1,
        of.kind.text two.first two.second ∙ (λ j. sym of.is j ∷ sym two.bytes j),
      )

  letter_stops : i < length bs → Begins (b ∷ take (suc i) bs) → ⊥
  letter_stops l (e, rest, say, text) =
      let (ns, s, f) = event_spelled of.make of.k _ e _ refl (as_event b of _ (ap reading (sym text) ∙ reads_text e say)) in
      w.here l ns rest s

  behind_letter : Leftmost (b ∷ bs) (suc (suc i))
  behind_letter =
      let back : suc i ≡ suc (suc i) - 1 = omega arith in
      record {
        first = omega arith;
        last = omega (arith, w.within);
        before = subst (λ n. Begins (take n (b ∷ bs))) back letter_begins;
        wrong = λ l. letter_stops (omega arith);
      }

-- the fault is the letter, or there is none
at_letter : (line : List ℕ) → ((b : ℕ) (xs : List ℕ) → line ≡ b ∷ xs → (rest : List ℕ) → reading (b ∷ rest) ≡ Err (wrong 1 Letter)) →
    Leftmost line 1
at_letter [] h = record { first = omega arith; last = omega arith; before = begins_nothing; wrong = λ l. absurd (omega arith) }
at_letter (b ∷ bs) h =
    record {
      first = omega arith;
      last = omega arith;
      before = begins_nothing;
      wrong = λ l (e, rest, say, text). ok_or_err (ap reading (sym text) ∙ reads_text e say) (h b bs refl rest);
    }

-- a fault is at the leftmost wrong byte
pub reading_leftmost : (line : List ℕ) (f : LineFault) → reading line ≡ Err f → Leftmost line f.column
reading_leftmost [] f h =
    subst (Leftmost []) (sym (same_column 1 Letter f refl h)) (at_letter [] (λ b xs e rest. let z : ◌≡◌ {A = ℕ} 0 1 = cc in absurd (omega arith)))
reading_leftmost (b ∷ bs) f h =
    ⊎_elim
    (λ of.
    let (i, at, w) = wrong_at (arguments of.k) (parted of.k) 2 bs f (event_fault of.make of.k bs f _ refl (as_event b of bs h)) in
    subst (Leftmost (b ∷ bs)) (omega arith) (behind_letter b of bs i w))
    (λ none. subst (Leftmost (b ∷ bs)) (sym (same_column 1 Letter f (none bs) h)) (at_letter (b ∷ bs) (λ c xs e rest. ap (λ y. reading (y ∷ rest)) (head e) ∙ none rest)))
    (letters b)
  where
    head : {x y : ℕ} {us vs : List ℕ} → x ∷ us ≡ y ∷ vs → y ≡ x
    head e = cc

-- what is the reading of a line has its laws
module _ {line : List ℕ} {r : Result Event LineFault} (is : r ≡ reading line) where
  pub read_says : (e : Event) → (r ≡ Ok e) ↔ Says line e
  read_says e = (λ h. (reading_says line e).0 (sym is ∙ h), λ s. is ∙ (reading_says line e).1 s)

  pub read_leftmost : (f : LineFault) → r ≡ Err f → Leftmost line f.column
  read_leftmost f h = reading_leftmost line f (sym is ∙ h)
