-- Where the feeding of a file stops.
-- Assumes nothing.
use Rattle.std.proofs.Common.{◌≡◌, ℕ, zero, suc, ◌+◌, ◌<◌, ◌≤◌, eqb, List, [], ◌∷◌, ◌++◌, length, Ok, Err, Result, sym, refl, ap, ◌∙◌, ⊎_elim, append_assoc, zero-add, arith}
use Rattle.std.proofs.lemmas.Bool.{cond-true, cond-false, cases_Bool, eqb-true}
use Rattle.rows.specs.declared.event.Event.{Event}
use Rattle.text.specs.declared.fault.LineFault.{LineFault}
use Rattle.text.specs.Lines.{text_of, reading}
use Rattle.text.proofs.Readings.{reading_says}
use Rattle.text.proofs.Results.{ok_or_err, err_same}
use Rattle.feed.specs.declared.fault.Fault.{Fault}
use Rattle.feed.specs.Files.{fault, events_from, file_of, AllSayable}
use Rattle.feed.specs.Lines.{first_of, later_of, lines}
use Rattle.feed.proofs.Said.{go_on, events_more, events_fault}
use Rattle.feed.proofs.Splitting.{lines_split, later_less}

-- where a later line follows, a newline stands between
pub line_split : (bs : List ℕ) → 0 < length (later_of bs) → bs ≡ first_of bs ++ (10 ∷ later_of bs)
line_split [] h = absurd (omega arith)
line_split (b ∷ bs) h =
    ⊎_elim
    (λ e. rw (cond-true (eqb b 10) [] (b ∷ first_of bs) e, cond-true (eqb b 10) bs (later_of bs) e) (ap (λ x. x ∷ bs) (eqb-true b 10 e)))
    (λ e.
    let more = rw (cond-false (eqb b 10) bs (later_of bs) e) at h in
    rw (cond-false (eqb b 10) [] (b ∷ first_of bs) e, cond-false (eqb b 10) bs (later_of bs) e) (ap (λ t. b ∷ t) (line_split bs more)))
    (cases_Bool (eqb b 10))

some_line : (n : ℕ) (bs : List ℕ) (f : Fault) → events_from n (lines bs) ≡ Err f → 0 < length bs
some_line n [] f e = absurd (ok_or_err refl e)
some_line n (b ∷ bs) f e = omega arith

-- the lines from number n on stop at the fault f
pub record Stops (n : ℕ) (file : List ℕ) (f : Fault) : Type 0 where
  pub before : List Event
  pub rest : List ℕ
  pub sayable : AllSayable before
  pub split : file ≡ file_of before ++ rest
  pub bad : LineFault
  pub reads : reading (first_of rest) ≡ Err bad
  pub is : f ≡ fault (length before + n) bad

-- k bounds the length of the file
pub stops : (k n : ℕ) (file : List ℕ) (f : Fault) → length file ≤ k → events_from n (lines file) ≡ Err f → Stops n file f
stops k n [] f h e = absurd (ok_or_err refl e)
stops zero n (b ∷ bs) f h e = absurd (omega arith)
stops (suc k) n (b ∷ bs) f h e = go (reading (first_of (b ∷ bs))) refl (stops k (n + 1))
  where
    Later : Type 0
    Later = (file : List ℕ) (f : Fault) → length file ≤ k → events_from (n + 1) (lines file) ≡ Err f → Stops (n + 1) file f

    whole : events_from n (first_of (b ∷ bs) ∷ lines (later_of (b ∷ bs))) ≡ Err f
    whole = ap (events_from n) (sym (lines_split (b ∷ bs) (omega arith))) ∙ e

    on : (a : Event) → reading (first_of (b ∷ bs)) ≡ Ok a → Later → (r : Result (List Event) Fault) →
        events_from (n + 1) (lines (later_of (b ∷ bs))) ≡ r → Stops n (b ∷ bs) f
    on a g ih (Ok es) i = absurd (ok_or_err (events_more n (first_of (b ∷ bs)) (lines (later_of (b ∷ bs))) a g ∙ ap (λ r. go_on r a) i) whole)
    on a g ih (Err x) i =
        let same = err_same (sym (events_more n (first_of (b ∷ bs)) (lines (later_of (b ∷ bs))) a g ∙ ap (λ r. go_on r a) i) ∙ whole) in
        let fault_later = i ∙ ap Err same in
        let later = ih (later_of (b ∷ bs)) f (omega (arith, later_less (b ∷ bs) (omega arith))) fault_later in
        let told = (reading_says (first_of (b ∷ bs)) a).0 g in
        record {
          before = a ∷ later.before;
          rest = later.rest;
          sayable = (told.0, later.sayable);
          split = line_split (b ∷ bs) (some_line (n + 1) (later_of (b ∷ bs)) f fault_later) ∙ (λ j. told.1 j ++ (10 ∷ later.split j))
              ∙ sym (append_assoc (text_of a) (10 ∷ file_of later.before) later.rest);
          bad = later.bad;
          reads = later.reads;
          is = later.is ∙ ap (λ m. fault m later.bad) (omega arith);
        }

    go : (r : Result Event LineFault) → reading (first_of (b ∷ bs)) ≡ r → Later → Stops n (b ∷ bs) f
    go (Err x) g ih =
        let same = err_same (sym whole ∙ events_fault n (first_of (b ∷ bs)) (lines (later_of (b ∷ bs))) x g) in
        record { before = []; rest = b ∷ bs; sayable = tt; split = refl; bad = x; reads = g; is = same ∙ ap (λ m. fault m x) (sym (zero-add n)) }
    go (Ok a) g ih = on a g ih _ refl
