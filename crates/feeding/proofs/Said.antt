-- A file is fed to its end exactly when it says events that are accepted in their turn.
-- Assumes nothing.
use Rattle.std.proofs.Common.{◌≡◌, ℕ, ◌+◌, List, [], ◌∷◌, map, length, Ok, Err, Result, sym, refl, ap, ◌∙◌, subst, inl, inr, add-zero, zero-add, arith}
use Rattle.rows.specs.declared.event.Event.{Event}
use Rattle.text.specs.declared.fault.LineFault.{LineFault}
use Rattle.text.specs.Lines.{text_of, reading}
use Rattle.text.proofs.Readings.{reading_says}
use Rattle.text.proofs.Results.{ok_or_err, ok_same, err_same}
use Rattle.rules.specs.declared.cause.EventCause.{EventCause}
use Rattle.rules.specs.Calls.{Answer}
use Rattle.rules.specs.States.{State, answer, after}
use Rattle.feeding.specs.declared.fault.Stop.{Stop}
use Rattle.feed.specs.Files.{file_of, AllSayable}
use Rattle.feeding.specs.Files.{fed, taken, AllAccepted, Bad}
use Rattle.feed.specs.Lines.{lines}
use Rattle.feeding.specs.Stops.{event_stop, unless_stopped, read_as, line_answer}
use Rattle.feeding.proofs.Feeding.{fed_more, fed_stop, taken_more}
use Rattle.feed.proofs.Said.{unlines, lines_joined, unlines_texts}
use Rattle.feed.proofs.Texts.{Ended, lines_of_ended}

module _ (limit : ℕ) (s : State) where
  -- a line is taken exactly when it says an event that is accepted
  answer_taken : (e : Event) (r : Answer) → r ≡ Ok tt → unless_stopped e r ≡ Ok e
  answer_taken e r h = ap (unless_stopped e) h

  taken_answer : (a e : Event) (r : Answer) → unless_stopped a r ≡ Ok e → (a ≡ e) × (r ≡ Ok tt)
  taken_answer a e (Ok tt) h = (ok_same h, refl)
  taken_answer a e (Err c) h = absurd (ok_or_err h refl)

  read_taken : (e : Event) (r : Result Event LineFault) → read_as limit s r ≡ Ok e → (r ≡ Ok e) × (answer limit s e ≡ Ok tt)
  read_taken e (Ok a) h =
      let p = taken_answer a e (answer limit s a) h in
      (ap Ok p.0, subst (λ b. answer limit s b ≡ Ok tt) p.0 p.1)
  read_taken e (Err f) h = absurd (ok_or_err h refl)

  pub line_taken : (l : List ℕ) (e : Event) → line_answer limit s l ≡ Ok e → (reading l ≡ Ok e) × (answer limit s e ≡ Ok tt)
  line_taken l e h = read_taken e (reading l) h

  taken_line : (l : List ℕ) (e : Event) → reading l ≡ Ok e → answer limit s e ≡ Ok tt → line_answer limit s l ≡ Ok e
  taken_line l e h k = ap (read_as limit s) h ∙ answer_taken e (answer limit s e) k

  answer_stopped : (e : Event) (stop : Stop) (r : Answer) → unless_stopped e r ≡ Err stop
      → (c : EventCause) × (r ≡ Err c) × (stop ≡ event_stop c)
  answer_stopped e stop (Ok x) h = absurd (ok_or_err refl h)
  answer_stopped e stop (Err c) h = (c, refl, err_same (sym h))

  -- a line that is not taken is bad
  pub line_bad : (l : List ℕ) (stop : Stop) → line_answer limit s l ≡ Err stop → Bad limit s l stop
  line_bad l stop h = go (reading l) refl h
    where
      go : (r : Result Event LineFault) → reading l ≡ r → read_as limit s r ≡ Err stop → Bad limit s l stop
      go (Ok e) k h = let p = answer_stopped e stop (answer limit s e) h in inr (e, p.0, k, p.1, p.2)
      go (Err f) k h = inl (f, k, err_same (sym h))

module _ (limit : ℕ) where
  -- the lines that are fed to their end are the texts of the events taken
  lines_said : (ls : List (List ℕ)) (s : State) (n m : ℕ) → fed limit s n ls ≡ Ok m
      → AllSayable (taken limit s ls) × AllAccepted limit s (taken limit s ls) × (ls ≡ map text_of (taken limit s ls))
      × (length (taken limit s ls) + n ≡ m)
  lines_said [] s n m h = (tt, tt, refl, zero-add n ∙ ok_same h)
  lines_said (l ∷ ls) s n m h = go (line_answer limit s l) refl (λ t. lines_said ls t (n + 1) m)
    where
      After : Type 0
      After = (t : State) → fed limit t (n + 1) ls ≡ Ok m
          → AllSayable (taken limit t ls) × AllAccepted limit t (taken limit t ls) × (ls ≡ map text_of (taken limit t ls))
          × (length (taken limit t ls) + (n + 1) ≡ m)

      go : (r : Result Event Stop) → line_answer limit s l ≡ r → After
          → AllSayable (taken limit s (l ∷ ls)) × AllAccepted limit s (taken limit s (l ∷ ls))
          × (l ∷ ls ≡ map text_of (taken limit s (l ∷ ls))) × (length (taken limit s (l ∷ ls)) + n ≡ m)
      go (Ok e) k ih =
          let later = ih (after limit s e) (sym (fed_more limit s l ls e k n) ∙ h) in
          let was = line_taken limit s l e k in
          let told = (reading_says l e).0 was.0 in
          rw (taken_more limit s l ls e k) (
            (told.0, later.0),
            (was.1, later.1),
            (λ i. told.1 i ∷ later.2 i),
            omega (arith, later.3),
          )
      go (Err stop) k ih = absurd (ok_or_err h (fed_stop limit s l ls stop k n))

  said_lines : (es : List Event) (s : State) (n : ℕ) → AllSayable es → AllAccepted limit s es
      → (fed limit s n (map text_of es) ≡ Ok (length es + n)) × (taken limit s (map text_of es) ≡ es)
  said_lines [] s n p q = (ap Ok (sym (zero-add n)), refl)
  said_lines (e ∷ es) s n p q =
      let k = taken_line limit s (text_of e) e ((reading_says (text_of e) e).1 (p.0, refl)) q.0 in
      let later = said_lines es (after limit s e) (n + 1) p.1 q.1 in (
        fed_more limit s (text_of e) (map text_of es) e k n ∙ later.0 ∙ ap Ok (omega arith),
        taken_more limit s (text_of e) (map text_of es) e k ∙ ap (λ t. e ∷ t) later.1,
      )

  module _ (s : State) (file : List ℕ) where
    -- the file says the events that are taken from it
    pub fed_says : (m : ℕ) → fed limit s 0 (lines file) ≡ Ok m → let es = taken limit s (lines file) in
        AllSayable es × AllAccepted limit s es × Ended file (file_of es) × (length es ≡ m)
    fed_says m h =
        let told = lines_said (lines file) s 0 m h in
        let es = taken limit s (lines file) in
        (told.0, told.1, subst (Ended file) (ap unlines told.2 ∙ unlines_texts es) (lines_joined file), omega (arith, told.3))

    pub says_fed : (es : List Event) → AllSayable es → AllAccepted limit s es → Ended file (file_of es)
        → (fed limit s 0 (lines file) ≡ Ok (length es)) × (taken limit s (lines file) ≡ es)
    says_fed es p q r =
        let is = lines_of_ended file es p r in
        let told = said_lines es s 0 p q in
        (ap (fed limit s 0) is ∙ told.0 ∙ ap Ok (add-zero (length es)), ap (taken limit s) is ∙ told.1)
