-- What feeding a file answers, in words.
-- Assumes nothing.
use Rattle.std.proofs.Common.{◌≡◌, ℕ, ◌≤◌, Bool, true, false, cond, leb, ◌⊎◌, List, [], ◌∷◌, length, Ok, Err, Result, sym, refl, ap, ◌∙◌, inl, inr, ⊎_elim, arith}
use Rattle.std.proofs.lemmas.Bool.{cond-true, cond-false, cases_Bool, leb-true, leb-false, le-leb}
use Rattle.rows.specs.declared.event.Event.{Event}
use Rattle.text.proofs.Results.{ok_or_err, err_same}
use Rattle.rules.specs.States.{State, after}
use Rattle.feed.specs.declared.fault.Fault.{Fault}
use Rattle.feeding.specs.declared.fault.Stop.{Stop}
use Rattle.feeding.specs.Files.{fed, taken, too_long, file_answer, events_taken, AllAccepted, Says, TooLong, FirstFault, Feeds}
use Rattle.feed.specs.Lines.{lines}
use Rattle.feeding.specs.Stops.{at_line, line_answer}
use Rattle.feeding.proofs.Faults.{stops}
use Rattle.feeding.proofs.Feeding.{taken_more, taken_stop}
use Rattle.feeding.proofs.Said.{line_taken, fed_says, says_fed}

module _ (limit : ℕ) (s : State) (file : List ℕ) where
  module _ (short : length file ≤ 60000) where
    fed_is : file_answer limit s file ≡ fed limit s 0 (lines file)
    fed_is = cond-true (leb (length file) 60000) (fed limit s 0 (lines file)) (Err too_long) (le-leb (length file) 60000 short)

    taken_is : events_taken limit s file ≡ taken limit s (lines file)
    taken_is = cond-true (leb (length file) 60000) (taken limit s (lines file)) [] (le-leb (length file) 60000 short)

    short_says : (n : ℕ) → file_answer limit s file ≡ Ok n → (es : List Event) × Says limit s file es × (length es ≡ n)
    short_says n h =
        let told = fed_says limit s file n (sym fed_is ∙ h) in (
          taken limit s (lines file),
          record { short = short; sayable = told.0; accepted = told.1; text = told.2 },
          told.3,
        )

    short_stops : (f : Fault) → file_answer limit s file ≡ Err f → FirstFault limit s file f
    short_stops f h =
        let at = stops limit (length file) s 0 file f (omega arith) (sym fed_is ∙ h) in
        record {
          short = short;
          before = at.before;
          rest = at.rest;
          sayable = at.sayable;
          accepted = at.accepted;
          split = at.split;
          next = at.next;
          stop = at.stop;
          bad = at.bad;
          is = at.is ∙ ap (λ m. at_line m at.stop) (omega arith);
          stays = taken_is ∙ at.stays;
        }

  module _ (long : leb (length file) 60000 ≡ false) where
    long_is : file_answer limit s file ≡ Err too_long
    long_is = cond-false (leb (length file) 60000) (fed limit s 0 (lines file)) (Err too_long) long

  says_answer : (es : List Event) → Says limit s file es
      → (file_answer limit s file ≡ Ok (length es)) × (events_taken limit s file ≡ es)
  says_answer es h =
      let told = says_fed limit s file es h.sayable h.accepted h.text in
      (fed_is h.short ∙ told.0, taken_is h.short ∙ told.1)

  pub feeds : Feeds limit s file (file_answer limit s file)
  feeds = record {
    says = λ n. (says n, λ w. (says_answer w.0 w.1).0 ∙ ap Ok w.2);
    takes = λ es h. (says_answer es h).1;
    stops = stopped;
  }
    where
      says : (n : ℕ) → file_answer limit s file ≡ Ok n → (es : List Event) × Says limit s file es × (length es ≡ n)
      says n h =
          ⊎_elim (λ e. short_says (leb-true _ _ e) n h) (λ e. absurd (ok_or_err h (long_is e))) (cases_Bool (leb (length file) 60000))

      stopped : (f : Fault) → file_answer limit s file ≡ Err f → TooLong file f ⊎ FirstFault limit s file f
      stopped f h =
          ⊎_elim
          (λ e. inr (short_stops (leb-true _ _ e) f h))
          (λ e. inl (leb-false _ _ e, err_same (sym h ∙ long_is e)))
          (cases_Bool (leb (length file) 60000))

-- ---- the events taken were accepted

module _ (limit : ℕ) where
  taken_accepted : (ls : List (List ℕ)) (s : State) → AllAccepted limit s (taken limit s ls)
  taken_accepted [] s = tt
  taken_accepted (l ∷ ls) s = go (line_answer limit s l) refl (taken_accepted ls)
    where
      go : (r : Result Event Stop) → line_answer limit s l ≡ r → ((t : State) → AllAccepted limit t (taken limit t ls))
          → AllAccepted limit s (taken limit s (l ∷ ls))
      go (Ok e) h ih = rw (taken_more limit s l ls e h) ((line_taken limit s l e h).1, ih (after limit s e))
      go (Err stop) h ih = rw (taken_stop limit s l ls stop h) tt

  pub events_accepted : (s : State) (file : List ℕ) → AllAccepted limit s (events_taken limit s file)
  events_accepted s file = go (leb (length file) 60000)
    where
      go : (b : Bool) → AllAccepted limit s (cond b (taken limit s (lines file)) [])
      go true = taken_accepted (lines file) s
      go false = tt
