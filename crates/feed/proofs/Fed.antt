-- What feeding a file of allowed length answers.
-- Assumes nothing.
use Rattle.std.proofs.Common.{◌≡◌, ℕ, ◌≤◌, ◌↔◌, List, length, Ok, Err, Result, sym, refl, ap, ◌∙◌, arith}
use Rattle.std.proofs.lemmas.Bool.{cond-true, le-leb}
use Rattle.rows.specs.declared.event.Event.{Event}
use Rattle.text.proofs.Results.{ok_or_err, ok_same, err_same}
use Rattle.feed.specs.declared.fault.Fault.{Fault}
use Rattle.feed.specs.Files.{events_from, events, counted, Says, FirstFault}
use Rattle.feed.specs.Lines.{lines}
use Rattle.feed.proofs.Faults.{stops}
use Rattle.feed.proofs.Said.{events_said}

module _ (file : List ℕ) (short : length file ≤ 60000) where
  pub fed_events : counted (events_from 1 (lines file)) ≡ counted (events file)
  fed_events = ap counted (sym (cond-true _ _ _ (le-leb (length file) 60000 short)))

  pub fed_said : (n : ℕ) → (counted (events_from 1 (lines file)) ≡ Ok n) ↔ ((es : List Event) × Says file es × (length es ≡ n))
  fed_said n = (there (events_from 1 (lines file)) refl, back)
    where
      there : (r : Result (List Event) Fault) → events_from 1 (lines file) ≡ r → counted (events_from 1 (lines file)) ≡ Ok n →
          (es : List Event) × Says file es × (length es ≡ n)
      there (Ok es) e h =
          let told = (events_said file es).0 e in
          (es, record { short = short; sayable = told.0; text = told.1 }, ok_same (sym (ap counted e) ∙ h))
      there (Err f) e h = absurd (ok_or_err h (ap counted e))

      back : (es : List Event) × Says file es × (length es ≡ n) → counted (events_from 1 (lines file)) ≡ Ok n
      back (es, says, long) = ap counted ((events_said file es).1 (says.sayable, says.text)) ∙ ap Ok long

  pub fed_stops : (f : Fault) → counted (events_from 1 (lines file)) ≡ Err f → FirstFault file f
  fed_stops f h = go (events_from 1 (lines file)) refl
    where
      go : (r : Result (List Event) Fault) → events_from 1 (lines file) ≡ r → FirstFault file f
      go (Ok es) e = absurd (ok_or_err (ap counted e) h)
      go (Err g) e =
          let at = stops (length file) 1 file f (omega arith) (e ∙ ap Err (err_same (sym (ap counted e) ∙ h))) in
          record { short = short; before = at.before; rest = at.rest; sayable = at.sayable; split = at.split; bad = at.bad; reads = at.reads; is = at.is }
