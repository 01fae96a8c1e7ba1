-- What the whole job says of a file, from what its two parts say.
-- Assumes nothing.
use Rattle.std.proofs.Common.{◌≡◌, ℕ, Bool, true, false, cond, ltb, List, length, Ok, Err, Result, sym, refl, ap, ◌∙◌, subst, inl, inr}
use Rattle.sorted_list.specs.Lists.{Held}
use Rattle.rows.specs.declared.event.Event.{Event}
use Rattle.rows.specs.declared.row.CircleRow.{CircleRow}
use Rattle.text.proofs.Results.{ok_or_err, ok_same, err_same}
use Rattle.recording.specs.Recording.{none, followed}
use Rattle.recording.specs.Answers.{circles}
use Rattle.recording.specs.Replies.{reply, reply_to, listed, reported}
use Rattle.recording.specs.declared.answer.Answer.{Answer}
use Rattle.recording.specs.declared.cause.SearchCause.{SearchCause}
use Rattle.recording.specs.declared.cause.SearchCause.TheVariants.{Budget, Places}
use Rattle.rules.specs.Behind.{Behind}
use Rattle.rules.specs.States.{State, fresh_state}
use Rattle.rules.proofs.Recorded.{nothing_behind_fresh, lists_are_recorded, ends_are_open}
use Rattle.feeding.specs.Files.{file_answer, Says}
use Rattle.feed.specs.Causes.{search_fault}
use Rattle.feed.specs.declared.fault.Fault.{Fault}
use Rattle.feeding.proofs.Fed.{feeds}
use Rattle.feeding.proofs.Recorded.{file_recorded}
use Rattle.search.specs.Promises.{BehindBoth, ListsStops}
use Rattle.search.proofs.Promises.{lists_stops, same_answers}
use Rattle.file_check.specs.Checks.{fed_state, of_report, if_fed, checked, circles_left, circles_after, Tells, SameThreadsChecked}

module _ (limit places : ℕ) where
  -- the recording of a file without fault stands behind what it leaves
  behind : (file : List ℕ) (es : List Event) → Says limit (fresh_state places) file es
      → Behind (followed none es) (fed_state limit places file)
  behind file es says =
      subst (λ ts. Behind (followed none ts) (fed_state limit places file)) ((feeds limit (fresh_state places) file).takes es says)
      (file_recorded lists_are_recorded ends_are_open limit (fresh_state places) none (nothing_behind_fresh places) file)

  both : (file : List ℕ) (es : List Event) → Says limit (fresh_state places) file es
      → BehindBoth (followed none es) (fed_state limit places file).edges (fed_state limit places file).order
  both file es says = ((fed_state limit places file).rows, behind file es says)

  fed_ok : (file : List ℕ) (es : List Event) → Says limit (fresh_state places) file es
      → file_answer limit (fresh_state places) file ≡ Ok (length es)
  fed_ok file es says = ((feeds limit (fresh_state places) file).says (length es)).1 (es, says, refl)

  module _ (budget room : ℕ) where
    -- the report over a file without fault
    checked_is : (file : List ℕ) (es : List Event) → Says limit (fresh_state places) file es → checked limit places file budget room
        ≡ of_report (reply (fed_state limit places file).edges.records (fed_state limit places file).order.before budget room)
    checked_is file es says =
        let s = fed_state limit places file in
        ap (λ r. if_fed r (of_report (reply s.edges.records s.order.before budget room))) (fed_ok file es says)

    pub same_checked : (file : List ℕ) → SameThreadsChecked limit places budget room file (checked limit places file budget room)
    same_checked file other es others p q alike =
        checked_is file es p
        ∙ ap of_report (same_answers (followed none es) (followed none others) (fed_state limit places file).edges
        (fed_state limit places other).edges (fed_state limit places file).order (fed_state limit places other).order
        (both file es p) (both other others q) alike budget room)
        ∙ sym (checked_is other others q)

of_report_ok : (r : Result Answer SearchCause) (a : Answer) → of_report r ≡ Ok a → r ≡ Ok a
of_report_ok (Ok b) a e = ap Ok (ok_same e)
of_report_ok (Err c) a e = absurd (ok_or_err e refl)

of_report_err : (r : Result Answer SearchCause) (f : Fault) → of_report r ≡ Err f → (c : SearchCause) × (f ≡ search_fault c)
of_report_err (Ok b) f e = absurd (ok_or_err refl e)
of_report_err (Err c) f e = (c, err_same (sym e))

-- ---- the job in words

answered : (r : Result Answer SearchCause) (l : List CircleRow) (n : ℕ) (a : Answer) → r ≡ Ok a → (listed r l n).records ≡ l
answered r l n a e = ap (λ s. (listed s l n).records) e

judged_count : (chain_count : ℕ) (l : List CircleRow) (budget room : ℕ) (a : Answer) → reply_to chain_count l budget room ≡ Ok a → a.circles ≡ length l
judged_count m l budget room a e = by (ltb budget m) (ltb room (length l)) e
  where
    by : (p q : Bool) → cond p (Err Budget) (cond q (Err Places) (Ok (record { circles = length l; chains = m }))) ≡ Ok a
        → a.circles ≡ length l
    by true q e = absurd (ok_or_err e refl)
    by false true e = absurd (ok_or_err e refl)
    by false false e = sym (ap (λ (x : Answer). x.circles) (ok_same e))

module _ (limit places : ℕ) (file : List ℕ) (budget room : ℕ) (old : Held CircleRow) where
  abbrev s : State
  s = fed_state limit places file

  told_words : Tells limit places file (checked limit places file budget room) (circles_after limit places file budget room old).records
  told_words = by (file_answer limit (fresh_state places) file) refl
    where
      by : (r : Result ℕ Fault) → file_answer limit (fresh_state places) file ≡ r
          → Tells limit places file (if_fed r (of_report (reply s.edges.records s.order.before budget room)))
          (circles_left r (reported s.edges.records s.order.before budget room) old).records
      by (Err f) e = record {
        answers = λ a h. absurd (ok_or_err h refl);
        faults = λ x h. inl ((feeds limit (fresh_state places) file).stops x (e ∙ ap Err (err_same h)));
      }
      by (Ok n) e =
          let w = ((feeds limit (fresh_state places) file).says n).0 e in
          record {
            answers = λ a h.
                let told = of_report_ok (reply s.edges.records s.order.before budget room) a h in
                let found = circles s.edges.records s.order.before in
                let is = answered (reply s.edges.records s.order.before budget room) found room a told in (
                  w.0,
                  w.1,
                  subst (ListsStops (followed none w.0)) (sym is) (lists_stops (followed none w.0) s.edges s.order
                      (both limit places file w.0 w.1)),
                  judged_count _ found budget room a told ∙ ap length (sym is),
                );
            faults = λ x h.
                let c = of_report_err (reply s.edges.records s.order.before budget room) x h in
                inr (w.0, w.1, c.0, c.1);
          }

  -- r is the answer of the job, and h what its circle list then holds
  pub tells : {r : Result Answer Fault} {h : Held CircleRow} → r ≡ checked limit places file budget room
      → h ≡ circles_after limit places file budget room old → Tells limit places file r h.records
  tells p q = rw (p, q) told_words

module _ (limit places : ℕ) (file : List ℕ) (budget room : ℕ) where
  pub alike : {r : Result Answer Fault} → r ≡ checked limit places file budget room → SameThreadsChecked limit places budget room file r
  alike p other es others x y same = p ∙ same_checked limit places budget room file other es others x y same
