-- The promises of a report, from the laws of recordings.
-- Assumes nothing.
use Rattle.std.proofs.Common.{◌≡◌, ℕ, ◌≤◌, Bool, ◌↔◌, List, [], ◌∷◌, length, Ok, Decides, Result, sym, refl, ap, ◌∙◌, subst, arith}
use mathlib.Core.List.Memᴰ
use mathlib.Core.List.{Memᴰ}
use Rattle.sorted_list.specs.Lists.{Held}
use Rattle.order.specs.Meaning.{Meaning}
use Rattle.rows.specs.Circles.{IsCircle, steps_of}
use Rattle.rows.specs.declared.edge.Edge.{Edge}
use Rattle.rows.specs.declared.row.CircleRow.{CircleRow}
use Rattle.rows.specs.declared.step.Step.{Step}
use Rattle.recording.specs.Recording.{Recording, SameThreads}
use Rattle.recording.specs.Halts.{CanStop}
use Rattle.recording.specs.Ledger.{Accepted}
use Rattle.recording.specs.EdgeList.{edge_list}
use Rattle.recording.specs.Answers.{circle_row, circles}
use Rattle.recording.specs.Replies.{reply, listed, reported}
use Rattle.recording.specs.declared.answer.Answer.{Answer}
use Rattle.recording.specs.declared.cause.SearchCause.{SearchCause}
use Rattle.recording.specs.Reports.{Tells, ReportsAgree}
use Rattle.recording.proofs.Agreeing.{same_threads_report}
use Rattle.recording.proofs.Reporting.{reports, row_steps}
use Rattle.recording.proofs.ReportStops.{report_is_stops, reports_tell_stops}
use Rattle.recording.proofs.Replying.{same_replies}
use Rattle.search.specs.Promises.{BehindBoth, ListsStops, StopAlike, Promised, BothAnswered, IsReport, TellsStops, SameWork}

module _ (ρ : Recording) (acc : Accepted ρ) (precedes : ℕ → ℕ → Bool) (tells : Tells precedes ρ) where
  abbrev found : List CircleRow
  found = circles (edge_list ρ) precedes

  stop_listed : (c : List Step) → IsCircle c → 2 ≤ length c → CanStop ρ c → Memᴰ (circle_row c) found
  stop_listed c circle many stop = (report_is_stops ρ acc precedes tells (circle_row c)).1 (c, circle, many, stop, refl)

  listed_stop : (c : List Step) → Memᴰ (circle_row c) found → CanStop ρ c
  listed_stop c m =
      let r = circle_row c in
      let small : length c ≤ 64 = ((reports (edge_list ρ) precedes).each r m).0.count in
      let (d, _, _, there, g) = (report_is_stops ρ acc precedes tells r).0 m in
      let long : length c ≡ length d = ap (λ x. x.count) g in
      let same : d ≡ c = sym (row_steps d (omega arith)) ∙ ap steps_of (sym g) ∙ row_steps c small in
      subst (CanStop ρ) same there

  no_stops : (l : List CircleRow) → l ≡ found → ((c : List Step) → IsCircle c → 2 ≤ length c → CanStop ρ c → ⊥) → l ≡ []
  no_stops [] e none = refl
  no_stops (r ∷ rs) e none =
      let (c, circle, many, there, g) = (report_is_stops ρ acc precedes tells r).0 (subst (Memᴰ r) e (Memᴰ.head refl)) in
      absurd (none c circle many there)

  lists : ListsStops ρ found
  lists = record {
    shown = λ c circle many. (listed_stop c, stop_listed c circle many);
    only = λ r m. let (c, circle, many, there, g) = (report_is_stops ρ acc precedes tells r).0 m in (c, circle, many, g);
    empty = (
      λ e c circle many stop. Memᴰ.not-nil (subst (Memᴰ (circle_row c)) e (stop_listed c circle many stop)),
      no_stops found refl,
    );
  }

-- The report over the three lists the stops of the recording behind.
pub lists_stops : (ρ : Recording) (edges : Held Edge) (order : Meaning) → BehindBoth ρ edges order
    → ListsStops ρ (circles edges.records order.before)
lists_stops ρ edges order (rows, b) =
    subst (λ l. ListsStops ρ (circles l order.before)) (sym b.edges) (lists ρ b.accepted order.before b.tells)

module _ (ρ σ : Recording) (edges others : Held Edge) (order other : Meaning) (p : BehindBoth ρ edges order) (q : BehindBoth σ others other) where
  -- Reports with the same circles are those over recordings that can stop in the same circles.
  pub tells_stops : (circles edges.records order.before ≡ circles others.records other.before) ↔ StopAlike ρ σ
  tells_stops =
      rw (p.1.edges, q.1.edges)
      (reports_tell_stops ρ σ p.1.accepted q.1.accepted order.before other.before p.1.tells q.1.tells)

  agree : SameThreads ρ σ → ReportsAgree ρ σ order.before other.before
  agree h = same_threads_report ρ σ p.1.accepted q.1.accepted h order.before other.before p.1.tells q.1.tells

  -- Where each thread does the same, the answers are the same, and so are the circles.
  pub same_answers : SameThreads ρ σ → (budget places : ℕ)
      → reply edges.records order.before budget places ≡ reply others.records other.before budget places
  same_answers h budget places = rw (p.1.edges, q.1.edges) (same_replies ρ σ order.before other.before (agree h) budget places)

  pub same_circles : SameThreads ρ σ → circles edges.records order.before ≡ circles others.records other.before
  same_circles h = rw (p.1.edges, q.1.edges) (agree h).same_circles

-- ---- the promises, from what a report answers and leaves

answered : (r : Result Answer SearchCause) (l : List CircleRow) (n : ℕ) (a : Answer) → r ≡ Ok a → (listed r l n).records ≡ l
answered r l n a e = ap (λ s. (listed s l n).records) e

module _ {edges : Held Edge} {order : Meaning} {budget n : ℕ} {r : Result Answer SearchCause} {h : Held CircleRow}
    (m : IsReport edges order budget n r h) where
  pub made_circles : (a : Answer) → r ≡ Ok a → h.records ≡ circles edges.records order.before
  made_circles a e =
      ap (λ (k : Held CircleRow). k.records) m.holds
      ∙ answered (reply edges.records order.before budget n) (circles edges.records order.before) n a (sym m.answers ∙ e)

  pub promised : Promised edges order r h.records
  promised ρ b a e = subst (ListsStops ρ) (sym (made_circles a e)) (lists_stops ρ edges order b)

module _ {edges others : Held Edge} {order other : Meaning} {budget n k : ℕ} {r s : Result Answer SearchCause} {h j : Held CircleRow}
    (m : IsReport edges order budget n r h) (w : IsReport others other budget k s j) where
  pub same_tells : (same : Bool) → Decides same (BothAnswered r s × (h.records ≡ j.records)) → TellsStops edges order others other r s same
  same_tells same d ρ σ p q a b e f =
      let circles_are = made_circles m a e in
      let others_are = made_circles w b f in
      let t = tells_stops ρ σ edges others order other p q in
      (λ i. t.0 (sym circles_are ∙ (d.0 i).1 ∙ others_are), λ i. d.1 (((a, e), (b, f)), circles_are ∙ t.1 i ∙ sym others_are))

  pub same_work : SameWork edges order others other n k r s h j
  same_work ρ σ p q alike places =
      let answers_are = same_answers ρ σ edges others order other p q alike budget n in
      let circles_are = same_circles ρ σ edges others order other p q alike in
      let is = m.answers ∙ answers_are ∙ ap (reply others.records other.before budget) places ∙ sym w.answers in (
        is,
        m.holds ∙ (λ i. listed (answers_are i) (circles_are i) n)
            ∙ ap (reported others.records other.before budget) places ∙ sym w.holds,
      )
