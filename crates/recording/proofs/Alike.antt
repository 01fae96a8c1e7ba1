-- Rows that differ only in the numbers of their segments have the same chains and circles, where the order answers alike.
-- Assumes nothing.
use Rattle.std.proofs.Common.{◌≡◌, ℕ, zero, suc, Bool, cond, not, ◌&&◌, eqb, ltb, List, [], ◌∷◌, ◌++◌, map, length, sym, refl, ap, ◌∙◌}
use mathlib.Core.List.{Memᴰ}
use lib.Bits.{bit_and}
use Rattle.std.specs.List.{AllByRecursion}
use Rattle.std.proofs.lemmas.List.{length-map}
use Rattle.rows.specs.Circles.{every}
use Rattle.rows.specs.Edges.{is_edge}
use Rattle.rows.specs.declared.edge.Edge.{Edge}
use Rattle.recording.specs.Chains.{step}
use Rattle.recording.specs.Enumeration.{row_at, apart, fits, branches, goes_on, chains_within, chains}
use Rattle.recording.specs.Answers.{steps_at, closed, circle_row, circles_given}
use Rattle.recording.specs.SameThreads.{in_segment}
use Rattle.recording.proofs.Members.{all_from}

module _ (r : ℕ → ℕ) where
  -- The edge with its segment renumbered.
  abbrev pub moved : Edge → Edge
  moved e = in_segment (r e.segment) e

  branches_alike : (test : Edge → Bool) (on : Edge → List (List ℕ)) (test' : Edge → Bool) (on' : Edge → List (List ℕ))
      (p : ℕ) (es : List Edge)
      → AllByRecursion (λ e. (test e ≡ test' (moved e)) × (on e ≡ on' (moved e))) es
      → branches test on p es ≡ branches test' on' p (map moved es)
  branches_alike test on test' on' p [] h = refl
  branches_alike test on test' on' p (e ∷ es) h =
      let ih = branches_alike test on test' on' (suc p) es h.1 in
      let t = h.0.0 in
      let o = h.0.1 in
      λ i. cond (t i) (map (λ qs. p ∷ qs) (o i)) [] ++ ih i

  step_alike : (rows : List Edge) (p : ℕ) → step (row_at rows p) ≡ step (row_at (map moved rows) p)
  step_alike [] p = refl
  step_alike (e ∷ rows) zero = refl
  step_alike (e ∷ rows) (suc p) = step_alike rows p

  steps_alike : (rows : List Edge) (ps : List ℕ) → steps_at rows ps ≡ steps_at (map moved rows) ps
  steps_alike rows [] = refl
  steps_alike rows (p ∷ ps) =
      let s = step_alike rows p in
      let more = steps_alike rows ps in
      λ i. s i ∷ more i

  pub given_alike : (rows : List Edge) (pss : List (List ℕ)) → circles_given rows pss ≡ circles_given (map moved rows) pss
  given_alike rows [] = refl
  given_alike rows (ps ∷ pss) =
      let s = steps_alike rows ps in
      let more = given_alike rows pss in
      λ i. cond (closed (s i)) (circle_row (s i) ∷ more i) (more i)

  module _
      (rows : List Edge) (first second : ℕ → ℕ → Bool)
      (alike : (e f : Edge) → Memᴰ e rows → Memᴰ f rows → first e.segment f.segment ≡ second (r e.segment)
      (r f.segment))
    where
      apart_alike : (e f : Edge) → Memᴰ e rows → Memᴰ f rows → apart first e f ≡ apart second (moved e) (moved f)
      apart_alike e f m n =
          let a = alike e f m n in
          let b = alike f e n m in
          λ i. not (eqb e.thread f.thread) && (eqb (bit_and e.guards f.guards) 0 && (not (a i) && not (b i)))

      every_alike : (path : List Edge) → AllByRecursion (λ e. Memᴰ e rows) path → (f : Edge) → Memᴰ f rows
          → every (λ e. apart first e f) path ≡ every (λ e. apart second e (moved f)) (map moved path)
      every_alike [] h f n = refl
      every_alike (e ∷ path) h f n =
          let a = apart_alike e f h.0 n in
          let more = every_alike path h.1 f n in
          λ i. a i && more i

      fits_alike : (least wanted : ℕ) (path : List Edge) → AllByRecursion (λ e. Memᴰ e rows) path → (f : Edge) → Memᴰ f rows
          → fits first least wanted path f ≡ fits second least wanted (map moved path) (moved f)
      fits_alike least wanted path h f n =
          let e = every_alike path h f n in
          λ i. is_edge f && (eqb wanted f.held && (e i && ltb least f.thread))

      on_alike : (n least wanted : ℕ) (path : List Edge) → AllByRecursion (λ e. Memᴰ e rows) path
          → goes_on n rows first least wanted path ≡ goes_on n (map moved rows) second least wanted (map moved path)
      on_alike zero least wanted path h = refl
      on_alike (suc n) least wanted path h =
          let on = λ (f : Edge). goes_on n rows first least f.wanted (f ∷ path) in
          let on' = λ (f : Edge). goes_on n (map moved rows) second least f.wanted (f ∷ map moved path) in
          ap (λ l. [] ∷ l)
          (branches_alike (fits first least wanted path) on (fits second least wanted (map moved path)) on' 0 rows
          (all_from _ rows (λ f m. (fits_alike least wanted path h f m, on_alike n least f.wanted (f ∷ path) (m, h)))))

      pub chains_alike : chains rows first ≡ chains (map moved rows) second
      chains_alike =
          let n = length rows in
          let on = λ (e : Edge). goes_on n rows first e.thread e.wanted (e ∷ []) in
          let on' = λ (e : Edge). goes_on n (map moved rows) second e.thread e.wanted (e ∷ []) in
          branches_alike is_edge on is_edge on' 0 rows
          (all_from _ rows (λ e m. (refl, on_alike n e.thread e.wanted (e ∷ []) (m, tt))))
          ∙ ap (λ k. chains_within k (map moved rows) second) (sym (length-map rows moved))
