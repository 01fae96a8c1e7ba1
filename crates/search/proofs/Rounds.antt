-- The circle of a stack.
-- Assumes nothing.
use Rattle.std.proofs.Common.{◌≡◌, ℕ, zero, suc, ◌+◌, ◌-◌, ◌<◌, ◌≤◌, true, ◌&&◌, eqb, ltb, List, [], ◌∷◌, ◌++◌, map, length, get_or, take, replicate, sym, refl, ap, ◌∙◌, subst, inl, inr, length-append, arith}
use denote.Param.Members.{Mut, Called}
use Rattle.std.specs.Array.{IsFromFnResult, IsFromFnResultFrom}
use Rattle.std.proofs.lemmas.List.{length-map, length-replicate, length-take-le, get_or-map, get_or-take, get_or-append_right, get_or_append_left, get_or-replicate, get_or_past, ext_get_or}
use Rattle.std.proofs.lemmas.Bool.{lt-ltb, cases_eq, cases_lt}
use Rattle.rows.specs.Circles.{zero_step}
use Rattle.rows.specs.declared.step.Step.{Step}
use Rattle.recording.specs.Answers.{closed}
use Rattle.recording.specs.Chains.{step}
use Rattle.search.specs.declared.level.Level.{Level}
use Rattle.search.specs.Levels.{blank_level}
use Rattle.search.proofs.Seeing.{edges_in, wanted_last}

-- The last wanted lock and the first held lock of two or more edges.
pub closed_by : (ls : List Level) → 2 ≤ length ls
    → eqb (get_or ls (length ls - 1) blank_level).edge.wanted (get_or ls 0 blank_level).edge.held ≡ closed (map step (edges_in ls))
closed_by [] many = absurd (omega arith)
closed_by (l ∷ ls) many =
    let less : suc (length ls) - 1 ≡ length ls = omega arith in
    let count : length (map step (edges_in ls)) ≡ length ls = length-map (edges_in ls) step ∙ length-map ls _ in
    let some : ltb 0 (length (map step (edges_in ls))) ≡ true = lt-ltb 0 _ (omega arith) in
    ap (λ n. eqb (get_or (l ∷ ls) n blank_level).edge.wanted l.edge.held) less
    ∙ (λ i. sym some i && eqb (wanted_last l ls i) l.edge.held)

-- The function f answers v, and stays as it is.
abbrev Answers : {F : Type 0} → Mut F (ℕ × Unit {0}) Step → F → (ℕ → Step) → Type 0
Answers {F} g f v = (k : ℕ) (r : Step) (q : F) → Called g f (k, tt) r q → (r ≡ v k) × (q ≡ f)

made_from : {F : Type 0} (g : Mut F (ℕ × Unit {0}) Step) (f : F) (v : ℕ → Step) (ys : List Step) (i n : ℕ) → Answers g f v
    → IsFromFnResultFrom g f ys i n → (j : ℕ) → i ≤ j → j < i + n → get_or ys j zero_step ≡ v j
made_from g f v ys i zero says m j l h = absurd (omega arith)
made_from g f v ys i (suc n) says (q, y, at, call, rest) j l h =
    let s = says i y q call in
    elim (cases_eq j i) [
      | inl e ↦ rw e (at.1 zero_step ∙ s.0)
      | inr ne ↦
          let on = subst (λ t. IsFromFnResultFrom g t ys (i + 1) n) s.1 rest in
          made_from g f v ys (i + 1) n says on j (omega arith) (omega arith)
    ]

module _ (c : List Step) where
  abbrev step_or_zero : ℕ → Step
  step_or_zero i = get_or c i zero_step

  abbrev zeros : List Step
  zeros = replicate 64 zero_step

  padded : (i : ℕ) → i < 64 → get_or (take 64 (c ++ zeros)) i zero_step ≡ step_or_zero i
  padded i h =
      get_or-take 64 (c ++ zeros) i zero_step h
      ∙ elim (cases_lt i (length c)) [
        | inl l ↦ get_or_append_left c zeros zero_step i l
        | inr m ↦
            get_or-append_right c zeros (length c) i zero_step refl m
            ∙ get_or-replicate 64 (i - length c) zero_step zero_step (omega arith) ∙ sym (get_or_past c i zero_step m)
      ]

  -- A list of 64 steps that a function made place by place: those of c, and zeros behind them.
  pub made_steps : {F : Type 0} {g : Mut F (ℕ × Unit {0}) Step} {f : F} {ys : List Step} → Answers g f step_or_zero
      → IsFromFnResult g f ys 64 → ys ≡ take 64 (c ++ zeros)
  made_steps {F} {g} {f} {ys} says m =
      let long = length-append c zeros in
      let behind = length-replicate 64 zero_step in
      let size = length-take-le 64 (c ++ zeros) (omega arith) in
      let made = made_from g f step_or_zero ys 0 64 says m.each in
      ext_get_or zero_step ys (take 64 (c ++ zeros)) (m.long ∙ sym size)
      (λ i h. made i (omega arith) (omega (arith, m.long)) ∙ sym (padded i (omega (arith, m.long))))

-- The step of the edge at a place.
pub step_at : (ls : List Level) (k : ℕ) (l : Level) → k < length ls → l ≡ get_or ls k l
    → get_or (map step (edges_in ls)) k zero_step ≡ step l.edge
step_at ls k l h is =
    get_or-map step (edges_in ls) k l.edge zero_step (omega (arith, length-map ls (λ x. x.edge)))
    ∙ ap step (get_or-map (λ x. x.edge) ls k l l.edge h) ∙ ap (λ x. step x.edge) (sym is)
