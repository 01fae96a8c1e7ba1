-- The first row from a place on that passes a test.
-- Assumes nothing.
use Rattle.std.proofs.Common.{◌≡◌, ℕ, zero, suc, ◌+◌, ◌-◌, ◌<◌, ◌≤◌, Bool, true, false, cond, ◌⊎◌, List, length, drop, Some, None, Option, sym, refl, ap, ◌∙◌, subst, inl, inr, ⊎_elim, arith}
use Rattle.std.proofs.lemmas.List.{drop_all, drop_more}
use Rattle.std.proofs.lemmas.Bool.{cases_lt, cases_Bool, cond-true, cond-false, false≢true}
use Rattle.rows.specs.Edges.{blank_edge}
use Rattle.rows.specs.declared.edge.Edge.{Edge}
use Rattle.recording.specs.Enumeration.{row_at}
use Rattle.recording.specs.Walks.{first_in, first_from}

module _ (test : Edge → Bool) (rows : List Edge) where
  pub first_past : (from : ℕ) → length rows ≤ from → first_from test rows from ≡ None
  first_past from h = ap (first_in test from) (drop_all from rows h)

  first_at : (from : ℕ) → from < length rows
      → first_from test rows from ≡ cond (test (row_at rows from)) (Some from) (first_from test rows (from + 1))
  first_at from h =
      let next : suc from ≡ from + 1 = omega arith in
      ap (first_in test from) (drop_more rows from blank_edge h)
      ∙ ap (λ n. cond (test (row_at rows from)) (Some from) (first_in test n (drop (from + 1) rows))) next

  pub first_here : (from : ℕ) → from < length rows → test (row_at rows from) ≡ true → first_from test rows from ≡ Some from
  first_here from h e = first_at from h ∙ cond-true (test (row_at rows from)) _ _ e

  pub first_on : (from : ℕ) → from < length rows → test (row_at rows from) ≡ false
      → first_from test rows from ≡ first_from test rows (from + 1)
  first_on from h e = first_at from h ∙ cond-false (test (row_at rows from)) _ _ e

  -- Rows that fail are passed over.
  pub first_skip : (n from : ℕ) → ((x : ℕ) → from ≤ x → x < from + n → x < length rows → test (row_at rows x) ≡ false)
      → first_from test rows from ≡ first_from test rows (from + n)
  first_skip zero from fails = let e : from ≡ from + 0 = omega arith in ap (first_from test rows) e
  first_skip (suc n) from fails =
      let e : from + 1 + n ≡ from + suc n = omega arith in
      step (cases_lt from (length rows)) (first_skip n (from + 1) (λ x l h k. fails x (omega arith) (omega arith) k))
      ∙ ap (first_from test rows) e
    where
      step : (from < length rows) ⊎ (length rows ≤ from) → first_from test rows (from + 1) ≡ first_from test rows (from + 1 + n)
          → first_from test rows from ≡ first_from test rows (from + 1 + n)
      step (inl h) more = first_on from h (fails from (omega arith) (omega arith) h) ∙ more
      step (inr h) more = first_past from h ∙ sym (first_past (from + 1 + n) (omega arith))

  -- What the first one is.
  pub record Found (from x : ℕ) : Type 0 where
    pub since : from ≤ x
    pub within : x < length rows
    pub passes : test (row_at rows x) ≡ true
    pub fails : (y : ℕ) → from ≤ y → y < x → test (row_at rows y) ≡ false

  found_by : (n from x : ℕ) → length rows ≤ from + n → first_from test rows from ≡ Some x → Found from x
  found_by zero from x h e = absurd (no_both (sym (first_past from (omega arith)) ∙ e))
    where
      no_both : ◌≡◌ {A = Option ℕ} None (Some x) → ⊥
      no_both d = let z : ◌≡◌ {A = ℕ} 0 1 = cc in omega arith
  found_by (suc n) from x h e = step (cases_lt from (length rows)) (found_by n (from + 1) x (omega arith))
    where
      here : (h : from < length rows) → (b : Bool) → test (row_at rows from) ≡ b → (first_from test rows (from + 1) ≡ Some x → Found (from + 1) x)
          → Found from x
      here k true t more =
          let s : from ≡ x = let d : ◌≡◌ {A = Option ℕ} (Some from) (Some x) = sym (first_here from k t) ∙ e in cc in
          record {
            since = omega arith;
            within = omega arith;
            passes = subst (λ y. test (row_at rows y) ≡ true) s t;
            fails = λ y l m. absurd (omega arith);
          }
      here k false t more =
          let w = more (sym (first_on from k t) ∙ e) in
          record {
            since = omega (arith, w.since);
            within = w.within;
            passes = w.passes;
            fails = λ y l m.
                ⊎_elim (λ z. w.fails y (omega arith) m)
                (λ z. let s : from ≡ y = omega arith in subst (λ q. test (row_at rows q) ≡ false) s t) (cases_lt from y);
          }

      step : (from < length rows) ⊎ (length rows ≤ from) → (first_from test rows (from + 1) ≡ Some x → Found (from + 1) x) → Found from x
      step (inl k) more = here k (test (row_at rows from)) refl more
      step (inr k) more =
          let d : ◌≡◌ {A = Option ℕ} None (Some x) = sym (first_past from k) ∙ e in
          let z : ◌≡◌ {A = ℕ} 0 1 = cc in absurd (omega arith)

  pub first_found : (from x : ℕ) → first_from test rows from ≡ Some x → Found from x
  first_found from x e = found_by (length rows) from x (omega arith) e

  none_by : (n from : ℕ) → length rows ≤ from + n → first_from test rows from ≡ None
      → (x : ℕ) → from ≤ x → x < length rows → test (row_at rows x) ≡ false
  none_by zero from h e x l k = absurd (omega arith)
  none_by (suc n) from h e x l k = here (test (row_at rows from)) refl (none_by n (from + 1) (omega arith))
    where
      within : from < length rows
      within = omega arith

      here : (b : Bool) → test (row_at rows from) ≡ b
          → (first_from test rows (from + 1) ≡ None → (y : ℕ) → from + 1 ≤ y → y < length rows → test (row_at rows y) ≡ false)
          → test (row_at rows x) ≡ false
      here true t more =
          let d : ◌≡◌ {A = Option ℕ} (Some from) None = sym (first_here from within t) ∙ e in
          let z : ◌≡◌ {A = ℕ} 0 1 = cc in absurd (omega arith)
      here false t more =
          ⊎_elim (λ z. more (sym (first_on from within t) ∙ e) x (omega arith) k)
          (λ z. let s : from ≡ x = omega arith in subst (λ q. test (row_at rows q) ≡ false) s t) (cases_lt from x)

  pub first_none : (from : ℕ) → first_from test rows from ≡ None → (x : ℕ) → from ≤ x → x < length rows → test (row_at rows x) ≡ false
  first_none from e = none_by (length rows) from (omega arith) e

-- ---- a test that a weaker one is asked before

module _ (weak strong : Edge → Bool) (weaker : (f : Edge) → strong f ≡ true → weak f ≡ true) (rows : List Edge) where
  fails_too : (f : Edge) → weak f ≡ false → strong f ≡ false
  fails_too f e = ⊎_elim (λ t. absurd (false≢true (sym e ∙ weaker f t))) (λ t. t) (cases_Bool (strong f))

  pub both_none : (from : ℕ) → first_from weak rows from ≡ None → first_from strong rows from ≡ None
  both_none from e =
      let past : length rows ≤ from + length rows = omega arith in
      first_skip strong rows (length rows) from (λ x l h k. fails_too _ (first_none weak rows from e x l k))
      ∙ first_past strong rows (from + length rows) past

  -- up to the first that passes the weaker test
  pub both_at : (from x : ℕ) → first_from weak rows from ≡ Some x → first_from strong rows from ≡ first_from strong rows x
  both_at from x e =
      let w = first_found weak rows from x e in
      let (n, is) = apart from x w.since in
      first_skip strong rows n from (λ y l h k. fails_too _ (w.fails y l (omega (arith, is)))) ∙ ap (first_from strong rows) is
    where
      apart : (a b : ℕ) → a ≤ b → (n : ℕ) × (a + n ≡ b)
      apart a b h = (b - a, omega arith)

  pub both_here : (from x : ℕ) → first_from weak rows from ≡ Some x → strong (row_at rows x) ≡ true
      → first_from strong rows from ≡ Some x
  both_here from x e t = both_at from x e ∙ first_here strong rows x (first_found weak rows from x e).within t

  pub both_on : (from x : ℕ) → first_from weak rows from ≡ Some x → strong (row_at rows x) ≡ false
      → first_from strong rows from ≡ first_from strong rows (x + 1)
  both_on from x e t = both_at from x e ∙ first_on strong rows x (first_found weak rows from x e).within t
