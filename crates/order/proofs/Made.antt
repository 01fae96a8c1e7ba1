-- A list that a function made place by place.
use Rattle.std.proofs.Common.{◌≡◌, ℕ, zero, suc, ◌+◌, ◌<◌, ◌≤◌, List, get_or, sym, ◌∙◌, subst, inl, inr, arith}
use denote.Param.Members.{Mut, Called}
use Rattle.std.specs.Array.{IsFromFnResult, IsFromFnResultFrom}
use Rattle.std.proofs.lemmas.List.{get_or_past}
use Rattle.std.proofs.lemmas.Bool.{cases_eq, cases_lt}

-- The function f answers v, and stays as it is.
abbrev pub Answers : {F : Type 0} → Mut F (ℕ × Unit {0}) ℕ → F → (ℕ → ℕ) → Type 0
Answers {F} g f v = (k r : ℕ) (q : F) → Called g f (k, tt) r q → (r ≡ v k) × (q ≡ f)

made_from : {F : Type 0} (g : Mut F (ℕ × Unit {0}) ℕ) (f : F) (v : ℕ → ℕ) (ys : List ℕ) (i n : ℕ) → Answers g f v
    → IsFromFnResultFrom g f ys i n → (j : ℕ) → i ≤ j → j < i + n → get_or ys j 0 ≡ v j
made_from g f v ys i zero says m j l h = absurd (omega arith)
made_from g f v ys i (suc n) says (q, y, at, call, rest) j l h =
    let s = says i y q call in
    elim (cases_eq j i) [
      | inl e ↦ rw e (at.1 0 ∙ s.0)
      | inr ne ↦
          let on = subst (λ t. IsFromFnResultFrom g t ys (i + 1) n) s.1 rest in
          made_from g f v ys (i + 1) n says on j (omega arith) (omega arith)
    ]

pub made_at : {F : Type 0} {g : Mut F (ℕ × Unit {0}) ℕ} {f : F} {ys : List ℕ} {n : ℕ} (v : ℕ → ℕ) → Answers g f v
    → IsFromFnResult g f ys n → ((j : ℕ) → n ≤ j → v j ≡ 0) → (j : ℕ) → get_or ys j 0 ≡ v j
made_at {F} {g} {f} {ys} {n} v says m past j =
    elim (cases_lt j n) [
      | inl l ↦ made_from g f v ys 0 n says m.each j (omega arith) (omega arith)
      | inr h ↦ get_or_past ys j 0 (omega (arith, m.long)) ∙ sym (past j h)
    ]
