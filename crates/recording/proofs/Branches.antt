-- The lists that begin with the place of a row that passes a test: which they are, and that they ascend.
-- Assumes nothing.
use Rattle.std.proofs.Common.{◌≡◌, ℕ, zero, suc, ◌+◌, ◌<◌, Bool, true, false, cond, List, [], ◌∷◌, ◌++◌, map, length, Ordering, Less, Equal, sym, refl, ap, ◌∙◌, subst, ⊎_elim, arith}
use mathlib.Core.List.Memᴰ
use mathlib.Core.List.{Memᴰ}
use Rattle.std.specs.Cmp.{nat_cmp_is}
use Rattle.std.specs.Ordering.{ordering_then, nat_cmp}
use Rattle.std.specs.List.{AllByRecursion}
use Rattle.std.proofs.ByRecursion.{All-append, All-map}
use Rattle.std.proofs.lemmas.Bool.{cond-true, cond_both}
use Rattle.sorted_list.specs.Laws.{Ascending}
use Rattle.rows.specs.declared.edge.Edge.{Edge}
use Rattle.recording.specs.Enumeration.{row_at, branches, rank_places}
use Rattle.recording.proofs.Members.{all_from}

-- ---- lists of places in order

number_self : (p : ℕ) → nat_cmp p p ≡ Equal
number_self p = sym (nat_cmp_is p p Equal refl)

number_less : (p q : ℕ) → p < q → nat_cmp p q ≡ Less
number_less p q h = sym (nat_cmp_is p q Less h)

behind_one : (p : ℕ) (ps qs : List ℕ) → rank_places ps qs ≡ Less → rank_places (p ∷ ps) (p ∷ qs) ≡ Less
behind_one p ps qs h = subst (λ k. ordering_then k (rank_places ps qs) ≡ Less) (sym (number_self p)) h

behind_less : (p q : ℕ) (ps qs : List ℕ) → p < q → rank_places (p ∷ ps) (q ∷ qs) ≡ Less
behind_less p q ps qs h = ap (λ k. ordering_then k (rank_places ps qs)) (number_less p q h)

pub ascending_append : {X : Type 0} (rank : X → X → Ordering) (xs ys : List X) → Ascending rank xs → Ascending rank ys
    → AllByRecursion (λ x. AllByRecursion (λ y. rank x y ≡ Less) ys) xs → Ascending rank (xs ++ ys)
ascending_append rank [] ys a b c = b
ascending_append rank (x ∷ xs) ys a b c =
    (All-append (λ y. rank x y ≡ Less) xs ys a.0 c.0, ascending_append rank xs ys a.1 b c.1)

ascending_behind : (p : ℕ) (xs : List (List ℕ)) → Ascending rank_places xs → Ascending rank_places (map (λ qs. p ∷ qs) xs)
ascending_behind p [] a = tt
ascending_behind p (x ∷ xs) a = (
  All-map (λ y. rank_places (p ∷ x) y ≡ Less) (λ qs. p ∷ qs) xs (first xs a.0),
  ascending_behind p xs a.1,
)
  where
    first : (ys : List (List ℕ)) → AllByRecursion (λ y. rank_places x y ≡ Less) ys → AllByRecursion (λ y. rank_places (p ∷ x) (p ∷ y) ≡ Less) ys
    first [] h = tt
    first (y ∷ ys) h = (behind_one p x y h.0, first ys h.1)

module _ (test : Edge → Bool) (on : Edge → List (List ℕ)) where
  -- ---- branches in order

  above : (p : ℕ) (ps : List ℕ) (q : ℕ) (es : List Edge) → p < q → AllByRecursion (λ qs. rank_places (p ∷ ps) qs ≡ Less) (branches test on q es)
  above p ps q [] h = tt
  above p ps q (e ∷ es) h =
      let After : List ℕ → Type 0 = λ qs. rank_places (p ∷ ps) qs ≡ Less in
      All-append After (cond (test e) (map (λ qs. q ∷ qs) (on e)) []) (branches test on (suc q) es)
      (cond_both (test e) (map (λ qs. q ∷ qs) (on e)) [] (AllByRecursion After)
      (λ _. All-map After (λ qs. q ∷ qs) (on e) (all_from (λ qs. After (q ∷ qs)) (on e) (λ qs _. behind_less p q ps qs h)))
      (λ _. tt))
      (above p ps (suc q) es (omega arith))

  pub branches_ascend : ((e : Edge) → Ascending rank_places (on e)) → (p : ℕ) (es : List Edge)
      → Ascending rank_places (branches test on p es)
  branches_ascend up p [] = tt
  branches_ascend up p (e ∷ es) =
      let rest = branches test on (suc p) es in
      let Below : List ℕ → Type 0 = λ x. AllByRecursion (λ y. rank_places x y ≡ Less) rest in
      ascending_append rank_places (cond (test e) (map (λ qs. p ∷ qs) (on e)) []) rest
      (cond_both (test e) (map (λ qs. p ∷ qs) (on e)) [] (Ascending rank_places) (λ _. ascending_behind p (on e) (up e)) (λ _. tt))
      (branches_ascend up (suc p) es)
      (cond_both (test e) (map (λ qs. p ∷ qs) (on e)) [] (AllByRecursion Below)
      (λ _. All-map Below (λ qs. p ∷ qs) (on e) (all_from (λ qs. Below (p ∷ qs)) (on e) (λ qs _. above p qs (suc p) es (omega arith))))
      (λ _. tt))

  -- ---- branches are what they say

  pub branch_in : (p : ℕ) (es : List Edge) (i : ℕ) (qs : List ℕ) → i < length es → test (row_at es i) ≡ true
      → Memᴰ qs (on (row_at es i)) → Memᴰ ((p + i) ∷ qs) (branches test on p es)
  branch_in p [] i qs h t m = absurd (omega arith)
  branch_in p (e ∷ es) zero qs h t m =
      let here : p + 0 ≡ p = omega arith in
      let all = map (λ xs. p ∷ xs) (on e) in
      Memᴰ.append_left (branches test on (suc p) es)
      (subst (λ l. Memᴰ ((p + 0) ∷ qs) l) (sym (cond-true (test e) all [] t))
      (Memᴰ.cast (ap (λ x. x ∷ qs) here) (Memᴰ.map (λ xs. p ∷ xs) m)))
  branch_in p (e ∷ es) (suc i) qs h t m =
      let there : p + suc i ≡ suc p + i = omega arith in
      Memᴰ.append_right (cond (test e) (map (λ xs. p ∷ xs) (on e)) [])
      (Memᴰ.cast (ap (λ x. x ∷ qs) there) (branch_in (suc p) es i qs (omega arith) t m))

  pub record Branch (p : ℕ) (es : List Edge) (ps : List ℕ) : Type 0 where
    pub place : ℕ
    pub rest : List ℕ
    pub within : place < length es
    pub passes : test (row_at es place) ≡ true
    pub goes : Memᴰ rest (on (row_at es place))
    pub is : ps ≡ (p + place) ∷ rest

  pub branch_out : (p : ℕ) (es : List Edge) (ps : List ℕ) → Memᴰ ps (branches test on p es) → Branch p es ps
  branch_out p [] ps m = absurd (Memᴰ.not-nil m)
  branch_out p (e ∷ es) ps m =
      ⊎_elim (λ n. first (test e) refl n) (λ n. later (branch_out (suc p) es ps n))
      (Memᴰ.append_cases (cond (test e) (map (λ xs. p ∷ xs) (on e)) []) m)
    where
      first : (b : Bool) → test e ≡ b → Memᴰ ps (cond b (map (λ xs. p ∷ xs) (on e)) []) → Branch p (e ∷ es) ps
      first true t n =
          let w = Memᴰ.of_map (λ xs. p ∷ xs) (on e) n in
          let here : p ≡ p + 0 = omega arith in
          record { place = 0; rest = w.0; within = omega arith; passes = t; goes = w.1; is = sym w.2 ∙ ap (λ x. x ∷ w.0) here }
      first false t n = absurd (Memᴰ.not-nil n)

      later : Branch (suc p) es ps → Branch p (e ∷ es) ps
      later b =
          let there : suc p + b.place ≡ p + suc b.place = omega arith in
          record {
            place = suc b.place;
            rest = b.rest;
            within = omega (arith, b.within);
            passes = b.passes;
            goes = b.goes;
            is = b.is ∙ ap (λ x. x ∷ b.rest) there;
          }
