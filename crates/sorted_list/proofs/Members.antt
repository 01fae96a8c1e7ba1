-- Members of a list into which a record was put, and of ascending lists.
use Rattle.std.proofs.Common.{◌≡◌, ℕ, zero, suc, ◌<◌, ◌⊎◌, List, [], ◌∷◌, ◌++◌, length, get_or, take, drop, Ordering, Less, sym, refl, ap, ◌∙◌, subst, inl, inr, ⊎_elim, arith}
use mathlib.Core.List.Memᴰ
use mathlib.Core.List.{Memᴰ}
use Rattle.std.specs.List.{insert, AllByRecursion}
use Rattle.std.proofs.ByRecursion.{All-append, All-take, All-drop, All-get_or}
use Rattle.std.proofs.lemmas.List.{take-append-drop}
use Rattle.sorted_list.specs.Orders.{TotalOrder}
use Rattle.sorted_list.specs.Laws.{Ascending, Once, Unique}
use Rattle.sorted_list.proofs.Orders.{not_equal, not_greater, equal_self, flipped}

module _ {X : Type 0} where
  pub all_member : (P : X → Type 0) {x : X} (xs : List X) → AllByRecursion P xs → Memᴰ x xs → P x
  all_member P [] h m = elim m [ ]
  all_member P (y ∷ xs) h (Memᴰ.head e) = subst P (sym e) h.0
  all_member P (y ∷ xs) h (Memᴰ.tail m) = all_member P xs h.1 m

  -- ---- r put at a place i

  pub all_inserted : (P : X → Type 0) (xs : List X) (i : ℕ) (r : X) → AllByRecursion P xs → P r → AllByRecursion P (insert xs i r)
  all_inserted P xs i r h p = All-append P (take i xs) (r ∷ drop i xs) (All-take P i xs h) (p, All-drop P i xs h)

  pub inserted_has : (xs : List X) (i : ℕ) (r : X) → Memᴰ r (insert xs i r)
  inserted_has xs i r = Memᴰ.append_right (take i xs) (Memᴰ.head refl)

  pub inserted_keeps : (xs : List X) (i : ℕ) (r : X) {x : X} → Memᴰ x xs → Memᴰ x (insert xs i r)
  inserted_keeps xs i r {x} m =
      ⊎_elim (λ a. Memᴰ.append_left (r ∷ drop i xs) a) (λ b. Memᴰ.append_right (take i xs) (Memᴰ.tail b))
      (Memᴰ.append_cases (take i xs) (subst (λ l. Memᴰ x l) (sym (take-append-drop i xs)) m))

  pub inserted_only : (xs : List X) (i : ℕ) (r : X) {x : X} → Memᴰ x (insert xs i r) → Memᴰ x xs ⊎ (x ≡ r)
  inserted_only xs i r {x} m =
      let back = λ (a : Memᴰ x (take i xs ++ drop i xs)). subst (λ l. Memᴰ x l) (take-append-drop i xs) a in
      ⊎_elim (λ a. inl (back (Memᴰ.append_left (drop i xs) a)))
      (λ b. ⊎_elim (λ e. inr e) (λ d. inl (back (Memᴰ.append_right (take i xs) d))) (Memᴰ.cases_cons b))
      (Memᴰ.append_cases (take i xs) m)

  -- ---- ascending lists

  module _ {rank : X → X → Ordering} (o : TotalOrder rank) where
    pub ascending_at : (xs : List X) (i j : ℕ) (d : X) → Ascending rank xs → i < j → j < length xs → rank (get_or xs i d) (get_or xs j d) ≡ Less
    ascending_at [] i j d up l h = absurd (omega arith)
    ascending_at (x ∷ xs) i zero d up l h = absurd (omega arith)
    ascending_at (x ∷ xs) zero (suc j) d up l h = All-get_or (λ y. rank x y ≡ Less) xs j d (omega arith) up.0
    ascending_at (x ∷ xs) (suc i) (suc j) d up l h = ascending_at xs i j d up.1 (omega arith) (omega arith)

    pub once_from_ascending : (xs : List X) → Ascending rank xs → Once xs
    once_from_ascending xs up i j d l h e =
        not_equal (ascending_at xs i j d up l h) (ap (rank (get_or xs i d)) (sym e) ∙ equal_self o (get_or xs i d))

    -- behind the same first record the members are the same too
    rest_member : (x : X) (xs ys : List X) → AllByRecursion (λ y. rank x y ≡ Less) xs
        → ((z : X) → Memᴰ z (x ∷ xs) → Memᴰ z (x ∷ ys)) → (z : X) → Memᴰ z xs → Memᴰ z ys
    rest_member x xs ys below to z m =
        ⊎_elim (λ e. absurd (not_equal (all_member (λ y. rank x y ≡ Less) xs below m) (ap (rank x) e ∙ equal_self o x))) (λ n. n)
        (Memᴰ.cases_cons (to z (Memᴰ.tail m)))

    same_first : (x y : X) (xs ys : List X) → AllByRecursion (λ z. rank x z ≡ Less) xs → AllByRecursion (λ z. rank y z ≡ Less) ys
        → (x ≡ y) ⊎ Memᴰ x ys → (y ≡ x) ⊎ Memᴰ y xs → x ≡ y
    same_first x y xs ys p q (inl e) n = e
    same_first x y xs ys p q (inr m) (inl e) = sym e
    same_first x y xs ys p q (inr m) (inr n) =
        absurd (not_greater (all_member (λ z. rank y z ≡ Less) ys q m) (flipped o (all_member (λ z. rank x z ≡ Less) xs p n)))

    pub unique : Unique rank
    unique [] [] p q to from = refl
    unique [] (y ∷ ys) p q to from = absurd (Memᴰ.not-nil (from y (Memᴰ.head refl)))
    unique (x ∷ xs) [] p q to from = absurd (Memᴰ.not-nil (to x (Memᴰ.head refl)))
    unique (x ∷ xs) (y ∷ ys) p q to from =
        let first = Memᴰ.cases_cons (to x (Memᴰ.head refl)) in
        let other = Memᴰ.cases_cons (from y (Memᴰ.head refl)) in
        let e : x ≡ y = same_first x y xs ys p.0 q.0 first other in
        let to' = subst (λ w. (z : X) → Memᴰ z (x ∷ xs) → Memᴰ z (w ∷ ys)) (sym e) to in
        let from' = subst (λ w. (z : X) → Memᴰ z (w ∷ ys) → Memᴰ z (x ∷ xs)) (sym e) from in
        let below = subst (λ w. AllByRecursion (λ z. rank w z ≡ Less) ys) (sym e) q.0 in
        let rest : xs ≡ ys = unique xs ys p.1 q.1 (rest_member x xs ys p.0 to') (rest_member x ys xs below from') in
        ap (λ w. w ∷ xs) e ∙ ap (λ l. y ∷ l) rest
