-- What the walk past the smaller records finds.
use Rattle.std.proofs.Common.{◌≡◌, ℕ, zero, suc, ◌+◌, ◌<◌, ◌≤◌, Bool, true, false, cond, List, [], ◌∷◌, length, get_or, take, drop, set, Ordering, Less, Equal, Greater, Ok, Err, Result, IfOk, IfErr, sym, refl, ap, ◌∙◌, subst, true≢false, arith}
use mathlib.Core.List.Memᴰ
use Rattle.std.specs.Ordering.{is_lt, is_eq, ordering_index}
use Rattle.std.specs.List.{insert, AllWithin, copy_within}
use Rattle.std.specs.List.Sorted.{IsNonDecreasingBy, IsSearchInRange, IsBinarySearchResult}
use Rattle.std.proofs.lemmas.List.Sorted.{searchable_from_sorted}
use Rattle.std.proofs.ByRecursion.{All-weaker, All-take}
use Rattle.std.proofs.lemmas.List.{take-take}
use Rattle.sorted_list.proofs.Places.{put_held}
use Rattle.sorted_list.specs.Orders.{TotalOrder}
use Rattle.sorted_list.specs.Lists.{place_for, first_equals, present, IsPlaceFor}
use Rattle.sorted_list.specs.Laws.{Ascending, HasEqual, Finds}
use Rattle.sorted_list.proofs.Orders.{library_order, not_equal, not_greater, equal_not_greater, flipped, before_equal}
use Rattle.sorted_list.proofs.Members.{all_member, all_inserted, ascending_at}

module _ {X : Type 0} (rank : X → X → Ordering) where
  -- what holds of r's place and of r's being there, by how the first record stands to r
  pub by_first : (x r : X) (xs : List X) (P : ℕ → Bool → Type 0)
      → (rank x r ≡ Less → P (suc (place_for rank xs r)) (present rank xs r))
      → (rank x r ≡ Equal → P 0 true)
      → (rank x r ≡ Greater → P 0 false)
      → P (place_for rank (x ∷ xs) r) (present rank (x ∷ xs) r)
  by_first x r xs P less equal greater = by (rank x r) refl
    where
      Q : Bool → Type 0
      Q b = let i = cond b (suc (place_for rank xs r)) 0 in P i (first_equals rank (drop i (x ∷ xs)) r)

      by : (a : Ordering) → rank x r ≡ a → Q (is_lt (rank x r))
      by Less e = subst Q (sym (ap is_lt e)) (less e)
      by Equal e = subst Q (sym (ap is_lt e)) (subst (P 0) (sym (ap is_eq e)) (equal e))
      by Greater e = subst Q (sym (ap is_lt e)) (subst (P 0) (sym (ap is_eq e)) (greater e))

  -- what the walk finds is there, in any list
  pub equal_from_present : (xs : List X) (r : X) → present rank xs r ≡ true → HasEqual rank xs r
  equal_from_present [] r e = absurd (true≢false (sym e))
  equal_from_present (x ∷ xs) r e =
      by_first x r xs (λ i b. b ≡ true → HasEqual rank (x ∷ xs) r)
      (λ _ p. let t = equal_from_present xs r p in (t.0, Memᴰ.tail t.1, t.2))
      (λ q _. (x, Memᴰ.head refl, q))
      (λ _ p. absurd (true≢false (sym p)))
      e

  module _ (o : TotalOrder rank) where
    pub present_from_equal : (xs : List X) (r : X) → Ascending rank xs → HasEqual rank xs r → present rank xs r ≡ true
    present_from_equal [] r up has = absurd (Memᴰ.not-nil has.1)
    present_from_equal (x ∷ xs) r up (y, Memᴰ.head e, q) =
        let here : rank x r ≡ Equal = ap (λ w. rank w r) (sym e) ∙ q in
        by_first x r xs (λ i b. b ≡ true) (λ p. absurd (not_equal p here)) (λ _. refl) (λ p. absurd (equal_not_greater here p))
    present_from_equal (x ∷ xs) r up (y, Memᴰ.tail m, q) =
        let less : rank x r ≡ Less = before_equal o (all_member (λ z. rank x z ≡ Less) xs up.0 m) q in
        let later = present_from_equal xs r up.1 (y, m, q) in
        by_first x r xs (λ i b. b ≡ true) (λ _. later) (λ _. refl) (λ p. absurd (not_greater less p))

    pub finds : Finds rank
    finds xs r up = (equal_from_present xs r, present_from_equal xs r up)

    -- an absent record goes between those before it and those behind it
    pub inserted_ascends : (xs : List X) (r : X) → Ascending rank xs → present rank xs r ≡ false
        → Ascending rank (insert xs (place_for rank xs r) r)
    inserted_ascends [] r up absent = (tt, tt)
    inserted_ascends (x ∷ xs) r up absent =
        by_first x r xs (λ i b. b ≡ false → Ascending rank (insert (x ∷ xs) i r))
        (λ p a. (all_inserted (λ y. rank x y ≡ Less) xs (place_for rank xs r) r up.0 p, inserted_ascends xs r up.1 a))
        (λ _ a. absurd (true≢false a))
        (λ p _.
        let first : rank r x ≡ Less = flipped o p in
        let rest = All-weaker (λ y. rank x y ≡ Less) (λ y. rank r y ≡ Less) (λ y q. o.trans r x y first q) xs up.0 in
        ((first, rest), up))
        absent

    -- what a binary search finds: a record that is equal to r, or r's place

    rises : (xs : List X) (r : X) → Ascending rank xs → IsNonDecreasingBy (λ x. ordering_index (rank x r)) xs
    rises xs r up =
        searchable_from_sorted (library_order o) (λ x. x) xs r
        (λ k d low high. ap is_lt (flipped o (ascending_at o xs k (k + 1) d up (omega arith) high)))

    parted : (xs : List X) (r : X) (i : ℕ) → i ≤ length xs → AllWithin (λ x. rank x r ≡ Less) xs 0 i
        → AllWithin (λ x. rank x r ≡ Greater) xs i (length xs) → IsPlaceFor rank xs r i
    parted [] r i le below above = record { within = le; place = omega arith; absent = refl }
    parted (x ∷ xs) r zero le below above =
        let here = above 0 r (omega arith) (omega arith) in
        let t =
        by_first x r xs (λ j b. (0 ≡ j) × (b ≡ false)) (λ e. absurd (not_greater e here))
        (λ e. absurd (equal_not_greater e here)) (λ _. (refl, refl)) in
        record { within = le; place = t.0; absent = t.1 }
    parted (x ∷ xs) r (suc i) le below above =
        let here = below 0 r (omega arith) (omega arith) in
        let rest =
        parted xs r i (omega arith) (λ k d low high. below (suc k) d (omega arith) (omega arith))
        (λ k d low high. above (suc k) d (omega arith) (omega arith)) in
        let t =
        by_first x r xs (λ j b. (suc i ≡ j) × (b ≡ false)) (λ _. (ap suc rest.place, rest.absent))
        (λ e. absurd (not_equal here e)) (λ e. absurd (not_greater here e)) in
        record { within = le; place = t.0; absent = t.1 }

    equal_at : (xs : List X) (r : X) (i : ℕ) → i < length xs → rank (get_or xs i r) r ≡ Equal → HasEqual rank xs r
    equal_at [] r i lt e = absurd (omega arith)
    equal_at (x ∷ xs) r zero lt e = (x, Memᴰ.head refl, e)
    equal_at (x ∷ xs) r (suc i) lt e = let t = equal_at xs r i (omega arith) e in (t.0, Memᴰ.tail t.1, t.2)

    pub searched : (xs : List X) (r : X) (s : Result ℕ ℕ) → Ascending rank xs → IsSearchInRange s (length xs)
        → IsBinarySearchResult (λ x. rank x r) xs s
        → record { present : IfOk s (λ _. present rank xs r ≡ true); absent : IfErr s (IsPlaceFor rank xs r) }
    searched xs r (Ok i) up within h =
        record { present = present_from_equal xs r up (equal_at xs r i within (h r)); absent = tt }
    searched xs r (Err i) up within h =
        let t = h (rises xs r up) in
        record { present = tt; absent = parted xs r i within t.0 t.1 }

    front_ascends : (xs : List X) (k : ℕ) → Ascending rank xs → Ascending rank (take k xs)
    front_ascends [] zero up = tt
    front_ascends [] (suc k) up = tt
    front_ascends (x ∷ xs) zero up = tt
    front_ascends (x ∷ xs) (suc k) up = (All-take (λ y. rank x y ≡ Less) k xs up.0, front_ascends xs k up.1)

    -- the first k of the records once r is put in ascend, and so do all of them
    pub put_ascends : (l m : List X) (n i : ℕ) (r : X) → l ≡ copy_within m i n (i + 1) → Ascending rank (take n m)
        → IsPlaceFor rank (take n m) r i → n < length m → (k : ℕ) → k ≤ n + 1 → Ascending rank (take k (set l i r))
    put_ascends l m n i r after up at room k below =
        let put = put_held l m n i r after at.within room in
        let whole = subst (λ j. Ascending rank (insert (take n m) j r)) (sym at.place) (inserted_ascends (take n m) r up at.absent) in
        let all = subst (Ascending rank) (sym (ap (λ h. h.records) put)) whole in
        subst (Ascending rank) (take-take k (n + 1) (set l i r) below) (front_ascends (take (n + 1) (set l i r)) k all)
