-- The laws of adding one record.
use Rattle.std.proofs.Common.{◌≡◌, ◌+◌, ◌≤◌, Bool, true, false, cond, not, ◌&&◌, ◌||◌, ◌⊎◌, List, [], ◌∷◌, length, drop, Ordering, sym, refl, ◌∙◌, inl, inr, ⊎_elim, true≢false, arith}
use mathlib.Core.List.Memᴰ
use mathlib.Core.List.{Memᴰ}
use Rattle.std.proofs.lemmas.List.Edits.{length-insert}
use Rattle.std.proofs.ByRecursion.{All-drop}
use Rattle.sorted_list.specs.Orders.{TotalOrder, Same}
use Rattle.sorted_list.specs.Lists.{Held, place_for, present, none, entered, added, refused}
use Rattle.sorted_list.specs.Laws.{Ascending, HasEqual, Blank, Adds}
use Rattle.sorted_list.proofs.Orders.{equal_self}
use Rattle.sorted_list.proofs.Members.{inserted_has, inserted_keeps, inserted_only}
use Rattle.sorted_list.proofs.Walks.{by_first, equal_from_present, present_from_equal, inserted_ascends}

module _ {X : Type 0} (rank : X → X → Ordering) where
  -- what holds of the list afterwards and of the refusal: r is present, refused, or enters
  pub by_way : (h : Held X) (r : X) (P : Held X → Bool → Type 0)
      → (present rank h.records r ≡ true → P h false)
      → P h true
      → (present rank h.records r ≡ false → none h.free ≡ false → P (entered h (place_for rank h.records r) r) false)
      → P (added rank h r) (refused rank h r)
  by_way h r P stays full enters = by (present rank h.records r) (none h.free) refl refl
    where
      by : (p n : Bool) → present rank h.records r ≡ p → none h.free ≡ n
          → P (cond (p || n) h (entered h (place_for rank h.records r) r)) (not p && n)
      by true n e f = stays e
      by false true e f = full
      by false false e f = enters e f

  place_within : (xs : List X) (r : X) → place_for rank xs r ≤ length xs
  place_within [] r = omega arith
  place_within (x ∷ xs) r =
      let below = place_within xs r in
      by_first rank x r xs (λ i b. i ≤ length (x ∷ xs)) (λ _. omega arith) (λ _. omega arith) (λ _. omega arith)

  -- one place less is free behind the first
  pub one_less : (ys : List X) → none ys ≡ false → length (drop 1 ys) + 1 ≡ length ys
  one_less [] e = absurd (true≢false e)
  one_less (y ∷ ys) e = omega arith

  pub adds : TotalOrder rank → (vacant : X) (h : Held X) (r : X) → Adds rank vacant h r
  adds o vacant h r = record {
    size =
        by_way h r (λ k b. length k.records + length k.free ≡ length h.records + length h.free)
        (λ _. refl) refl
        (λ _ f. omega (
          arith,
          length-insert h.records (place_for rank h.records r) r (place_within h.records r),
          one_less h.free f,
        ));
    ascends = λ up.
        by_way h r (λ k b. Ascending rank k.records) (λ _. up) up (λ e _. inserted_ascends rank o h.records r up e);
    blanks = λ blank.
        by_way h r (λ k b. Blank vacant k.free) (λ _. blank) blank (λ _ _. All-drop (λ x. x ≡ vacant) 1 h.free blank);
    keeps = λ x m.
        by_way h r (λ k b. Memᴰ x k.records) (λ _. m) m
        (λ _ _. inserted_keeps h.records (place_for rank h.records r) r m);
    only = λ x.
        by_way h r (λ k b. Memᴰ x k.records → Memᴰ x h.records ⊎ ((x ≡ r) × (b ≡ false)))
        (λ _ m. inl m) (λ m. inl m)
        (λ _ _ m. ⊎_elim (λ n. inl n) (λ e. inr (e, refl)) (inserted_only h.records (place_for rank h.records r) r m));
    has =
        by_way h r (λ k b. b ≡ false → HasEqual rank k.records r)
        (λ e _. equal_from_present rank h.records r e)
        (λ b. absurd (true≢false b))
        (λ _ _ _. (r, inserted_has h.records (place_for rank h.records r) r, equal_self o r));
    stays = λ up has.
        by_way h r (λ k b. k ≡ h) (λ _. refl) refl
        (λ e _. absurd (true≢false (sym (present_from_equal rank o h.records r up has) ∙ e)));
  }

  -- where equal means the same, one that is equal to r is r
  pub member_from_equal : Same rank → (xs : List X) (r : X) → HasEqual rank xs r → Memᴰ r xs
  member_from_equal same xs r has = Memᴰ.cast (sym (same has.0 r has.2)) has.1
