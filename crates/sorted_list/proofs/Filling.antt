-- The laws of a list that is opened and then only added to.
use Rattle.std.proofs.Common.{◌≡◌, ℕ, zero, suc, ◌+◌, Bool, true, false, cond, ◌⊎◌, List, [], ◌∷◌, length, replicate, Ordering, refl, ap, ◌∙◌, inl, inr, ⊎_elim, true≢false, arith}
use mathlib.Core.List.Memᴰ
use mathlib.Core.List.{Memᴰ}
use Rattle.std.proofs.lemmas.List.{length-replicate}
use Rattle.sorted_list.specs.Orders.{TotalOrder, Same}
use Rattle.sorted_list.specs.Lists.{Held, opened, added, refused}
use Rattle.sorted_list.specs.Laws.{Ascending, HasEqual, Blank, Adds, Filling, WholeKeys, filled, accepted}
use Rattle.sorted_list.proofs.Orders.{equal_self}
use Rattle.sorted_list.proofs.Members.{once_from_ascending}
use Rattle.sorted_list.proofs.Walks.{equal_from_present, present_from_equal}
use Rattle.sorted_list.proofs.Adding.{adds, member_from_equal}

module _ {X : Type 0} (rank : X → X → Ordering) (o : TotalOrder rank) (vacant : X) where
  step : (h : Held X) (r : X) → Adds rank vacant h r
  step = adds rank o vacant

  -- what each record keeps, all of them keep
  pub filled_keeps : (P : Held X → Type 0) → ((h : Held X) (r : X) → P h → P (added rank h r))
      → (h : Held X) (rs : List X) → P h → P (filled rank h rs)
  filled_keeps P one h [] p = p
  filled_keeps P one h (r ∷ rs) p = filled_keeps P one (added rank h r) rs (one h r p)

  -- a record that is not refused stands first among the accepted
  accepted_more : (b : Bool) (r x : X) (xs : List X) → Memᴰ x xs → Memᴰ x (cond b xs (r ∷ xs))
  accepted_more true r x xs m = m
  accepted_more false r x xs m = Memᴰ.tail m

  accepted_first : (b : Bool) (r x : X) (xs : List X) → b ≡ false → x ≡ r → Memᴰ x (cond b xs (r ∷ xs))
  accepted_first true r x xs f e = absurd (true≢false f)
  accepted_first false r x xs f e = Memᴰ.head e

  accepted_cases : (b : Bool) (r x : X) (xs : List X) → Memᴰ x (cond b xs (r ∷ xs)) → ((x ≡ r) × (b ≡ false)) ⊎ Memᴰ x xs
  accepted_cases true r x xs m = inr m
  accepted_cases false r x xs (Memᴰ.head e) = inl (e, refl)
  accepted_cases false r x xs (Memᴰ.tail m) = inr m

  pub filled_only : (h : Held X) (rs : List X) (x : X) → Memᴰ x (filled rank h rs).records
      → Memᴰ x h.records ⊎ Memᴰ x (accepted rank h rs)
  filled_only h [] x m = inl m
  filled_only h (r ∷ rs) x m =
      let rest = accepted rank (added rank h r) rs in
      ⊎_elim (λ a. ⊎_elim (λ n. inl n) (λ e. inr (accepted_first (refused rank h r) r x rest e.1 e.0)) ((step h r).only x a))
      (λ b. inr (accepted_more (refused rank h r) r x rest b))
      (filled_only (added rank h r) rs x m)

  pub filled_all : (h : Held X) (rs : List X) (x : X) → Memᴰ x (accepted rank h rs) → HasEqual rank (filled rank h rs).records x
  filled_all h [] x m = absurd (Memᴰ.not-nil m)
  filled_all h (r ∷ rs) x m =
      let next = added rank h r in
      let later = filled_all next rs x in
      ⊎_elim
      (λ e. let t = (step h r).has e.1 in (
        t.0,
        filled_keeps (λ k. Memᴰ t.0 k.records) (λ k s. (step k s).keeps t.0) next rs t.1,
        ap (rank t.0) e.0 ∙ t.2,
      ))
      later
      (accepted_cases (refused rank h r) r x (accepted rank next rs) m)

  pub all_blank : (n : ℕ) → Blank vacant (replicate n vacant)
  all_blank zero = tt
  all_blank (suc n) = (refl, all_blank n)

  pub fills : Filling rank vacant
  fills n rs =
      let start = opened vacant n in
      let size : length start.records + length start.free ≡ n = omega (arith, length-replicate n vacant) in
      let up = filled_keeps (λ k. Ascending rank k.records) (λ k r. (step k r).ascends) start rs tt in
      record {
        size = filled_keeps (λ k. length k.records + length k.free ≡ n) (λ k r p. (step k r).size ∙ p) start rs size;
        ascends = up;
        once = once_from_ascending o (filled rank start rs).records up;
        blanks = filled_keeps (λ k. Blank vacant k.free) (λ k r. (step k r).blanks) start rs (all_blank n);
        only = λ x m. ⊎_elim (λ a. absurd (Memᴰ.not-nil a)) (λ b. b) (filled_only start rs x m);
        all = filled_all start rs;
      }

  pub whole_keys : Same rank → WholeKeys rank vacant
  whole_keys same = record {
    finds = λ xs r up. (
      λ e. member_from_equal rank same xs r (equal_from_present rank xs r e),
      λ m. present_from_equal rank o xs r up (r, m, equal_self o r),
    );
    adds = λ h r e. member_from_equal rank same (added rank h r).records r ((step h r).has e);
    fills = λ n rs x m.
        member_from_equal rank same (filled rank (opened vacant n) rs).records x (filled_all (opened vacant n) rs x m);
  }
