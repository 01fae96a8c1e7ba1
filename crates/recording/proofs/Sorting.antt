-- What is put in order keeps its members, and ascends.
-- Assumes nothing.
use Rattle.std.proofs.Common.{◌≡◌, ◌+◌, ◌<◌, ◌≤◌, false, not, List, [], ◌∷◌, length, Ordering, sym, refl, ap, ◌∙◌, subst, arith}
use mathlib.Core.List.{Memᴰ}
use Rattle.std.proofs.lemmas.List.{length-drop, length-replicate}
use Rattle.std.proofs.lemmas.Bool.{and_right, cond-false}
use Rattle.sorted_list.specs.Orders.{TotalOrder, Same}
use Rattle.sorted_list.specs.Lists.{Held, opened, present, none, added, refused}
use Rattle.sorted_list.specs.Laws.{Ascending, accepted}
use Rattle.sorted_list.proofs.Adding.{by_way}
use Rattle.sorted_list.proofs.Filling.{fills, whole_keys}
use Rattle.recording.specs.Sorting.{sorted}

module _ {X : Type 0} (rank : X → X → Ordering) where
  pub some_free : (ys : List X) → 0 < length ys → none ys ≡ false
  some_free [] h = absurd (omega arith)
  some_free (y ∷ ys) h = refl

  -- One record takes at most one place.
  still_free : (h : Held X) (r : X) → length h.free ≤ length (added rank h r).free + 1
  still_free h r =
      by_way rank h r (λ k b. length h.free ≤ length k.free + 1) (λ _. omega arith) (omega arith)
      (λ _ _. omega (arith, length-drop 1 h.free))

  -- Where each record has a place none is refused.
  enough : (h : Held X) (rs : List X) → length rs ≤ length h.free → accepted rank h rs ≡ rs
  enough h [] k = refl
  enough h (r ∷ rs) k =
      let free : none h.free ≡ false = some_free h.free (omega arith) in
      let in_it : refused rank h r ≡ false = and_right (not (present rank h.records r)) (none h.free) free in
      let rest = accepted rank (added rank h r) rs in
      cond-false (refused rank h r) rest (r ∷ rest) in_it
      ∙ ap (λ l. r ∷ l) (enough (added rank h r) rs (omega (arith, still_free h r)))

  module _ (o : TotalOrder rank) (vacant : X) (rs : List X) where
    taken : accepted rank (opened vacant (length rs)) rs ≡ rs
    taken = enough (opened vacant (length rs)) rs (omega (arith, length-replicate (length rs) vacant))

    pub sorted_ascends : Ascending rank (sorted rank vacant rs)
    sorted_ascends = (fills rank o vacant (length rs) rs).ascends

    pub sorted_only : (x : X) → Memᴰ x (sorted rank vacant rs) → Memᴰ x rs
    sorted_only x m = subst (λ l. Memᴰ x l) taken ((fills rank o vacant (length rs) rs).only x m)

    pub sorted_all : Same rank → (x : X) → Memᴰ x rs → Memᴰ x (sorted rank vacant rs)
    sorted_all same x m = (whole_keys rank o vacant same).fills (length rs) rs x (subst (λ l. Memᴰ x l) (sym taken) m)
