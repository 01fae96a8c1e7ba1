-- What the order of records must be.
-- Assumes nothing.
use Rattle.std.specs.Prelude.{◌≡◌, List, [], ◌∷◌}
use Rattle.std.specs.declared.cmp.Ordering.TheVariants.{Less, Equal}
use Rattle.std.specs.declared.cmp.Ordering.{Ordering}
use Rattle.std.specs.Ordering.{ordering_reverse, Ordering-set}
use Rattle.std.specs.List.{AllByRecursion, AllByRecursion-prop}
use Rattle.std.specs.Coded.{×_prop, Unit-prop}

-- A total order, by how the first record stands to the second. Records that are equal in it stand alike to every third one,
-- and may differ. That a record is equal to itself follows from `flip`.
pub record TotalOrder {X : Type 0} (rank : X → X → Ordering) : Type 0 where
  pub flip : (x y : X) → rank x y ≡ ordering_reverse (rank y x)
  pub trans : (x y z : X) → rank x y ≡ Less → rank y z ≡ Less → rank x z ≡ Less
  pub alike : (x y z : X) → rank x y ≡ Equal → rank x z ≡ rank y z

-- Records that are equal in the order are the same record.
abbrev pub Same : {X : Type 0} → (X → X → Ordering) → Type 0
Same {X} rank = (x y : X) → rank x y ≡ Equal → x ≡ y

-- Each record comes before all that stand behind it.
abbrev pub Ascending : {X : Type 0} → (X → X → Ordering) → List X → Type 0
Ascending rank [] = Unit {0}
Ascending rank (x ∷ xs) = AllByRecursion (λ y. rank x y ≡ Less) xs × Ascending rank xs

-- That records ascend holds in one way at most.
pub ascending_once : {X : Type 0} (rank : X → X → Ordering) (xs : List X) → IsProp (Ascending rank xs)
ascending_once rank [] = Unit-prop
ascending_once rank (x ∷ xs) = ×_prop (AllByRecursion-prop _ (λ y. Ordering-set _ _) xs) (ascending_once rank xs)
