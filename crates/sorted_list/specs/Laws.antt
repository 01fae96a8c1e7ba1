-- The laws of adding, over any total order of the records. `Memᴰ x xs` says that x is one of xs.
-- Assumes nothing.
use Rattle.std.specs.Prelude.{◌≡◌, ℕ, ◌+◌, ◌<◌, false, cond, ◌⊎◌, List, [], ◌∷◌, length, Decides, ◌≢◌, slice_index_or}
use Rattle.std.specs.declared.cmp.Ordering.TheVariants.{Equal}
use Rattle.std.specs.declared.cmp.Ordering.{Ordering}
use mathlib.Core.List.{Memᴰ}
use Rattle.std.specs.List.{AllByRecursion}
pub use Rattle.sorted_list.specs.Orders.{Ascending}
use Rattle.sorted_list.specs.Lists.{Held, opened, present, added, refused}

-- No record stands at two places.
abbrev pub Once : {X : Type 0} → List X → Type 0
Once {X} xs = (i j : ℕ) (d : X) → i < j → j < length xs → slice_index_or xs i d ≢ slice_index_or xs j d

abbrev pub Blank : {X : Type 0} → X → List X → Type 0
Blank vacant xs = AllByRecursion (λ x. x ≡ vacant) xs

-- A record that is equal to r in the order is one of xs.
abbrev pub HasEqual : {X : Type 0} → (X → X → Ordering) → List X → X → Type 0
HasEqual {X} rank xs r = (x : X) × Memᴰ x xs × (rank x r ≡ Equal)

-- An ascending list is known by its members.
abbrev pub Unique : {X : Type 0} → (X → X → Ordering) → Type 0
Unique {X} rank =
    (xs ys : List X) → Ascending rank xs → Ascending rank ys
    → ((x : X) → Memᴰ x xs → Memᴰ x ys) → ((x : X) → Memᴰ x ys → Memᴰ x xs) → xs ≡ ys

-- In an ascending list the walk finds a record that is equal to r exactly where there is one.
abbrev pub Finds : {X : Type 0} → (X → X → Ordering) → Type 0
Finds {X} rank = (xs : List X) (r : X) → Ascending rank xs → Decides (present rank xs r) (HasEqual rank xs r)

-- What r makes of a list.
pub record Adds {X : Type 0} (rank : X → X → Ordering) (vacant : X) (h : Held X) (r : X) : Type 0 where
  pub size : length (added rank h r).records + length (added rank h r).free ≡ length h.records + length h.free
  pub ascends : Ascending rank h.records → Ascending rank (added rank h r).records
  pub blanks : Blank vacant h.free → Blank vacant (added rank h r).free
  -- the old members stay, and at most r is new
  pub keeps : (x : X) → Memᴰ x h.records → Memᴰ x (added rank h r).records
  pub only : (x : X) → Memᴰ x (added rank h r).records → Memᴰ x h.records ⊎ ((x ≡ r) × (refused rank h r ≡ false))
  -- afterwards one is equal to r, unless r is refused
  pub has : refused rank h r ≡ false → HasEqual rank (added rank h r).records r
  -- nothing changes where one is equal to r already
  pub stays : Ascending rank h.records → HasEqual rank h.records r → added rank h r ≡ h

-- ---- a list that is opened, and then only added to

abbrev pub filled : {X : Type 0} → (X → X → Ordering) → Held X → List X → Held X
filled rank h [] = h
filled rank h (r ∷ rs) = filled rank (added rank h r) rs

-- Those of rs that are not refused as they are added in turn.
abbrev pub accepted : {X : Type 0} → (X → X → Ordering) → Held X → List X → List X
accepted rank h [] = []
accepted rank h (r ∷ rs) =
    cond (refused rank h r) (accepted rank (added rank h r) rs) (r ∷ accepted rank (added rank h r) rs)

-- What h, a list over n places, holds once the records rs were added to it and not refused.
pub record Fills {X : Type 0} (rank : X → X → Ordering) (vacant : X) (n : ℕ) (rs : List X) (h : Held X) : Type 0 where
  pub size : length h.records + length h.free ≡ n
  pub ascends : Ascending rank h.records
  pub once : Once h.records
  pub blanks : Blank vacant h.free
  -- only those records, and one equal to each of them
  pub only : (x : X) → Memᴰ x h.records → Memᴰ x rs
  pub all : (x : X) → Memᴰ x rs → HasEqual rank h.records x

abbrev pub Filling : {X : Type 0} → (X → X → Ordering) → X → Type 0
Filling {X} rank vacant =
    (n : ℕ) (rs : List X) → let h = opened vacant n in Fills rank vacant n (accepted rank h rs) (filled rank h rs)

-- ---- what holds besides where equal in the order means the same record

pub record WholeKeys {X : Type 0} (rank : X → X → Ordering) (vacant : X) : Type 0 where
  -- the walk finds r exactly where it is a member
  pub finds : (xs : List X) (r : X) → Ascending rank xs → Decides (present rank xs r) (Memᴰ r xs)
  -- with `keeps` and `only`: the members afterwards are the old ones and r, unless r is refused
  pub adds : (h : Held X) (r : X) → refused rank h r ≡ false → Memᴰ r (added rank h r).records
  -- with `only`: an opened list holds exactly the records that were added and not refused
  pub fills : (n : ℕ) (rs : List X) (x : X) → Memᴰ x (accepted rank (opened vacant n) rs)
      → Memᴰ x (filled rank (opened vacant n) rs).records
