-- What a sorted list holds, and what each call makes of it. Stated for every list, also one that does not ascend.
-- Assumes nothing.
use Rattle.std.specs.Prelude.{◌≡◌, ℕ, suc, ◌≤◌, Bool, true, false, cond, not, ◌&&◌, ◌||◌, List, [], ◌∷◌, ◌++◌, take, drop, replicate, length, Ok, Err, Result}
use Rattle.std.specs.declared.cmp.Ordering.{Ordering}
use Rattle.std.specs.Ordering.{is_lt, is_eq}
use Rattle.std.specs.List.{insert}
use Rattle.sorted_list.specs.declared.cause.ListCause.{ListCause}
use Rattle.sorted_list.specs.declared.cause.ListCause.TheVariants.{Full}
use Rattle.sorted_list.specs.declared.list.SortedList.{SortedList}

-- The records in the counted places, and what stands in the free places behind them.
pub record Held (X : Type 0) : Type 0 where
  pub records : List X
  pub free : List X

abbrev pub memory : {X : Type 0} → Held X → List X
memory h = h.records ++ h.free

-- A memory whose first n places are counted.
abbrev pub cut : {X : Type 0} → List X → ℕ → Held X
cut places n = record { records = take n places; free = drop n places }

abbrev pub held : {X : Type 0} {r : _} → SortedList X r → Held X
held l = cut l.places.now l.count

-- No record, and the blank one at each of n places.
abbrev pub opened : {X : Type 0} → X → ℕ → Held X
opened vacant n = record { records = []; free = replicate n vacant }

-- How many records come before r, from the front up to the first that does not.
abbrev pub place_for : {X : Type 0} → (X → X → Ordering) → List X → X → ℕ
place_for rank [] r = 0
place_for rank (x ∷ xs) r = cond (is_lt (rank x r)) (suc (place_for rank xs r)) 0

-- Whether the first of the records is equal to r in the order.
abbrev pub first_equals : {X : Type 0} → (X → X → Ordering) → List X → X → Bool
first_equals rank [] r = false
first_equals rank (x ∷ xs) r = is_eq (rank x r)

-- Whether a record that is equal to r in the order stands at r's place.
abbrev pub present : {X : Type 0} → (X → X → Ordering) → List X → X → Bool
present rank xs r = first_equals rank (drop (place_for rank xs r) xs) r

-- The place for r is i, and no record that is equal to r in the order stands there.
pub record IsPlaceFor {X : Type 0} (rank : X → X → Ordering) (xs : List X) (r : X) (i : ℕ) : Type 0 where
  pub within : i ≤ length xs
  pub place : i ≡ place_for rank xs r
  pub absent : present rank xs r ≡ false

abbrev pub none : {X : Type 0} → List X → Bool
none [] = true
none (x ∷ xs) = false

-- r at the place, and the records from there on one place on, over the first free one.
abbrev pub entered : {X : Type 0} → Held X → ℕ → X → Held X
entered h place r = record { records = insert h.records place r; free = drop 1 h.free }

-- r goes to its place. A present record, and an absent one where no place is free, alter nothing.
abbrev pub added : {X : Type 0} → (X → X → Ordering) → Held X → X → Held X
added rank h r = cond (present rank h.records r || none h.free) h (entered h (place_for rank h.records r) r)

-- An absent record is refused where no place is free.
abbrev pub refused : {X : Type 0} → (X → X → Ordering) → Held X → X → Bool
refused rank h r = not (present rank h.records r) && none h.free

abbrev pub answer : {X : Type 0} → (X → X → Ordering) → Held X → X → Result (Unit {0}) ListCause
answer rank h r = cond (refused rank h r) (Err Full) (Ok tt)
