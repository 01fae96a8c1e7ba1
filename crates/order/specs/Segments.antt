-- Numbered segments as two lists: which are open ends, and what else is known of each.
-- Assumes nothing.
use Rattle.std.specs.Prelude.{ℕ, Bool, false, ◌&&◌, List, map, length, nat_lt, slice_index_or}
use Rattle.order.specs.declared.segments.Segment.{Segment}

module _ {T : Type 0} where
  abbrev pub ends_of : List (Segment T) → List Bool
  ends_of places = map (λ s. s.is_open) places

  abbrev pub known_of : List (Segment T) → List T
  known_of places = map (λ s. s.known) places

  abbrev pub count_of : List (Segment T) → ℕ
  count_of places = length (known_of places)

  -- Only numbers below the count are segments.
  abbrev pub end_at : List (Segment T) → ℕ → Bool
  end_at places x = nat_lt x (count_of places) && slice_index_or (ends_of places) x false
