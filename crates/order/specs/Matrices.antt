-- The meaning of a matrix.
-- Assumes nothing.
use Rattle.std.specs.Prelude.{◌&&◌, List, nat_lt, slice_index_or}
use Rattle.order.specs.declared.bits.Bits.{Bits}
use Rattle.order.specs.declared.matrix.Matrix.{Matrix}
use Rattle.order.specs.declared.segments.Segment.{Segment}
use Rattle.order.specs.Bits.{has, no_bits}
use Rattle.order.specs.Meaning.{Meaning}
use Rattle.order.specs.Segments.{known_of, count_of, end_at}

-- Only numbers below the count are segments.
abbrev pub meaning_of : List (Segment Bits) → Meaning
meaning_of places =
    record {
      segments = count_of places;
      before = λ a b. nat_lt b (count_of places) && has (slice_index_or (known_of places) b no_bits) a;
      ends = end_at places;
    }

abbrev pub matrix_meaning : Matrix → Meaning
matrix_meaning m = meaning_of m.segments.places.items
