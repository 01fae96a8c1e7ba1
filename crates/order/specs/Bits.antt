-- The numbers in a set of bits.
-- Assumes nothing.
use Rattle.std.specs.Prelude.{ℕ, ◌/◌, ◌%◌, ◌^◌, Bool, [], ◌==◌, slice_index}
use Rattle.order.specs.declared.bits.Bits.{Bits}

-- Whether bit k of the word is set.
abbrev pub bit : ℕ → ℕ → Bool
bit w k = w / 2 ^ k % 2 == 1

abbrev pub has : Bits → ℕ → Bool
has s k = bit (slice_index s.words (k / 64)) (k % 64)

abbrev pub no_bits : Bits
no_bits = record { words = [] }
