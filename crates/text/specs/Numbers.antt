-- A number in a line: one to three digits, and no needless zero in front.
-- Assumes nothing.
use Rattle.std.specs.Prelude.{ℕ, suc, Bool, cond, not, ◌&&◌, ◌||◌, List, [], ◌∷◌, take, Some, None, Option, ◌==◌, nat_le, nat_lt, slice_index}
use Rattle.std.specs.Char.{is_ascii_digit}
use Rattle.std.specs.Str.Parse.{digits_value}
use Rattle.text.specs.declared.number.Numeral.{Numeral}

-- How many digits the bytes begin with.
abbrev pub run : List ℕ → ℕ
run [] = 0
run (b ∷ bs) = cond (is_ascii_digit b) (suc (run bs)) 0

-- A leading zero stands alone.
abbrev pub tidy : List ℕ → Bool
tidy bs = nat_le (run bs) 1 || not (slice_index bs 0 == 48)

-- The bytes begin with a number.
abbrev pub good : List ℕ → Bool
good bs = nat_lt 0 (run bs) && (nat_le (run bs) 3 && tidy bs)

-- The number that the bytes begin with, and how many digits it has.
abbrev pub front : List ℕ → Numeral
front bs = record { value = digits_value 10 (take (run bs) bs); digits = run bs }

abbrev pub numeral : List ℕ → Option Numeral
numeral bs = cond (good bs) (Some (front bs)) None

-- Where bytes that begin with no number go wrong: at the first byte that is no digit, at the byte after a leading zero, or
-- at the fourth digit.
abbrev pub misplaced : List ℕ → ℕ
misplaced bs = cond (run bs == 0) 0 (cond (slice_index bs 0 == 48) 1 3)
