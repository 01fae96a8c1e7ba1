-- Reading a line piece by piece; the leftmost wrong byte decides.
-- Assumes nothing.
use Rattle.std.specs.Prelude.{ℕ, ◌+◌, cond, List, [], ◌∷◌, drop, Ok, Err, Result, ◌==◌}
use Rattle.std.specs.Option.{ok_or}
use Rattle.text.specs.declared.fault.LineFault.{LineFault}
use Rattle.text.specs.declared.fault.TextCause.{TextCause}
use Rattle.text.specs.declared.fault.TextCause.TheVariants.{Byte, Digit}
use Rattle.text.specs.declared.number.Numeral.{Numeral}
use Rattle.text.specs.Numbers.{numeral, misplaced}

-- A piece of a line: one certain byte, or a number.
pub data Piece : Type 0 where
  byte : ℕ → Piece
  number : Piece

abbrev pub wrong : ℕ → TextCause → LineFault
wrong column cause = record { column = column; cause = cause }

-- What comes of a value, unless there was a fault.
abbrev pub and_then : {A B E : Type 0} → Result A E → (A → Result B E) → Result B E
and_then (Ok x) f = f x
and_then (Err e) f = Err e

-- What follows a certain byte, which has to stand in this column.
abbrev pub past : ℕ → ℕ → List ℕ → Result (List ℕ) LineFault
past b column [] = Err (wrong column Byte)
past b column (x ∷ xs) = cond (x == b) (Ok xs) (Err (wrong column Byte))

-- Nothing follows any more.
abbrev pub ended : ℕ → List ℕ → Result (List ℕ) LineFault
ended column [] = Ok []
ended column (x ∷ xs) = Err (wrong column Byte)

-- The number that begins in this column.
abbrev pub numbered : ℕ → List ℕ → Result Numeral LineFault
numbered column bs = ok_or (numeral bs) (wrong (column + misplaced bs) Digit)

-- The numbers among the pieces, read from the bytes that begin in this column.
unfoldable pub scan : List Piece → ℕ → List ℕ → Result (List ℕ) LineFault
scan [] column bs = ended column bs
scan (byte b ∷ ps) column bs = and_then (past b column bs) (λ rest. scan ps (column + 1) rest)
scan (number ∷ ps) column bs =
    and_then (numbered column bs) (λ n. and_then (scan ps (column + n.digits) (drop n.digits bs)) (λ ns. Ok (n.value ∷ ns)))
