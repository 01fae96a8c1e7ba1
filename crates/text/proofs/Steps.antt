-- The steps of a scan.
-- Assumes nothing.
use Rattle.std.proofs.Common.{◌≡◌, ℕ, ◌+◌, List, ◌∷◌, drop, Some, None, Ok, Err}
use Rattle.text.specs.declared.fault.LineFault.{LineFault}
use Rattle.text.specs.declared.fault.TextCause.TheVariants.{Digit}
use Rattle.text.specs.declared.number.Numeral.{Numeral}
use Rattle.text.specs.Numbers.{numeral, misplaced}
use Rattle.text.specs.Pieces.{Piece, byte, number, wrong, and_then, past, scan}

module _ (b column : ℕ) (bs : List ℕ) (ps : List Piece) where
  pub scan_byte : (rest : List ℕ) → past b column bs ≡ Ok rest → scan (byte b ∷ ps) column bs ≡ scan ps (column + 1) rest
  unfolding scan
  scan_byte rest e = rw e

  pub scan_byte_fault : (f : LineFault) → past b column bs ≡ Err f → scan (byte b ∷ ps) column bs ≡ Err f
  unfolding scan
  scan_byte_fault f e = rw e

module _ (column : ℕ) (bs : List ℕ) (ps : List Piece) where
  pub scan_number : (n : Numeral) → numeral bs ≡ Some n →
      scan (number ∷ ps) column bs ≡ and_then (scan ps (column + n.digits) (drop n.digits bs)) (λ ns. Ok (n.value ∷ ns))
  unfolding scan
  scan_number n e = rw e

  pub scan_number_fault : numeral bs ≡ None → scan (number ∷ ps) column bs ≡ Err (wrong (column + misplaced bs) Digit)
  unfolding scan
  scan_number_fault e = rw e
