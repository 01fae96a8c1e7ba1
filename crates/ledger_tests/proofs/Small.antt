-- The first of tidy locks is at most 63.
-- Assumes nothing.
use Rattle.std.proofs.Common.{◌≡◌, ℕ, true, leb, List, [], ◌∷◌, Some, arith}
use Rattle.std.specs.List.{slice_get}
use Rattle.std.proofs.lemmas.Bool.{and_parts}
use Rattle.ledger.specs.Rows.{tidy}

pub first_small : (ls : List ℕ) (o : ℕ) → tidy ls ≡ true → slice_get ls 0 ≡ Some o → leb o 63 ≡ true
first_small [] o t e = let z : ◌≡◌ {A = ℕ} 0 1 = cc in absurd (omega arith)
first_small (l ∷ ls) o t e =
    let same : l ≡ o = cc in
    let small : leb l 63 ≡ true = (and_parts _ _ t).0 in
    rw same at small
