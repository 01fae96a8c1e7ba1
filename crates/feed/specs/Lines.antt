-- The lines of a file. A newline, byte 10, ends a line; the last one may be missing.
-- Assumes nothing.
use Rattle.std.specs.Prelude.{ℕ, cond, List, [], ◌∷◌, ◌==◌}

-- The bytes before the first newline, and those after it.
abbrev pub first_of : List ℕ → List ℕ
first_of [] = []
first_of (b ∷ bs) = cond (b == 10) [] (b ∷ first_of bs)

abbrev pub later_of : List ℕ → List ℕ
later_of [] = []
later_of (b ∷ bs) = cond (b == 10) bs (later_of bs)

-- A byte in front of the first line.
abbrev pub onto : ℕ → List (List ℕ) → List (List ℕ)
onto b [] = (b ∷ []) ∷ []
onto b (l ∷ ls) = (b ∷ l) ∷ ls

abbrev pub lines : List ℕ → List (List ℕ)
lines [] = []
lines (b ∷ bs) = cond (b == 10) ([] ∷ lines bs) (onto b (lines bs))
