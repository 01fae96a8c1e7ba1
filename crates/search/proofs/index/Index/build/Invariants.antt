use Rattle.std.proofs.Common.{◌≡◌, ℕ}
use Rattle.search.specs.Indexes.{mark, held_in}
use Rattle.search.proofs.index.Index.build.Given as goal

-- The rows up to i are marked.
abbrev pub invariant-loop-i : goal.invariant-loop-i
invariant-loop-i l =
    (l.index.size ≡ l.size) × ((lock b : ℕ) → mark l.index lock b ≡ held_in l.rows l.size lock b l.i)
