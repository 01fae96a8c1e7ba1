-- How the chains are walked, one after another.
-- Assumes nothing.
use Rattle.std.specs.Prelude.{ℕ, suc, Bool, cond, not, List, [], ◌∷◌, map, drop, Some, None, filter, Option}
use Rattle.std.specs.Ordering.{is_lt}
use Rattle.rows.specs.Edges.{is_edge}
use Rattle.rows.specs.declared.edge.Edge.{Edge}
use Rattle.recording.specs.Chains.{step, wanted_at_last}
use Rattle.recording.specs.Enumeration.{IsChainAt, fits, chains, rank_places}

-- The row may go on the chain of the edges, and where there are none, begin one.
abbrev pub may_follow : (ℕ → ℕ → Bool) → List Edge → Edge → Bool
may_follow precedes [] f = is_edge f
may_follow precedes (e ∷ es) f = fits precedes e.thread (wanted_at_last e.wanted (map step es)) (e ∷ es) f

-- The places are none, or those of a chain.
abbrev pub ChainOrNone : List Edge → (ℕ → ℕ → Bool) → List ℕ → Type 0
ChainOrNone rows precedes [] = Unit {0}
ChainOrNone rows precedes (p ∷ ps) = IsChainAt rows precedes (p ∷ ps)

-- The place of the first of the rows that passes the test. The first row is at place p.
abbrev pub first_in : (Edge → Bool) → ℕ → List Edge → Option ℕ
first_in test p [] = None
first_in test p (e ∷ es) = cond (test e) (Some p) (first_in test (suc p) es)

-- The first place, from a place on, whose row passes the test.
abbrev pub first_from : (Edge → Bool) → List Edge → ℕ → Option ℕ
first_from test rows from = first_in test from (drop from rows)

-- The chains that do not come before a list of places.
abbrev pub left_from : List Edge → (ℕ → ℕ → Bool) → List ℕ → List (List ℕ)
left_from rows precedes ps = filter (λ qs. not (is_lt (rank_places qs ps))) (chains rows precedes)
