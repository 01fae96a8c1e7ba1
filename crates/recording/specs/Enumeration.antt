-- The chains over rows, one after another. A chain is written as the list of its edges' places among the rows.
-- Assumes nothing.
use Rattle.std.specs.Prelude.{◌≡◌, ℕ, zero, suc, ◌<◌, ◌≤◌, Bool, true, false, cond, not, ◌&&◌, List, [], ◌∷◌, ◌++◌, map, length, filter, ◌==◌, bit_and, nat_lt, slice_index_or}
use Rattle.std.specs.declared.cmp.Ordering.{Ordering}
use mathlib.Core.List.{Memᴰ}
use Rattle.std.specs.Cmp.Lexicographic.{slice_cmp}
use Rattle.std.specs.Ordering.{is_lt, nat_cmp}
use Rattle.std.specs.List.{AllByRecursion}
use Rattle.sorted_list.specs.Laws.{Ascending, Once}
use Rattle.rows.specs.Circles.{every}
use Rattle.rows.specs.Edges.{is_edge, blank_edge}
use Rattle.rows.specs.declared.edge.Edge.{Edge}
use Rattle.recording.specs.Chains.{IsChain}

-- ---- what a chain over rows is, where `precedes` answers whether one segment precedes another

-- Neither segment precedes the other.
abbrev pub Unordered : (ℕ → ℕ → Bool) → ℕ → ℕ → Type 0
Unordered precedes x y = (precedes x y ≡ false) × (precedes y x ≡ false)

-- The row at a place.
abbrev pub row_at : List Edge → ℕ → Edge
row_at rows p = slice_index_or rows p blank_edge

-- At the place stands a row that is an edge.
abbrev pub EdgeAt : List Edge → ℕ → Type 0
EdgeAt rows p = (p < length rows) × (is_edge (row_at rows p) ≡ true)

-- The places make a chain: there are one or more, edges stand at them, and these edges are a chain.
abbrev pub IsChainAt : List Edge → (ℕ → ℕ → Bool) → List ℕ → Type 0
IsChainAt rows precedes [] = ⊥
IsChainAt rows precedes (p ∷ ps) =
    AllByRecursion (EdgeAt rows) (p ∷ ps) × IsChain (Unordered precedes) (row_at rows p) (map (row_at rows) ps)

-- ---- the same, computed

-- The edges may stand in one chain.
abbrev pub apart : (ℕ → ℕ → Bool) → Edge → Edge → Bool
apart precedes e f =
    not (e.thread == f.thread) && (bit_and e.guards f.guards == 0
    && (not (precedes e.segment f.segment) && not (precedes f.segment e.segment)))

-- The row may go on a chain of the edges `path`, with `least` as first thread and `wanted` as last wanted lock.
abbrev pub fits : (ℕ → ℕ → Bool) → ℕ → ℕ → List Edge → Edge → Bool
fits precedes least wanted path f =
    is_edge f && (wanted == f.held && (every (λ e. apart precedes e f) path && nat_lt least f.thread))

-- For each row that passes the test, in the order of the rows: what `on` gives to that row, each list behind the row's place.
-- The first row is at place p.
abbrev pub branches : (Edge → Bool) → (Edge → List (List ℕ)) → ℕ → List Edge → List (List ℕ)
branches test on p [] = []
branches test on p (e ∷ es) = cond (test e) (map (λ qs. p ∷ qs) (on e)) [] ++ branches test on (suc p) es

-- The ways to go on with a chain, by n edges at most: to end it here, and then to go on with each row that fits.
abbrev pub goes_on : ℕ → List Edge → (ℕ → ℕ → Bool) → ℕ → ℕ → List Edge → List (List ℕ)
goes_on zero rows precedes least wanted path = [] ∷ []
goes_on (suc n) rows precedes least wanted path =
    [] ∷ branches (fits precedes least wanted path) (λ f. goes_on n rows precedes least f.wanted (f ∷ path)) 0 rows

-- The chains of at most n edges after the first.
abbrev pub chains_within : ℕ → List Edge → (ℕ → ℕ → Bool) → List (List ℕ)
chains_within n rows precedes =
    branches is_edge (λ e. goes_on n rows precedes e.thread e.wanted (e ∷ [])) 0 rows

-- All the chains. None has more edges than there are rows.
abbrev pub chains : List Edge → (ℕ → ℕ → Bool) → List (List ℕ)
chains rows precedes = chains_within (length rows) rows precedes

-- ---- the law

-- By the first place at which they differ; a chain comes before those that it begins.
abbrev pub rank_places : List ℕ → List ℕ → Ordering
rank_places = slice_cmp nat_cmp

-- The chains that come after a list of places.
abbrev pub left : List Edge → (ℕ → ℕ → Bool) → List ℕ → List (List ℕ)
left rows precedes ps = filter (λ qs. is_lt (rank_places ps qs)) (chains rows precedes)

-- The enumeration has every chain once and nothing else, in the order of the edges' places, a chain before its longer ones;
-- and chains of more edges than there are rows would not add to it.
pub record Enumerates (rows : List Edge) (precedes : ℕ → ℕ → Bool) : Type 0 where
  pub all : (ps : List ℕ) → IsChainAt rows precedes ps → Memᴰ ps (chains rows precedes)
  pub only : (ps : List ℕ) → Memᴰ ps (chains rows precedes) → IsChainAt rows precedes ps
  pub once : Once (chains rows precedes)
  pub ascends : Ascending rank_places (chains rows precedes)
  pub deep : (n : ℕ) → length rows ≤ n → chains_within n rows precedes ≡ chains rows precedes

abbrev pub ChainsAreEnumerated : Type 0
ChainsAreEnumerated = (rows : List Edge) (precedes : ℕ → ℕ → Bool) → Enumerates rows precedes
