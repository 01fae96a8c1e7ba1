-- One step of the walk, on a stack.
-- Assumes nothing.
use Rattle.std.proofs.Common.{◌≡◌, ℕ, ◌+◌, ◌<◌, ◌≤◌, Bool, true, false, ltb, List, [], ◌∷◌, ◌++◌, map, length, Some, None, sym, ap, ◌∙◌, subst, arith}
use Rattle.std.proofs.lemmas.List.{length-map, length_push}
use Rattle.std.proofs.lemmas.Bool.{lt-ltb}
use Rattle.rows.specs.declared.edge.Edge.{Edge}
use Rattle.recording.specs.Enumeration.{row_at, IsChainAt, left}
use Rattle.recording.specs.Walks.{may_follow, first_from, left_from}
use Rattle.recording.proofs.Firsts.{first_found, first_none}
use Rattle.recording.proofs.Reporting.{chain_length}
use Rattle.recording.proofs.Walking.{follows_chain, last_edge, walk_on, walk_back, walk_ends}
use Rattle.search.specs.declared.level.Level.{Level}
use Rattle.search.specs.declared.stack.Stack.{Stack}
use Rattle.search.specs.Stacks.{stacked, places, edges, Walks}
use Rattle.search.proofs.Stacking.{places_pop, edge_range}

pub is_more : {X : Type 0} (x : X) (xs : List X) → ltb 0 (length (x ∷ xs)) ≡ true
is_more x xs = lt-ltb 0 (length (x ∷ xs)) (omega arith)

module _ (rows : List Edge) (precedes : ℕ → ℕ → Bool) (s : Stack) (w : Walks rows precedes s) where
  pub places_none : stacked s ≡ [] → places s ≡ []
  places_none none = ap (map (λ l. l.place)) none

module _ (rows : List Edge) (precedes : ℕ → ℕ → Bool) (s : Stack) (w : Walks rows precedes s) (from : ℕ) where
  abbrev here : List ℕ
  here = places s

  abbrev next : List (List ℕ)
  next = left_from rows precedes (here ++ from ∷ [])

  deep : length here ≡ length (stacked s)
  deep = length-map _ _

  same : (f : Edge) → may_follow precedes (edges s) f ≡ may_follow precedes (map (row_at rows) here) f
  same f = ap (λ es. may_follow precedes es f) w.rows_at

  -- The step to a place whose edge may follow.
  pub record Step (x : ℕ) : Type 0 where
    pub within : x < length rows
    pub room : length (stacked s) < 64
    pub thread : (row_at rows x).thread ≤ 63
    pub chain : IsChainAt rows precedes (here ++ x ∷ [])
    pub is : next ≡ (here ++ x ∷ []) ∷ left rows precedes (here ++ x ∷ [])

  pub steps_on : (x : ℕ) → first_from (may_follow precedes (edges s)) rows from ≡ Some x → Step x
  steps_on x e =
      let found = first_found (may_follow precedes (edges s)) rows from x e in
      let may = sym (same (row_at rows x)) ∙ found.passes in
      let chain = follows_chain rows precedes here x w.chain found.within may in
      record {
        within = found.within;
        room = omega (arith, chain_length rows precedes (here ++ x ∷ []) chain, length_push here x, deep);
        thread = (edge_range (row_at rows x) (last_edge rows precedes here x chain).1).0;
        chain = chain;
        is = walk_on rows precedes here from x w.chain found.since found.within may
            (λ y l h. sym (same (row_at rows y)) ∙ found.fails y l h);
      }

  -- Where nothing may follow.
  none_from : first_from (may_follow precedes (edges s)) rows from ≡ None → (x : ℕ) → from ≤ x → x < length rows
      → may_follow precedes (map (row_at rows) here) (row_at rows x) ≡ false
  none_from e x l h = sym (same (row_at rows x)) ∙ first_none (may_follow precedes (edges s)) rows from e x l h

  pub steps_end : stacked s ≡ [] → first_from (may_follow precedes (edges s)) rows from ≡ None → next ≡ []
  steps_end none e =
      let empty = places_none rows precedes s w none in
      ap (λ ps. left_from rows precedes (ps ++ from ∷ [])) empty
      ∙ walk_ends rows precedes from
      (subst (λ ps. (x : ℕ) → from ≤ x → x < length rows → may_follow precedes (map (row_at rows) ps) (row_at rows x) ≡ false)
      empty (none_from e))

  pub steps_back : (s' : Stack) (l : Level) → stacked s ≡ stacked s' ++ l ∷ []
      → first_from (may_follow precedes (edges s)) rows from ≡ None
      → next ≡ left_from rows precedes (places s' ++ (l.place + 1) ∷ [])
  steps_back s' l is e =
      let split = places_pop s (stacked s') l is in
      ap (λ ps. left_from rows precedes (ps ++ from ∷ [])) split
      ∙ walk_back rows precedes (places s') l.place from
      (subst (λ ps. (x : ℕ) → from ≤ x → x < length rows → may_follow precedes (map (row_at rows) ps) (row_at rows x) ≡ false)
      split (none_from e))
