-- A stack with one edge more or less.
-- Assumes nothing.
use Rattle.std.proofs.Common.{◌≡◌, ℕ, suc, ◌+◌, ◌-◌, ◌<◌, ◌≤◌, Bool, true, cond, not, ◌&&◌, eqb, ltb, leb, List, [], ◌∷◌, ◌++◌, map, length, get_or, take, Some, None, Option, IsSome, append-nil, sym, refl, ap, ◌∙◌, subst, arith}
use lib.Bits.{bit_and}
use Rattle.std.proofs.lemmas.List.{take_all, take_more, map_push, same_from_push}
use Rattle.std.proofs.lemmas.Option.{slice_get_within, get_or_from_slice_get}
use Rattle.std.specs.List.{slice_get}
use Rattle.std.proofs.lemmas.Bool.{false≢true, cond_both, and_parts, and_from, eqb-true, leb-true, eq-eqb, ne_eqb, cond-true, cond-false}
use Rattle.std.specs.Option.{option_to_list}
use Rattle.rows.specs.Circles.{every}
use Rattle.rows.specs.Edges.{in_set, in_range, is_edge}
use Rattle.rows.specs.declared.edge.Edge.{Edge}
use Rattle.recording.specs.Chains.{step, wanted_at_last}
use Rattle.recording.specs.Enumeration.{row_at, EdgeAt, IsChainAt}
use Rattle.recording.specs.Walks.{may_follow, ChainOrNone}
use Rattle.recording.proofs.Walking.{chain_before, last_edge}
use Rattle.search.specs.declared.level.Level.{Level}
use Rattle.search.specs.declared.stack.Stack.{Stack}
use Rattle.search.specs.Indexes.{holding}
use Rattle.search.specs.Levels.{level_after, Seen, blank_level}
use Rattle.search.specs.Stacks.{stacked, places, edges, first, top, next_level, Walks, unordered}
use Rattle.search.proofs.Seeing.{edges_in, wanted_last, apart_follows}

-- ---- levels behind others

-- The level for one more edge.
abbrev level_on : ℕ → ℕ → List Level → ℕ → Edge → Level
level_on t g [] p e = level_after t g p e
level_on t g (l ∷ ls) p e = level_on l.threads l.guards ls p e

seen_push : (t g : ℕ) (ls : List Level) (p : ℕ) (e : Edge) → Seen t g ls → Seen t g (ls ++ level_on t g ls p e ∷ [])
seen_push t g [] p e s = (refl, (refl, tt))
seen_push t g (l ∷ ls) p e (threads, (guards, more)) = (threads, (guards, seen_push l.threads l.guards ls p e more))

seen_front : (t g : ℕ) (ls : List Level) (n : Level) → Seen t g (ls ++ n ∷ []) → Seen t g ls
seen_front t g [] n s = tt
seen_front t g (l ∷ ls) n (threads, (guards, more)) = (threads, (guards, seen_front l.threads l.guards ls n more))

on_last : (t g : ℕ) (l : Level) (ls : List Level) (p : ℕ) (e : Edge)
    → level_on t g (l ∷ ls) p e ≡ (let z = get_or (l ∷ ls) (length ls) blank_level in level_after z.threads z.guards p e)
on_last t g l [] p e = refl
on_last t g l (m ∷ ms) p e = on_last l.threads l.guards m ms p e

on_top : (ls : List Level) (d : ℕ) (b : Level) (p : ℕ) (e : Edge) → length ls ≡ d → b ≡ get_or ls (d - 1) blank_level
    → level_on 0 0 ls p e ≡ cond (eqb d 0) (level_after 0 0 p e) (level_after b.threads b.guards p e)
on_top [] d b p e long is = sym (cond-true (eqb d 0) _ _ (eq-eqb d 0 (sym long)))
on_top (l ∷ ls) d b p e long is =
    let less : d - 1 ≡ length ls = omega arith in
    on_last 0 0 l ls p e
    ∙ ap (λ z. level_after z.threads z.guards p e) (sym (is ∙ ap (λ n. get_or (l ∷ ls) n blank_level) less))
    ∙ sym (cond-false (eqb d 0) _ _ (ne_eqb d 0 (omega arith)))

-- ---- the stack

-- The last of some levels, behind those before it.
pub last_of : (ls : List Level) → 0 < length ls → ls ≡ take (length ls - 1) ls ++ get_or ls (length ls - 1) blank_level ∷ []
last_of ls h =
    let e : length ls ≡ length ls - 1 + 1 = omega arith in
    sym (take_all (length ls) ls (omega arith)) ∙ ap (λ n. take n ls) e ∙ take_more ls (length ls - 1) blank_level (omega arith)

pub follows : (s : Stack) (precedes : ℕ → ℕ → Bool) (f : Edge) → 0 < length (stacked s) → holding (top s).edge.wanted f ≡ true
    → (ltb (first s).edge.thread f.thread && (not (in_set f.thread (top s).threads) && (eqb (bit_and (top s).guards f.guards) 0
    && every (λ m. unordered precedes m.edge.segment f.segment) (stacked s))))
    ≡ may_follow precedes (edges s) f
follows s precedes f some holds =
    let (same, is) = and_parts (eqb (top s).edge.wanted f.held) (is_edge f) holds in
    go (stacked s) (top s) some refl s.seen is (eqb-true (top s).edge.wanted f.held same)
  where
    go : (ls : List Level) (b : Level) → 0 < length ls → b ≡ get_or ls (length ls - 1) blank_level
        → Seen 0 0 ls → is_edge f ≡ true → b.edge.wanted ≡ f.held
        → (ltb (get_or ls 0 blank_level).edge.thread f.thread && (not (in_set f.thread b.threads) && (eqb (bit_and b.guards f.guards) 0
        && every (λ m. unordered precedes m.edge.segment f.segment) ls)))
        ≡ may_follow precedes (edges_in ls) f
    go [] b h y seen is link = absurd (omega arith)
    go (l ∷ ls) b h y seen is link =
        let less : suc (length ls) - 1 ≡ length ls = omega arith in
        let z : b ≡ get_or (l ∷ ls) (length ls) blank_level = y ∙ ap (λ n. get_or (l ∷ ls) n blank_level) less in
        (λ i. ltb l.edge.thread f.thread && (not (in_set f.thread (z i).threads) && (eqb (bit_and (z i).guards f.guards) 0
        && every (λ m. unordered precedes m.edge.segment f.segment) (l ∷ ls))))
        ∙ apart_follows precedes l ls f seen is (ap (λ m. m.edge.wanted) (sym z) ∙ link)

-- The level is the last one.
pub record IsTop (s : Stack) (l : Level) : Type 0 where
  pub some : 0 < length (stacked s)
  pub is : l ≡ top s

pub top_is : (s : Stack) (ls : List Level) (l : Level) → ls ≡ stacked s → Some l ≡ slice_get ls (length ls - 1) → IsTop s l
top_is s ls l same last =
    let there : slice_get (stacked s) (length (stacked s) - 1) ≡ Some l =
    sym (last ∙ ap (λ ms. slice_get ms (length ms - 1)) same) in
    let inside = slice_get_within (stacked s) (length (stacked s) - 1) l there in
    record {
      some = omega arith;
      is = sym (get_or_from_slice_get (stacked s) (length (stacked s) - 1) l blank_level there);
    }

-- What may follow holds the last wanted lock.
pub follows_holds : (s : Stack) (precedes : ℕ → ℕ → Bool) (t : Level) → IsTop s t → (f : Edge) → may_follow precedes (edges s) f ≡ true
    → holding t.edge.wanted f ≡ true
follows_holds s precedes t is_top f may = go (stacked s) t is_top.some is_top.is may
  where
    go : (ls : List Level) (b : Level) → 0 < length ls → b ≡ get_or ls (length ls - 1) blank_level
        → may_follow precedes (edges_in ls) f ≡ true → holding b.edge.wanted f ≡ true
    go [] b h y m = absurd (omega arith)
    go (l ∷ ls) b h y m =
        let less : suc (length ls) - 1 ≡ length ls = omega arith in
        let z : b ≡ get_or (l ∷ ls) (length ls) blank_level = y ∙ ap (λ n. get_or (l ∷ ls) n blank_level) less in
        let wanted = wanted_at_last l.edge.wanted (map step (edges_in ls)) in
        let (is, rest) = and_parts (is_edge f) _ m in
        let (link, _) = and_parts (eqb wanted f.held) _ rest in
        ap (λ n. holding n f) (ap (λ k. k.edge.wanted) z ∙ wanted_last l ls) ∙ and_from (eqb wanted f.held) (is_edge f) link is

-- ---- one edge more

pub seen_next : (s : Stack) (p : ℕ) (e : Edge) → Seen 0 0 (stacked s ++ next_level s p e ∷ [])
seen_next s p e =
    subst (λ l. Seen 0 0 (stacked s ++ l ∷ [])) (on_top (stacked s) (length (stacked s)) (top s) p e refl refl)
    (seen_push 0 0 (stacked s) p e s.seen)

module _ (s s' : Stack) (p : ℕ) (e : Edge) (put : stacked s' ≡ stacked s ++ next_level s p e ∷ []) where
  next_parts : ((next_level s p e).place ≡ p) × ((next_level s p e).edge ≡ e)
  next_parts =
      cond_both (eqb (length (stacked s)) 0) (level_after 0 0 p e) (level_after (top s).threads (top s).guards p e)
      (λ l. (l.place ≡ p) × (l.edge ≡ e)) (λ _. (refl, refl)) (λ _. (refl, refl))

  pub places_push : places s' ≡ places s ++ p ∷ []
  places_push =
      ap (map (λ l. l.place)) put ∙ map_push (λ l. l.place) (stacked s) (next_level s p e)
      ∙ ap (λ q. places s ++ q ∷ []) next_parts.0

  edges_push : edges s' ≡ edges s ++ e ∷ []
  edges_push =
      ap (map (λ l. l.edge)) put ∙ map_push (λ l. l.edge) (stacked s) (next_level s p e)
      ∙ ap (λ f. edges s ++ f ∷ []) next_parts.1

  pub walks_push : (rows : List Edge) (precedes : ℕ → ℕ → Bool) → Walks rows precedes s → e ≡ row_at rows p
      → IsChainAt rows precedes (places s ++ p ∷ []) → Walks rows precedes s'
  walks_push rows precedes w is chain = record {
    rows_at =
        edges_push ∙ (λ i. w.rows_at i ++ is i ∷ []) ∙ sym (map_push (row_at rows) (places s) p)
        ∙ ap (map (row_at rows)) (sym places_push);
    chain = subst (ChainOrNone rows precedes) (sym places_push) (some (places s) p chain);
  }
    where
      some : (ps : List ℕ) (q : ℕ) → IsChainAt rows precedes (ps ++ q ∷ []) → ChainOrNone rows precedes (ps ++ q ∷ [])
      some [] q c = c
      some (x ∷ ps) q c = c

-- ---- one edge less

module _ (s : Stack) (ls : List Level) (l : Level) (is : stacked s ≡ ls ++ l ∷ []) where
  pub places_pop : places s ≡ map (λ m. m.place) ls ++ l.place ∷ []
  places_pop = ap (map (λ m. m.place)) is ∙ map_push (λ m. m.place) ls l

  edges_pop : edges s ≡ edges_in ls ++ l.edge ∷ []
  edges_pop = ap (map (λ m. m.edge)) is ∙ map_push (λ m. m.edge) ls l

  pub seen_less : Seen 0 0 ls
  seen_less = seen_front 0 0 ls l (subst (Seen 0 0) is s.seen)

  module _ (rows : List Edge) (precedes : ℕ → ℕ → Bool) (w : Walks rows precedes s) where
    abbrev ps : List ℕ
    ps = map (λ m. m.place) ls

    parted : (edges_in ls ≡ map (row_at rows) ps) × (l.edge ≡ row_at rows l.place)
    parted =
        same_from_push (edges_in ls) (map (row_at rows) ps) l.edge (row_at rows l.place)
        (sym edges_pop ∙ w.rows_at ∙ ap (map (row_at rows)) places_pop ∙ map_push (row_at rows) ps l.place)

    chain_pop : IsChainAt rows precedes (ps ++ l.place ∷ [])
    chain_pop = none_less ps (subst (ChainOrNone rows precedes) places_pop w.chain)
      where
        none_less : (qs : List ℕ) → ChainOrNone rows precedes (qs ++ l.place ∷ []) → IsChainAt rows precedes (qs ++ l.place ∷ [])
        none_less [] c = c
        none_less (q ∷ qs) c = c

    pub walks_pop : (s' : Stack) → stacked s' ≡ ls → Walks rows precedes s'
    walks_pop s' same = record {
      rows_at = ap edges_in same ∙ parted.0 ∙ ap (λ ms. map (row_at rows) (map (λ m. m.place) ms)) (sym same);
      chain =
          subst (λ ms. ChainOrNone rows precedes (map (λ m. m.place) ms)) (sym same)
          (chain_before rows precedes ps l.place chain_pop);
    }

    pub edge_top : EdgeAt rows l.place × (l.edge ≡ row_at rows l.place)
    edge_top = (last_edge rows precedes ps l.place chain_pop, parted.1)

pub seen_rest : (s : Stack) (ls : List Level) (o : Option Level) → stacked s ≡ ls ++ option_to_list o → Seen 0 0 ls
seen_rest s ls None is = subst (Seen 0 0) (is ∙ append-nil ls) s.seen
seen_rest s ls (Some l) is = seen_less s ls l is

pub edge_range : (e : Edge) → is_edge e ≡ true → (e.thread ≤ 63) × (e.wanted ≤ 63)
edge_range e h =
    let r = (and_parts (in_range e) _ h).0 in
    let (t, hw) = and_parts (leb e.thread 63) _ r in
    let (_, w) = and_parts (leb e.held 63) _ hw in
    (leb-true e.thread 63 t, leb-true e.wanted 63 w)

pub wanted_small : (s : Stack) (t : Level) → IsTop s t → (rows : List Edge) (precedes : ℕ → ℕ → Bool)
    → Walks rows precedes s → t.edge.wanted ≤ 63
wanted_small s t is_top rows precedes w =
    let ls = stacked s in
    let split : ls ≡ take (length ls - 1) ls ++ t ∷ [] =
    last_of ls is_top.some ∙ ap (λ l. take (length ls - 1) ls ++ l ∷ []) (sym is_top.is) in
    let (at_row, is) = edge_top s (take (length ls - 1) ls) t split rows precedes w in
    (edge_range t.edge (ap is_edge is ∙ at_row.1)).1

-- Where no edge was taken away there was none.
pub none_left : (ls : List Level) → (0 < length ls → IsSome {T = Level} None) → ls ≡ []
none_left [] h = refl
none_left (l ∷ ls) h = absurd (no_some (h (omega arith)))
  where
    no_some : IsSome {T = Level} None → ⊥
    no_some e = false≢true e
