-- The enumeration has every chain once and nothing else.
-- Assumes nothing.
use Rattle.std.proofs.Common.{◌≡◌, ℕ, zero, suc, ◌+◌, ◌<◌, ◌≤◌, Bool, true, false, not, List, [], ◌∷◌, map, length, Decides, Less, sym, refl, ap, ◌∙◌, subst, arith}
use mathlib.Core.List.Memᴰ
use mathlib.Core.List.{Memᴰ}
use lib.Bits.{bit_and}
use Rattle.std.specs.Cmp.{nat_cmp_total}
use Rattle.std.specs.List.{AllByRecursion}
use Rattle.std.proofs.ByRecursion.{All-weaker, Decides-by_and}
use Rattle.std.proofs.lemmas.Bool.{not-true, not_from_false}
use Rattle.std.proofs.lemmas.Bool.Decides.{Decides-eqb, Decides-ltb, Decides-not, Decides-and, Decides-like}
use Rattle.sorted_list.specs.Laws.{Ascending}
use Rattle.sorted_list.specs.Orders.{TotalOrder}
use Rattle.sorted_list.proofs.Orders.{lawful}
use Rattle.sorted_list.proofs.Members.{once_from_ascending, unique}
use Rattle.rows.specs.Circles.{Linked, every}
use Rattle.rows.specs.Edges.{is_edge}
use Rattle.rows.specs.declared.edge.Edge.{Edge}
use Rattle.recording.specs.Chains.{step, Apart, Pairwise, wanted_at_last}
use Rattle.recording.specs.Enumeration.{
  Unordered,
  row_at,
  EdgeAt,
  IsChainAt,
  apart,
  fits,
  goes_on,
  chains_within,
  chains,
  rank_places,
  Enumerates,
  ChainsAreEnumerated,
}
use Rattle.recording.proofs.Members.{all_from, all_both}
use Rattle.recording.proofs.Branches.{branches_ascend, branch_in, branch_out}
use Rattle.recording.proofs.Distinct.{few}
use Rattle.std.specs.Cmp.Lexicographic.{lists_total}

pub places_order : TotalOrder rank_places
places_order = lawful (lists_total nat_cmp_total)

answer_no : (b : Bool) → Decides (not b) (b ≡ false)
answer_no b = (not-true b, not_from_false b)

module _ (rows : List Edge) (precedes : ℕ → ℕ → Bool) where
  -- ---- a row that fits

  apart_decides : (e f : Edge) → Decides (apart precedes e f) (Apart (Unordered precedes) e f)
  apart_decides e f =
      Decides-like _ (λ p. (p.0, p.1.0, p.1.1)) (λ p. (p.0, (p.1, p.2)))
      (Decides-and _ _ (Decides-not _ (Decides-eqb e.thread f.thread))
      (Decides-and _ _ (Decides-eqb (bit_and e.guards f.guards) 0)
      (Decides-and _ _ (answer_no (precedes e.segment f.segment)) (answer_no (precedes f.segment e.segment)))))

  abbrev pub Fits : ℕ → ℕ → List Edge → Edge → Type 0
  Fits least wanted path f =
      (is_edge f ≡ true) × ((wanted ≡ f.held) × (AllByRecursion (λ e. Apart (Unordered precedes) e f) path × (least < f.thread)))

  pub fits_decides : (least wanted : ℕ) (path : List Edge) (f : Edge)
      → Decides (fits precedes least wanted path f) (Fits least wanted path f)
  fits_decides least wanted path f =
      Decides-and _ _ (λ e. e, λ e. e)
      (Decides-and _ _ (Decides-eqb wanted f.held)
      (Decides-and _ _
      (Decides-by_and (λ e. apart precedes e f) (λ e. Apart (Unordered precedes) e f) (every (λ e. apart precedes e f))
      (λ e. apart_decides e f) refl (λ _ _. refl) path)
      (Decides-ltb least f.thread)))

  -- ---- how a chain goes on, edge by edge

  abbrev pub GoesOn : ℕ → ℕ → List Edge → List ℕ → Type 0
  GoesOn least wanted path [] = Unit {0}
  GoesOn least wanted path (q ∷ qs) =
      (q < length rows) × Fits least wanted path (row_at rows q) × GoesOn least (row_at rows q).wanted (row_at rows q ∷ path) qs

  on_in : (n least wanted : ℕ) (path : List Edge) (qs : List ℕ) → GoesOn least wanted path qs → length qs ≤ n
      → Memᴰ qs (goes_on n rows precedes least wanted path)
  on_in zero least wanted path [] g h = Memᴰ.head refl
  on_in zero least wanted path (q ∷ qs) g h = absurd (omega arith)
  on_in (suc n) least wanted path [] g h = Memᴰ.head refl
  on_in (suc n) least wanted path (q ∷ qs) g h =
      let here : q ≡ 0 + q = omega arith in
      Memᴰ.tail (Memᴰ.cast (ap (λ x. x ∷ qs) here)
      (branch_in (fits precedes least wanted path) (λ f. goes_on n rows precedes least f.wanted (f ∷ path)) 0 rows q qs
      g.0 ((fits_decides least wanted path (row_at rows q)).1 g.1)
      (on_in n least (row_at rows q).wanted (row_at rows q ∷ path) qs g.2 (omega arith))))

  on_out : (n least wanted : ℕ) (path : List Edge) (qs : List ℕ) → Memᴰ qs (goes_on n rows precedes least wanted path)
      → GoesOn least wanted path qs
  on_out zero least wanted path qs (Memᴰ.head e) = subst (GoesOn least wanted path) (sym e) tt
  on_out zero least wanted path qs (Memᴰ.tail m) = absurd (Memᴰ.not-nil m)
  on_out (suc n) least wanted path qs (Memᴰ.head e) = subst (GoesOn least wanted path) (sym e) tt
  on_out (suc n) least wanted path qs (Memᴰ.tail m) =
      let on = λ (f : Edge). goes_on n rows precedes least f.wanted (f ∷ path) in
      let b = branch_out (fits precedes least wanted path) on 0 rows qs m in
      let f = row_at rows b.place in
      let here : b.place ≡ 0 + b.place = omega arith in
      subst (GoesOn least wanted path) (sym (b.is ∙ ap (λ x. x ∷ b.rest) (sym here)))
      (b.within, (fits_decides least wanted path f).0 b.passes, on_out n least f.wanted (f ∷ path) b.rest b.goes)

  on_ascends : (n least wanted : ℕ) (path : List Edge) → Ascending rank_places (goes_on n rows precedes least wanted path)
  on_ascends zero least wanted path = (tt, tt)
  on_ascends (suc n) least wanted path =
      let on = λ (f : Edge). goes_on n rows precedes least f.wanted (f ∷ path) in
      let test = fits precedes least wanted path in (
        all_from (λ qs. rank_places [] qs ≡ Less) _ (λ qs m. let b = branch_out test on 0 rows qs m in ap (rank_places []) b.is),
        branches_ascend test on (λ f. on_ascends n least f.wanted (f ∷ path)) 0 rows,
      )

  -- ---- the same of all its edges at once

  abbrev edges : List ℕ → List Edge
  edges = map (row_at rows)

  record On (least wanted : ℕ) (path : List Edge) (qs : List ℕ) : Type 0 where
    valid : AllByRecursion (EdgeAt rows) qs
    linked : Linked wanted (map step (edges qs)) (wanted_at_last wanted (map step (edges qs)))
    earlier : AllByRecursion (λ f. AllByRecursion (λ e. Apart (Unordered precedes) e f) path) (edges qs)
    apart_all : Pairwise (Apart (Unordered precedes)) (edges qs)
    smallest : AllByRecursion (λ f. least < f.thread) (edges qs)

  on_all : (least wanted : ℕ) (path : List Edge) (qs : List ℕ) → GoesOn least wanted path qs → On least wanted path qs
  on_all least wanted path [] g = record { valid = tt; linked = refl; earlier = tt; apart_all = tt; smallest = tt }
  on_all least wanted path (q ∷ qs) (within, (is, (link, (far, less))), g) =
      let f = row_at rows q in
      let o = on_all least f.wanted (f ∷ path) qs g in
      record {
        valid = ((within, is), o.valid);
        linked = (link, o.linked);
        earlier = (far, All-weaker _ (λ x. AllByRecursion (λ e. Apart (Unordered precedes) e x) path) (λ x h. h.1) (edges qs) o.earlier);
        apart_all = (All-weaker _ (Apart (Unordered precedes) f) (λ x h. h.0) (edges qs) o.earlier, o.apart_all);
        smallest = (less, o.smallest);
      }

  all_on : (least wanted : ℕ) (path : List Edge) (qs : List ℕ) → On least wanted path qs → GoesOn least wanted path qs
  all_on least wanted path [] o = tt
  all_on least wanted path (q ∷ qs) o =
      let f = row_at rows q in (
        o.valid.0.0,
        (o.valid.0.1, (o.linked.0, (o.earlier.0, o.smallest.0))),
        all_on least f.wanted (f ∷ path) qs (record {
          valid = o.valid.1;
          linked = o.linked.1;
          earlier = all_both (Apart (Unordered precedes) f) (λ x. AllByRecursion (λ e. Apart (Unordered precedes) e x) path) (edges qs)
              o.apart_all.0 o.earlier.1;
          apart_all = o.apart_all.1;
          smallest = o.smallest.1;
        }),
      )

  -- ---- the chains

  abbrev first_on : ℕ → Edge → List (List ℕ)
  first_on n e = goes_on n rows precedes e.thread e.wanted (e ∷ [])

  -- The first edge of a chain, and how it goes on from there.
  abbrev pub Begins : ℕ → List ℕ → Type 0
  Begins p ps = let e = row_at rows p in EdgeAt rows p × GoesOn e.thread e.wanted (e ∷ []) ps

  pub begun_chain : (p : ℕ) (ps : List ℕ) → Begins p ps → IsChainAt rows precedes (p ∷ ps)
  begun_chain p ps (here, g) =
      let e = row_at rows p in
      let o = on_all e.thread e.wanted (e ∷ []) ps g in (
        (here, o.valid),
        record {
          linked = o.linked;
          apart = (All-weaker _ (Apart (Unordered precedes) e) (λ x h. h.0) (edges ps) o.earlier, o.apart_all);
          smallest = o.smallest;
        },
      )

  pub chain_begins : (p : ℕ) (ps : List ℕ) → IsChainAt rows precedes (p ∷ ps) → Begins p ps
  chain_begins p ps (valid, c) =
      let e = row_at rows p in (
        valid.0,
        all_on e.thread e.wanted (e ∷ []) ps (record {
          valid = valid.1;
          linked = c.linked;
          earlier = All-weaker (Apart (Unordered precedes) e) (λ f. AllByRecursion (λ x. Apart (Unordered precedes) x f) (e ∷ [])) (λ f h. (h, tt))
              (edges ps) c.apart.0;
          apart_all = c.apart.1;
          smallest = c.smallest;
        }),
      )

  chain_out : (n : ℕ) (ps : List ℕ) → Memᴰ ps (chains_within n rows precedes) → IsChainAt rows precedes ps
  chain_out n ps m =
      let b = branch_out is_edge (first_on n) 0 rows ps m in
      let p = b.place in
      let e = row_at rows p in
      let here : p ≡ 0 + p = omega arith in
      subst (IsChainAt rows precedes) (sym (b.is ∙ ap (λ x. x ∷ b.rest) (sym here)))
      (begun_chain p b.rest ((b.within, b.passes), on_out n e.thread e.wanted (e ∷ []) b.rest b.goes))

  -- Edges that are apart stand at different places.
  places_differ : (qs : List ℕ) → Pairwise (Apart (Unordered precedes)) (edges qs) → Pairwise (λ p q. p ≡ q → ⊥) qs
  places_differ [] h = tt
  places_differ (q ∷ qs) h = (others qs h.0, places_differ qs h.1)
    where
      others : (ps : List ℕ) → AllByRecursion (Apart (Unordered precedes) (row_at rows q)) (edges ps) → AllByRecursion (λ p. q ≡ p → ⊥) ps
      others [] k = tt
      others (p ∷ ps) k = (λ e. k.0.0 (ap (λ x. (row_at rows x).thread) e), others ps k.1)

  chain_in : (n : ℕ) → length rows ≤ n → (ps : List ℕ) → IsChainAt rows precedes ps → Memᴰ ps (chains_within n rows precedes)
  chain_in n deep [] c = absurd c
  chain_in n deep (p ∷ ps) (valid, c) =
      let e = row_at rows p in
      let here : p ≡ 0 + p = omega arith in
      let short : length (p ∷ ps) ≤ length rows =
      few (length rows) (p ∷ ps) (All-weaker (EdgeAt rows) (λ q. q < length rows) (λ q h. h.0) (p ∷ ps) valid)
      (places_differ (p ∷ ps) c.apart) in
      Memᴰ.cast (ap (λ x. x ∷ ps) here)
      (branch_in is_edge (first_on n) 0 rows p ps valid.0.0 valid.0.1
      (on_in n e.thread e.wanted (e ∷ []) ps (chain_begins p ps (valid, c)).1 (omega arith)))

  chains_ascend : (n : ℕ) → Ascending rank_places (chains_within n rows precedes)
  chains_ascend n = branches_ascend is_edge (first_on n) (λ e. on_ascends n e.thread e.wanted (e ∷ [])) 0 rows

  pub enumerates : Enumerates rows precedes
  enumerates =
      let m = length rows in
      let whole : m ≤ m = omega arith in
      record {
        all = chain_in m whole;
        only = chain_out m;
        once = once_from_ascending places_order (chains rows precedes) (chains_ascend m);
        ascends = chains_ascend m;
        deep = λ n h.
            unique places_order (chains_within n rows precedes) (chains rows precedes) (chains_ascend n) (chains_ascend m)
            (λ ps k. chain_in m whole ps (chain_out n ps k)) (λ ps k. chain_in n h ps (chain_out m ps k));
      }

pub chains_are_enumerated : ChainsAreEnumerated
chains_are_enumerated = enumerates
