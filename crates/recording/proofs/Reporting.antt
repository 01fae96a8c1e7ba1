-- The circles of a report are those of closed chains.
-- Assumes nothing.
use Rattle.std.proofs.Common.{◌≡◌, ℕ, zero, suc, ◌<◌, ◌≤◌, Bool, true, false, cond, eqb, ltb, leb, List, [], ◌∷◌, ◌++◌, map, length, take, drop, replicate, sym, refl, ap, ◌∙◌, subst, arith}
use mathlib.Core.List.Memᴰ
use mathlib.Core.List.{Memᴰ}
use Rattle.std.specs.List.{AllByRecursion}
use Rattle.std.proofs.ByRecursion.{All-take, All-map}
use Rattle.std.proofs.lemmas.List.{length-map, take-take, take_all, take-append-le}
use Rattle.std.proofs.lemmas.Bool.{and_parts, eqb-true, leb-true, false≢true}
use Rattle.sorted_list.specs.Laws.{Ascending}
use Rattle.sorted_list.proofs.Members.{once_from_ascending}
use Rattle.rows.specs.Circles.{Linked, Apart as ThreadsApart, IsCircle, IsCircleRow, steps_of, zero_step, blank_row}
use Rattle.rows.specs.Edges.{is_edge, in_range}
use Rattle.rows.specs.Orders.{rank_row}
use Rattle.rows.specs.declared.edge.Edge.{Edge}
use Rattle.rows.specs.declared.row.CircleRow.{CircleRow}
use Rattle.rows.specs.declared.step.Step.{Step}
use Rattle.rows.specs.OrderLaws.{row_order, row_same}
use Rattle.recording.specs.Chains.{step, Apart, Pairwise, wanted_at_last, IsChain}
use Rattle.recording.specs.Enumeration.{Unordered, row_at, EdgeAt, IsChainAt, chains}
use Rattle.recording.specs.Answers.{steps_at, closed, circle_row, circles_given, circles, GivenBy, Reports, ReportsAreLawful}
use Rattle.recording.proofs.Distinct.{few}
use Rattle.recording.proofs.Enumerating.{enumerates}
use Rattle.recording.proofs.Entering.{refuses_none, holds_all}
use Rattle.recording.proofs.Sorting.{sorted_ascends, sorted_only, sorted_all}

-- ---- what is given

given_in : (rows : List Edge) (pss : List (List ℕ)) (ps : List ℕ) → Memᴰ ps pss → closed (steps_at rows ps) ≡ true
    → Memᴰ (circle_row (steps_at rows ps)) (circles_given rows pss)
given_in rows [] ps m c = absurd (Memᴰ.not-nil m)
given_in rows (qs ∷ pss) ps (Memᴰ.head e) c = here (closed (steps_at rows qs)) (ap (λ x. closed (steps_at rows x)) (sym e) ∙ c)
  where
    here : (b : Bool) → b ≡ true
        → Memᴰ (circle_row (steps_at rows ps))
        (cond b (circle_row (steps_at rows qs) ∷ circles_given rows pss) (circles_given rows pss))
    here true t = Memᴰ.head (ap (λ x. circle_row (steps_at rows x)) e)
    here false t = absurd (false≢true t)
given_in rows (qs ∷ pss) ps (Memᴰ.tail m) c = there (closed (steps_at rows qs)) (given_in rows pss ps m c)
  where
    there : (b : Bool) → Memᴰ (circle_row (steps_at rows ps)) (circles_given rows pss)
        → Memᴰ (circle_row (steps_at rows ps))
        (cond b (circle_row (steps_at rows qs) ∷ circles_given rows pss) (circles_given rows pss))
    there true n = Memᴰ.tail n
    there false n = n

abbrev Given : List Edge → List (List ℕ) → CircleRow → Type 0
Given rows pss r = (ps : List ℕ) × Memᴰ ps pss × (closed (steps_at rows ps) ≡ true) × (r ≡ circle_row (steps_at rows ps))

given_out : (rows : List Edge) (pss : List (List ℕ)) (r : CircleRow) → Memᴰ r (circles_given rows pss) → Given rows pss r
given_out rows [] r m = absurd (Memᴰ.not-nil m)
given_out rows (qs ∷ pss) r m = go (closed (steps_at rows qs)) refl m (given_out rows pss r)
  where
    later : Given rows pss r → Given rows (qs ∷ pss) r
    later g = (g.0, Memᴰ.tail g.1, g.2, g.3)

    go : (b : Bool) → closed (steps_at rows qs) ≡ b
        → Memᴰ r (cond b (circle_row (steps_at rows qs) ∷ circles_given rows pss) (circles_given rows pss))
        → (Memᴰ r (circles_given rows pss) → Given rows pss r) → Given rows (qs ∷ pss) r
    go true t (Memᴰ.head e) below = (qs, Memᴰ.head refl, t, e)
    go true t (Memᴰ.tail n) below = later (below n)
    go false t n below = later (below n)

-- ---- a closed chain gives a circle

threads_apart : (parallel : ℕ → ℕ → Type 0) (es : List Edge) → Pairwise (Apart parallel) es → ThreadsApart (map step es)
threads_apart parallel [] h = tt
threads_apart parallel (e ∷ es) h = (others es h.0, threads_apart parallel es h.1)
  where
    others : (fs : List Edge) → AllByRecursion (Apart parallel e) fs → AllByRecursion (λ z. e.thread ≡ z.thread → ⊥) (map step fs)
    others [] k = tt
    others (f ∷ fs) k = (k.0.0, others fs k.1)

pub closes_circle : (parallel : ℕ → ℕ → Type 0) (e : Edge) (es : List Edge) → IsChain parallel e es
    → closed (map step (e ∷ es)) ≡ true
    → IsCircle (map step (e ∷ es)) × (2 ≤ length (map step (e ∷ es))) × (wanted_at_last e.wanted (map step es) ≡ e.held)
closes_circle parallel e [] c k = absurd (false≢true k)
closes_circle parallel e (f ∷ es) c k =
    let last = wanted_at_last f.wanted (map step es) in
    let back : last ≡ e.held = eqb-true last e.held (and_parts (ltb 0 (length (map step (f ∷ es)))) (eqb last e.held) k).1 in (
      (
        subst (Linked e.wanted (map step (f ∷ es))) back c.linked,
        threads_apart parallel (e ∷ f ∷ es) c.apart,
        All-map (λ z. e.thread < z.thread) step (f ∷ es) c.smallest,
      ),
      omega arith,
      back,
    )

-- ---- rows of circles

zeros : (n : ℕ) → AllByRecursion (λ z. z ≡ zero_step) (replicate n zero_step)
zeros zero = tt
zeros (suc n) = (refl, zeros n)

behind : (P : Step → Type 0) (n : ℕ) (c zs : List Step) → AllByRecursion P zs → AllByRecursion P (drop (length c) (take n (c ++ zs)))
behind P n [] zs h = All-take P n zs h
behind P zero (s ∷ c) zs h = tt
behind P (suc n) (s ∷ c) zs h = behind P n c zs h

pub row_steps : (c : List Step) → length c ≤ 64 → steps_of (circle_row c) ≡ c
row_steps c h =
    take-take (length c) 64 (c ++ replicate 64 zero_step) h
    ∙ take-append-le (length c) c (replicate 64 zero_step) (omega arith)
    ∙ take_all (length c) c (omega arith)

row_is_circle : (c : List Step) → length c ≤ 64 → IsCircle c → IsCircleRow (circle_row c)
row_is_circle c h k = record {
  count = h;
  circle = subst IsCircle (sym (row_steps c h)) k;
  rest = behind (λ z. z ≡ zero_step) 64 c (replicate 64 zero_step) (zeros 64);
}

-- ---- a chain has at most 64 edges

edge_thread : (e : Edge) → is_edge e ≡ true → e.thread < 64
edge_thread e h =
    let r = (and_parts (in_range e) _ h).0 in
    omega (arith, leb-true e.thread 63 (and_parts (leb e.thread 63) _ r).0)

module _ (rows : List Edge) (precedes : ℕ → ℕ → Bool) where
  abbrev threads : List ℕ → List ℕ
  threads = map (λ p. (row_at rows p).thread)

  threads_small : (ps : List ℕ) → AllByRecursion (EdgeAt rows) ps → AllByRecursion (λ t. t < 64) (threads ps)
  threads_small [] h = tt
  threads_small (p ∷ ps) h = (edge_thread (row_at rows p) h.0.1, threads_small ps h.1)

  threads_differ : (ps : List ℕ) → Pairwise (Apart (Unordered precedes)) (map (row_at rows) ps)
      → Pairwise (λ t u. t ≡ u → ⊥) (threads ps)
  threads_differ [] h = tt
  threads_differ (p ∷ ps) h = (others ps h.0, threads_differ ps h.1)
    where
      others : (qs : List ℕ) → AllByRecursion (Apart (Unordered precedes) (row_at rows p)) (map (row_at rows) qs)
          → AllByRecursion (λ u. (row_at rows p).thread ≡ u → ⊥) (threads qs)
      others [] k = tt
      others (q ∷ qs) k = (k.0.0, others qs k.1)

  chain_short : (ps : List ℕ) → AllByRecursion (EdgeAt rows) ps → Pairwise (Apart (Unordered precedes)) (map (row_at rows) ps)
      → length (steps_at rows ps) ≤ 64
  chain_short ps valid apart =
      omega (
        arith,
        few 64 (threads ps) (threads_small ps valid) (threads_differ ps apart),
        length-map ps (λ p. (row_at rows p).thread),
        length-map ps (row_at rows),
        length-map (map (row_at rows) ps) step,
      )

  pub chain_length : (ps : List ℕ) → IsChainAt rows precedes ps → length ps ≤ 64
  chain_length [] c = absurd c
  chain_length (p ∷ ps) c =
      omega (arith, chain_short (p ∷ ps) c.0 c.1.apart, length-map ps (row_at rows), length-map (map (row_at rows) ps) step)

  given : (ps : List ℕ) → IsChainAt rows precedes ps → closed (steps_at rows ps) ≡ true
      → IsCircleRow (circle_row (steps_at rows ps)) × (2 ≤ length (steps_at rows ps))
  given [] c k = absurd c
  given (p ∷ ps) c k =
      let w = closes_circle (Unordered precedes) (row_at rows p) (map (row_at rows) ps) c.1 k in
      (row_is_circle (steps_at rows (p ∷ ps)) (chain_short (p ∷ ps) c.0 c.1.apart) w.0, w.1)

  given_by : (r : CircleRow) → Memᴰ r (circles rows precedes) → GivenBy rows precedes r
  given_by r m =
      let (ps, n, k, e) = given_out rows (chains rows precedes) r
      (sorted_only rank_row row_order blank_row (circles_given rows (chains rows precedes)) r m) in
      record { places = ps; chain = (enumerates rows precedes).only ps n; closes = k; gives = e }

  by_given : (r : CircleRow) → GivenBy rows precedes r → Memᴰ r (circles rows precedes)
  by_given r g =
      sorted_all rank_row row_order blank_row (circles_given rows (chains rows precedes)) row_same r
      (Memᴰ.cast g.gives (given_in rows (chains rows precedes) g.places
      ((enumerates rows precedes).all g.places g.chain) g.closes))

  ascend : Ascending rank_row (circles rows precedes)
  ascend = sorted_ascends rank_row row_order blank_row (circles_given rows (chains rows precedes))

  pub reports : Reports rows precedes
  reports = record {
    members = λ r. (given_by r, by_given r);
    each = λ r m.
        let g = given_by r m in
        let w = given g.places g.chain g.closes in
        (subst IsCircleRow (sym g.gives) w.0, subst (λ x. 2 ≤ x.count) (sym g.gives) w.1);
    ascends = ascend;
    once = once_from_ascending row_order (circles rows precedes) ascend;
    refuses = refuses_none rank_row row_order row_same blank_row (circles_given rows (chains rows precedes));
    holds = holds_all rank_row row_order row_same blank_row (circles_given rows (chains rows precedes));
  }

pub reports_are_lawful : ReportsAreLawful
reports_are_lawful = reports
