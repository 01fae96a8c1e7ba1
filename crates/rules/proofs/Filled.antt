-- An ascending list of edges to which some are added that differ from each other: how many are new, and what it then holds.
-- Assumes nothing.
use Rattle.std.proofs.Common.{◌≡◌, ℕ, ◌+◌, ◌≤◌, Bool, true, false, cond, not, ◌⊎◌, ◌↔◌, List, [], ◌∷◌, length, replicate, sym, refl, ap, ◌∙◌, subst, inl, inr, ⊎_elim, arith}
use mathlib.Core.List.{Memᴰ}
use Rattle.std.specs.List.{AllByRecursion}
use Rattle.std.proofs.lemmas.List.{length-replicate}
use Rattle.std.proofs.lemmas.Bool.{true≢false, cases_Bool, and_left, and_right, not_from_true, cond-false}
use Rattle.std.proofs.lemmas.Bool.Decides.{same_from_decides, Decides-like}
use Rattle.sorted_list.specs.Lists.{Held, present, none, added, refused}
use Rattle.sorted_list.specs.Laws.{Ascending, Blank, Adds, WholeKeys, filled, accepted}
use Rattle.sorted_list.proofs.Members.{unique}
use Rattle.sorted_list.proofs.Adding.{by_way, one_less, adds, member_from_equal}
use Rattle.sorted_list.proofs.Filling.{filled_keeps, filled_only, filled_all, whole_keys}
use Rattle.rows.specs.Edges.{blank_edge}
use Rattle.rows.specs.Orders.{rank_edge}
use Rattle.rows.specs.declared.edge.Edge.{Edge}
use Rattle.rows.specs.OrderLaws.{edge_order, edge_same}
use Rattle.recording.specs.Chains.{Pairwise}
use Rattle.recording.proofs.Sorting.{some_free}
use Rattle.rules.specs.Drawing.{new_among}

-- No two of the edges are the same.
abbrev pub AllDiffer : List Edge → Type 0
AllDiffer es = Pairwise (λ e f. e ≡ f → ⊥) es

new_few : (xs es : List Edge) → new_among xs es ≤ length es
new_few xs [] = omega arith
new_few xs (e ∷ es) = omega (arith, new_few xs es, few (present rank_edge xs e))
  where
    few : (b : Bool) → cond b 0 1 ≤ 1
    few true = omega arith
    few false = omega arith

keys : WholeKeys rank_edge blank_edge
keys = whole_keys rank_edge edge_order blank_edge edge_same

-- ---- one edge

module _ (h : Held Edge) (e : Edge) where
  one : Adds rank_edge blank_edge h e
  one = adds rank_edge edge_order blank_edge h e

  -- It is let in where there are places for those of it and others that are new.
  let_in : (n : ℕ) → cond (present rank_edge h.records e) 0 1 + n ≤ length h.free → refused rank_edge h e ≡ false
  let_in n room =
      ⊎_elim (λ p. and_left (not (present rank_edge h.records e)) (none h.free) (not_from_true _ p))
      (λ p. and_right (not (present rank_edge h.records e)) (none h.free)
      (some_free rank_edge h.free (omega (arith, ap {B = ℕ} (λ b. cond b 0 1) p))))
      (cases_Bool (present rank_edge h.records e))

  -- A new one takes a place.
  place_taken : refused rank_edge h e ≡ false
      → length (added rank_edge h e).free + cond (present rank_edge h.records e) 0 1 ≡ length h.free
  place_taken =
      by_way rank_edge h e (λ k b. b ≡ false → length k.free + cond (present rank_edge h.records e) 0 1 ≡ length h.free)
      (λ p _. omega (arith, ap {B = ℕ} (λ b. cond b 0 1) p)) (λ f. absurd (true≢false f))
      (λ p f _. omega (arith, ap {B = ℕ} (λ b. cond b 0 1) p, one_less rank_edge h.free f))

  -- The others that are new stay new, and no more become so.
  new_after : (es : List Edge) → Ascending rank_edge h.records → AllByRecursion (λ f. e ≡ f → ⊥) es
      → new_among (added rank_edge h e).records es ≡ new_among h.records es
  new_after [] up d = refl
  new_after (f ∷ es) up d = omega (arith, ap {B = ℕ} (λ b. cond b 0 1) same, new_after es up d.1)
    where
      same : present rank_edge (added rank_edge h e).records f ≡ present rank_edge h.records f
      same =
          same_from_decides _ _ (keys.finds (added rank_edge h e).records f (one.ascends up))
          (Decides-like _ (one.keeps f) (λ m. ⊎_elim (λ n. n) (λ n. absurd (d.0 (sym n.0))) (one.only f m))
          (keys.finds h.records f up))

-- ---- all of them

-- Where there are places for the new ones, none is refused, and each new one counts.
fits : (h : Held Edge) (es : List Edge) → Ascending rank_edge h.records → AllDiffer es
    → new_among h.records es ≤ length h.free → (accepted rank_edge h es ≡ es)
    × (length (filled rank_edge h es).records ≡ length h.records + new_among h.records es)
fits h [] up d room = (refl, omega arith)
fits h (e ∷ es) up d room =
    let within = let_in h e (new_among h.records es) room in
    let others = new_after h e es up d.0 in
    let left = place_taken h e within in
    let rest = accepted rank_edge (added rank_edge h e) es in
    let more = fits (added rank_edge h e) es ((one h e).ascends up) d.1 (omega arith) in
    (cond-false (refused rank_edge h e) rest (e ∷ rest) within ∙ ap (λ l. e ∷ l) more.0, omega (arith, more.1, (one h e).size))

-- `all` ascends, and has the edges of xs and es.
module _ (xs es : List Edge) (up : Ascending rank_edge xs) (d : AllDiffer es) (all : List Edge) (rising : Ascending rank_edge all)
    (members : (x : Edge) → Memᴰ x all ↔ (Memᴰ x xs ⊎ Memᴰ x es)) where
  -- What a list that holds xs then holds.
  pub filled_is : (free : List Edge) → new_among xs es ≤ length free
      → (filled rank_edge (record { records = xs; free = free }) es).records ≡ all
  filled_is free room =
      let h : Held Edge = record { records = xs; free = free } in
      let e = (fits h es up d room).0 in
      unique edge_order (filled rank_edge h es).records all
      (filled_keeps rank_edge edge_order blank_edge (λ k. Ascending rank_edge k.records) (λ k f. (one k f).ascends) h es up)
      rising
      (λ x m. (members x).1 (⊎_elim (λ n. inl n) (λ n. inr (subst (λ l. Memᴰ x l) e n))
      (filled_only rank_edge edge_order blank_edge h es x m)))
      (λ x m. ⊎_elim
      (filled_keeps rank_edge edge_order blank_edge (λ k. Memᴰ x k.records) (λ k f. (one k f).keeps x) h es)
      (λ n. member_from_equal rank_edge edge_same (filled rank_edge h es).records x
      (filled_all rank_edge edge_order blank_edge h es x (subst (λ l. Memᴰ x l) (sym e) n))) ((members x).0 m))

  pub new_count : length all ≡ length xs + new_among xs es
  new_count =
      let free = replicate (length es) blank_edge in
      let room : new_among xs es ≤ length free = omega (arith, length-replicate (length es) blank_edge, new_few xs es) in
      omega (arith, ap length (filled_is free room), (fits (record { records = xs; free = free }) es up d room).1)

-- The places are as many as before.
pub filled_size : (h : Held Edge) (es : List Edge)
    → length (filled rank_edge h es).records + length (filled rank_edge h es).free ≡ length h.records + length h.free
filled_size h es =
    filled_keeps rank_edge edge_order blank_edge
    (λ k. length k.records + length k.free ≡ length h.records + length h.free) (λ k f e. (one k f).size ∙ e) h es refl

pub filled_blank : (h : Held Edge) (es : List Edge) → Blank blank_edge h.free → Blank blank_edge (filled rank_edge h es).free
filled_blank h es = filled_keeps rank_edge edge_order blank_edge (λ k. Blank blank_edge k.free) (λ k f. (one k f).blanks) h es
