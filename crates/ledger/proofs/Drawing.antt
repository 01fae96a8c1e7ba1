-- The edges of the held locks, counted and added one after another.
-- Assumes nothing.
use Rattle.std.proofs.Common.{◌≡◌, ℕ, ◌+◌, ◌<◌, ◌≤◌, Bool, true, false, cond, not, List, ◌∷◌, map, count_by, length, get_or, drop, sym, refl, ap, ◌∙◌, arith}
use Rattle.std.proofs.lemmas.List.{at_drop_more, at_drop_all}
use Rattle.std.proofs.lemmas.List.Recursion.{is_count_by}
use Rattle.sorted_list.specs.Lists.{Held, added, present}
use Rattle.rows.specs.Orders.{rank_edge}
use Rattle.rows.specs.declared.edge.Edge.{Edge}
use Rattle.rules.specs.Drawing.{new_among, drawn_into}

module _ (f : ℕ → Edge) (locks : List ℕ) (i : ℕ) where
  -- ---- added

  pub drawn_more : (h k : Held Edge) (l : ℕ) → l ≡ get_or locks i l → i < length locks → k ≡ added rank_edge h (f l)
      → drawn_into k (map f (drop (i + 1) locks)) ≡ drawn_into h (map f (drop i locks))
  drawn_more h k l is low next =
      ap (λ s. drawn_into s (map f (drop (i + 1) locks))) (next ∙ ap (λ m. added rank_edge h (f m)) is)
      ∙ sym (at_drop_more (λ ls. drawn_into h (map f ls)) locks i l low)

  pub drawn_all : (h k : Held Edge) → length locks ≤ i → drawn_into k (map f (drop i locks)) ≡ drawn_into h (map f locks)
      → k ≡ drawn_into h (map f locks)
  drawn_all h k high inv = sym (at_drop_all (λ ls. drawn_into k (map f ls)) locks i high) ∙ inv

-- ---- counted

pub new_counted : (f : ℕ → Edge) (records : List Edge) (locks : List ℕ)
    → count_by (λ l. not (present rank_edge records (f l))) locks ≡ new_among records (map f locks)
new_counted f records locks = sym (is_count_by (λ ls. new_among records (map f ls)) (λ l. not (present rank_edge records (f l))) refl step locks)
  where
    one : (b : Bool) (n : ℕ) → cond b 0 1 + n ≡ cond (not b) (1 + n) n
    one true n = omega arith
    one false n = refl

    step : (x : ℕ) (xs : List ℕ) → new_among records (map f (x ∷ xs))
        ≡ cond (not (present rank_edge records (f x))) (1 + new_among records (map f xs)) (new_among records (map f xs))
    step x xs = one (present rank_edge records (f x)) (new_among records (map f xs))
