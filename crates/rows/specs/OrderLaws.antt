-- Rows are ordered totally, and equal in the order means the same row: the laws that the impls of rows give, with their proofs.
-- Assumes nothing.
use Rattle.std.specs.Prelude.{◌≡◌, ℕ, List, [], ◌∷◌, map, refl}
use Rattle.std.specs.declared.cmp.Ordering.TheVariants.{Equal}
use Rattle.std.proofs.Common.{get_or, drop, sym, ap, ◌∙◌}
use Rattle.std.proofs.lemmas.Cmp.{nat_list_cmp_total, lists_total, on_total}
use Rattle.std.specs.Cmp.Lexicographic.{slice_cmp, pointwise_decides, bytes_decides, lists_ties, texts_ties}
use Rattle.std.specs.Ordering.{nat_cmp, is_eq}
use Rattle.sorted_list.specs.Orders.{TotalOrder}
use Rattle.sorted_list.proofs.Orders.{lawful}
use Rattle.rows.specs.Orders.{edge_places, step_places, row_places, rank_edge, rank_row}
use Rattle.rows.specs.declared.edge.Edge.{Edge}
use Rattle.rows.specs.declared.row.CircleRow.{CircleRow}
use Rattle.rows.specs.declared.step.Step.{Step}

pub edge_order : TotalOrder rank_edge
edge_order = lawful (on_total edge_places nat_list_cmp_total)

pub row_order : TotalOrder rank_row
row_order = lawful (on_total row_places (lists_total nat_list_cmp_total))

-- what has these places
edge_of : List ℕ → Edge
edge_of l = record { thread = get_or l 0 0; held = get_or l 1 0; wanted = get_or l 2 0; guards = get_or l 3 0; segment = get_or l 4 0 }

step_of : List ℕ → Step
step_of l = record { thread = get_or l 0 0; held = get_or l 1 0; wanted = get_or l 2 0 }

steps_of_places : (xs : List Step) → map step_of (map step_places xs) ≡ xs
unfolding step_of
steps_of_places [] = refl
steps_of_places (x ∷ xs) = ap (λ l. x ∷ l) (steps_of_places xs)

pub edge_same : (e f : Edge) → rank_edge e f ≡ Equal → e ≡ f
unfolding edge_of
edge_same e f h =
    let same = (bytes_decides (edge_places e) (edge_places f)).0 (texts_ties (edge_places e) (edge_places f) ∙ ap is_eq h) in
    ap edge_of same

pub row_same : (a b : CircleRow) → rank_row a b ≡ Equal → a ≡ b
row_same a b h =
    let ties = lists_ties (slice_cmp nat_cmp) texts_ties (row_places a) (row_places b) in
    let same = (pointwise_decides bytes_decides (row_places a) (row_places b)).0 (ties ∙ ap is_eq h) in
    let steps = sym (steps_of_places a.steps) ∙ ap (λ l. map step_of (drop 1 l)) same ∙ steps_of_places b.steps in
    λ i. record { count = get_or (get_or (same i) 0 []) 0 0; steps = steps i }
