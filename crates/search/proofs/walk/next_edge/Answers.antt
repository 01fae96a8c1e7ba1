use Rattle.std.proofs.Common.{◌≡◌, true, false, get_or, rules}
use borrow.Author.Tests.{tests}
use Rattle.std.proofs.lemmas.Iterator.{first_from_Range}
use Rattle.rows.specs.Edges.{is_edge}
use Rattle.search.proofs.Blocks.{zero_edge, found_first}
use Rattle.search.proofs.walk.next_edge.Goals as goal

pub returns : goal.returns
returns c =
    let rows = c.args.rows.now in
    found_first is_edge rows c.args.from c.find.result
    (first_from_Range _ _ _ c.find.result (λ x. is_edge (get_or rows x zero_edge) ≡ true)
    (λ x. is_edge (get_or rows x zero_edge) ≡ false) c.find.ensures.ran (λ x q k. search (rules, tests)) (λ x q k. search (rules, tests)))
