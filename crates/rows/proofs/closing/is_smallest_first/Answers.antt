use Rattle.std.proofs.Common.{nat_lt, sym, ap, ◌∙◌, rules, tests}
use Rattle.std.proofs.lemmas.Iterator.{YieldsList-from_slice}
use Rattle.std.proofs.lemmas.Iterator.Search.{all_from_yields_List}
use Rattle.rows.specs.Circles.{smallest_first}
use Rattle.rows.proofs.closing.is_smallest_first.Goals as goal

pub returns : goal.returns
returns c =
    let first = c.in-Some.first.now in
    let behind = all_from_yields_List (λ z. nat_lt first.thread z.thread) _ _ c.all.result c.all.ensures.ran (YieldsList-from_slice _ c.iter.ensures.rest) (λ x b q k. search (rules, tests)) in
    behind ∙ sym (ap smallest_first c.in-Some.ensures.cases.0)
