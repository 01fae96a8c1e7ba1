use Rattle.std.proofs.Common.{Bool, ◌∙◌, rules}
use borrow.Author.Tests.{tests}
use Rattle.std.proofs.lemmas.Iterator.{YieldsList-from_slice}
use Rattle.std.proofs.lemmas.Iterator.Search.{all_from_yields_List}
use Rattle.search.specs.declared.level.Level.{Level}
use Rattle.search.specs.Stacks.{stacked, unordered}
use Rattle.search.proofs.Seeing.{every_is}
use Rattle.search.proofs.stack.Stack.is_parallel.Goals as goal

pub returns : goal.returns
returns g c =
    let test : Level → Bool = λ m. unordered (g.O.SegmentOrder.meaning c.args.order.now).before m.edge.segment c.args.segment in
    let levels = stacked c.args.self.now in
    all_from_yields_List test _ _ c.all.result c.all.ensures.ran (YieldsList-from_slice levels cc) (λ x b q k. search (rules, tests))
    ∙ every_is test levels
