use Rattle.std.proofs.Common.{rules}
use Rattle.std.proofs.lemmas.Fn.{always_returns_same}
use Rattle.sorted_list.proofs.Walks.{searched}
use Rattle.sorted_list.proofs.list.SortedList.place_of.Goals as goal

pub returns : goal.returns
returns g c =
    let rank = g.R.Record.rank in
    let r = c.args.sought.now in
    let found = c.binary_search_by.ensures in
    let by_rank = found.position (λ x. rank x r) (always_returns_same _ _ _ (λ a s q called. search rules)) in
    searched rank g.met.R.Record.order _ r _ c.args.self.now.ascends (rw c.records.ensures at found.bound)
    (rw c.records.ensures at by_rank)
