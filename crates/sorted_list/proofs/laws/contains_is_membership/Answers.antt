use Rattle.sorted_list.proofs.Walks.{finds}
use Rattle.sorted_list.proofs.laws.contains_is_membership.Goals as goal

pub returns : goal.returns
returns g c = finds g.R.Record.rank g.met.R.Record.order
