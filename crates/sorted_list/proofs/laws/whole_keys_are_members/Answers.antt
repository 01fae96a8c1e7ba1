use Rattle.sorted_list.proofs.Filling.{whole_keys}
use Rattle.sorted_list.proofs.laws.whole_keys_are_members.Goals as goal

pub returns : goal.returns
returns g c = whole_keys g.R.Record.rank g.met.R.Record.order g.R.Record.vacant g.met.R.WholeKey.same
