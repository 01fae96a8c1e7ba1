use Rattle.sorted_list.proofs.Filling.{fills}
use Rattle.sorted_list.proofs.laws.filling_is_lawful.Goals as goal

pub returns : goal.returns
returns g c = fills g.R.Record.rank g.met.R.Record.order g.R.Record.vacant
