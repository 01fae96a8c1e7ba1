use Rattle.sorted_list.proofs.Adding.{adds}
use Rattle.sorted_list.proofs.laws.adding_is_lawful.Goals as goal

pub returns : goal.returns
returns g c = adds g.R.Record.rank g.met.R.Record.order g.R.Record.vacant
