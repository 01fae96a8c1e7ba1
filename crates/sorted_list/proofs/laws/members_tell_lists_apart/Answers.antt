use Rattle.sorted_list.proofs.Members.{unique}
use Rattle.sorted_list.proofs.laws.members_tell_lists_apart.Goals as goal

pub returns : goal.returns
returns g c = unique g.met.R.Record.order
