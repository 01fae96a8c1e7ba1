use Rattle.rules.proofs.laws.lists_are_recorded.Goals as goal
use Rattle.rules.proofs.Recorded.{lists_are_recorded}

pub returns : goal.returns
returns c = lists_are_recorded
