use Rattle.rules.proofs.laws.ends_are_open.Goals as goal
use Rattle.rules.proofs.Recorded.{ends_are_open}

pub returns : goal.returns
returns c = ends_are_open
