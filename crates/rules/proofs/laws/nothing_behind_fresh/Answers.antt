use Rattle.rules.proofs.laws.nothing_behind_fresh.Goals as goal
use Rattle.rules.proofs.Recorded.{nothing_behind_fresh}

pub returns : goal.returns
returns c = nothing_behind_fresh
