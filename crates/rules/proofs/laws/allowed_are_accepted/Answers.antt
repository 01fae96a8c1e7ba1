use Rattle.rules.proofs.laws.allowed_are_accepted.Goals as goal
use Rattle.rules.proofs.Accepting.{allowed_are_accepted}

pub returns : goal.returns
returns c = allowed_are_accepted
