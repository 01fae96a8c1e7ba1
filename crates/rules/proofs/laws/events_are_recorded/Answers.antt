use Rattle.rules.proofs.laws.events_are_recorded.Goals as goal
use Rattle.rules.proofs.Recorded.{events_are_recorded}

pub returns : goal.returns
returns c = events_are_recorded
