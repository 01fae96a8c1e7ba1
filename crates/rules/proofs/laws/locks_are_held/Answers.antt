use Rattle.rules.proofs.laws.locks_are_held.Goals as goal
use Rattle.rules.proofs.Counting.{locks_are_held}

pub returns : goal.returns
returns c = locks_are_held
