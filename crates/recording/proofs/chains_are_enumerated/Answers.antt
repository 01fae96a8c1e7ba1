use Rattle.recording.proofs.chains_are_enumerated.Goals as goal
use Rattle.recording.proofs.Enumerating.{chains_are_enumerated}

pub returns : goal.returns
returns c = chains_are_enumerated
