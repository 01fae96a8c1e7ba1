use Rattle.recording.proofs.edges_are_listed.Goals as goal
use Rattle.recording.proofs.Drawing.{edges_are_listed}

pub returns : goal.returns
returns c = edges_are_listed
