use Rattle.worked.proofs.Rows.{worked}
use Rattle.worked.proofs.worked_recordings.Goals as goal

pub returns : goal.returns
returns c = worked
