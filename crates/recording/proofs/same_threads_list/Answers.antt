use Rattle.recording.proofs.same_threads_list.Goals as goal
use Rattle.recording.proofs.Agreeing.{same_threads_list}

pub returns : goal.returns
returns c = same_threads_list
