use Rattle.recording.proofs.same_threads_reply.Goals as goal
use Rattle.recording.proofs.Replying.{same_threads_reply}

pub returns : goal.returns
returns c = same_threads_reply
