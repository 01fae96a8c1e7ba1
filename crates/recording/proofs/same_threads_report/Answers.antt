use Rattle.recording.proofs.same_threads_report.Goals as goal
use Rattle.recording.proofs.Agreeing.{same_threads_report}

pub returns : goal.returns
returns c = same_threads_report
