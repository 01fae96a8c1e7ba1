use Rattle.recording.proofs.reports_are_lawful.Goals as goal
use Rattle.recording.proofs.Reporting.{reports_are_lawful}

pub returns : goal.returns
returns c = reports_are_lawful
