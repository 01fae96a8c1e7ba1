use Rattle.recording.proofs.reports_tell_stops.Goals as goal
use Rattle.recording.proofs.ReportStops.{reports_tell_stops}

pub returns : goal.returns
returns c = reports_tell_stops
