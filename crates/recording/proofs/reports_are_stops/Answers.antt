use Rattle.recording.proofs.reports_are_stops.Goals as goal
use Rattle.recording.proofs.ReportStops.{reports_are_stops}

pub returns : goal.returns
returns c = reports_are_stops
