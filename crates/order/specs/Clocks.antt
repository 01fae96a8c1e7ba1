-- The meaning of an order that keeps clocks.
-- Assumes nothing.
use Rattle.order.specs.declared.clocks.Clocks.{Clocks}
use Rattle.order.specs.Clock.{view}
use Rattle.order.specs.Meaning.{Meaning}
use Rattle.order.specs.Runs.{Runs, runs_meaning}

abbrev pub runs_of : Clocks → Runs
runs_of o = view o.segments.places.items

abbrev pub clocks_meaning : Clocks → Meaning
clocks_meaning o = runs_meaning (runs_of o)
