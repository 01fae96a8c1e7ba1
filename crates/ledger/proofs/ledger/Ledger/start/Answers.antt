use Rattle.std.proofs.Common.{rules}
use Rattle.rows.specs.declared.event.Event.TheVariants.{Start}
use Rattle.ledger.proofs.Recorded.{recorded_at}
use Rattle.ledger.proofs.ledger.Ledger.start.Goals as goal

pub returns-clause-behind : goal.returns-clause-behind
returns-clause-behind g c =
    λ h ρ b. recorded_at g.O.SegmentOrder.limit (Start c.args.t c.args.u) b (search rules) (search rules)
