use Rattle.std.proofs.Common.{rules}
use Rattle.rows.specs.declared.event.Event.TheVariants.{Join}
use Rattle.ledger.proofs.Recorded.{recorded_at, accepted_at, open_at}
use Rattle.ledger.proofs.ledger.Ledger.join.Goals as goal

pub returns-in_err-n-clause-accepts : goal.returns-in_err-n-clause-accepts
returns-in_err-n-clause-accepts g c =
    λ h ρ b. accepted_at g.O.SegmentOrder.limit (Join c.args.t c.args.u) b (search rules)

pub returns-in_err-n-clause-ends : goal.returns-in_err-n-clause-ends
returns-in_err-n-clause-ends g c =
    λ h ρ b. open_at g.O.SegmentOrder.limit (Join c.args.t c.args.u) b (search rules)

pub returns-clause-behind : goal.returns-clause-behind
returns-clause-behind g c =
    λ h ρ b. recorded_at g.O.SegmentOrder.limit (Join c.args.t c.args.u) b (search rules) (search rules)
