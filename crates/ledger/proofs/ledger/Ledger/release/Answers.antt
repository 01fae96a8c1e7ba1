use Rattle.std.proofs.Common.{rules}
use Rattle.rows.specs.declared.event.Event.TheVariants.{Release}
use Rattle.ledger.specs.Tables.{table_rows}
use Rattle.ledger.proofs.Tables.{Kept, counted, gave_up_kept}
use Rattle.ledger.proofs.Recorded.{recorded_at, accepted_at}
use Rattle.ledger.proofs.ledger.Ledger.release.Goals as goal

pub returns-in_err-t-clause-accepts : goal.returns-in_err-t-clause-accepts
returns-in_err-t-clause-accepts c =
    λ limit h m ρ b. accepted_at limit (Release c.args.t c.args.o) b (search rules)

pub returns-clause-behind : goal.returns-clause-behind
returns-clause-behind c = λ h m ρ b. recorded_at 0 (Release c.args.t c.args.o) b (search rules) (search rules)

pub returns-clause-accepts : goal.returns-clause-accepts
returns-clause-accepts c = λ limit h m ρ b. accepted_at limit (Release c.args.t c.args.o) b (search rules)

pub invariant_of-self : goal.invariant_of-self
invariant_of-self c =
    let kept : Kept (table_rows c.remove.new.self) = rw c.remove.ensures (gave_up_kept _ c.in_ok-t.t c.in_ok-t.o c.args.self.now.kept) in
    record { counted = counted _ kept; kept = kept }
