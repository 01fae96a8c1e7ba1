use Rattle.std.proofs.Common.{rules}
use Rattle.rows.specs.declared.event.Event.TheVariants.{Lock}
use Rattle.ledger.specs.Tables.{table_rows}
use Rattle.ledger.proofs.Tables.{Kept, counted, took_kept}
use Rattle.ledger.proofs.Recorded.{recorded_at, accepted_at}
use Rattle.ledger.proofs.ledger.Ledger.lock.Goals as goal

pub returns-in_err-t-clause-accepts : goal.returns-in_err-t-clause-accepts
returns-in_err-t-clause-accepts c = λ limit m ρ b. accepted_at limit (Lock c.args.t c.args.o) b (search rules)

pub returns-clause-behind : goal.returns-clause-behind
returns-clause-behind c = λ m ρ b. recorded_at 0 (Lock c.args.t c.args.o) b (search rules) (search rules)

pub returns-clause-accepts : goal.returns-clause-accepts
returns-clause-accepts c = λ limit m ρ b. accepted_at limit (Lock c.args.t c.args.o) b (search rules)

pub invariant_of-self : goal.invariant_of-self
invariant_of-self c =
    let kept : Kept (table_rows c.push.new.self) = rw c.push.ensures (took_kept _ c.in_ok-t.t c.in_ok-t.o (search rules) (search rules) c.args.self.now.kept) in
    record { counted = counted _ kept; kept = kept }
