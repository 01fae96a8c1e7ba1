use Rattle.ledger.specs.Tables.{table_rows}
use Rattle.ledger.proofs.Tables.{Kept, counted, fresh_kept}
use Rattle.rules.proofs.Recorded.{nothing_behind_fresh}
use Rattle.ledger.proofs.ledger.Ledger.fresh.Goals as goal

pub returns : goal.returns
returns c = record { rows = c.fresh.ensures; behind = λ places. rw c.fresh.ensures (nothing_behind_fresh places) }

pub invariant_of-result : goal.invariant_of-result
invariant_of-result c =
    let kept : Kept (table_rows c.fresh.result) = rw c.fresh.ensures fresh_kept in
    record { counted = counted _ kept; kept = kept }
