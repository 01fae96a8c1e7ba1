use Rattle.std.proofs.Common.{ap, ◌∙◌, rules}
use Rattle.std.proofs.lemmas.Iterator.{YieldsList-from_slice}
use Rattle.std.proofs.lemmas.Iterator.Consumers.{fold_from_yields_List}
use Rattle.recording.specs.EdgeList.{gather}
use Rattle.rules.specs.Rows.{ThreadRow, holds}
use Rattle.ledger.proofs.Guards.{with_lock, folded_gather}
use Rattle.ledger.proofs.Locks.{tidy_small}
use Rattle.ledger.proofs.row.Row.guards.Goals as goal

pub returns : goal.returns
returns c =
    let locks = c.self.inside.locks.items in
    fold_from_yields_List _ with_lock 0 c.fold.result c.fold.ensures.ran (YieldsList-from_slice locks cc)
    (λ a x b q called. search rules)
    ∙ folded_gather locks (tidy_small locks c.self.invariant)
    ∙ ap (λ (r : ThreadRow). gather (holds r) 64) c.self.view_is
