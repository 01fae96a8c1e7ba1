use Rattle.std.proofs.Common.{◌≡◌, refl, rules}
use Rattle.arrayvec.proofs.ArrayVecLemmas.{filter-from_retain}
use Rattle.rules.specs.Rows.{given_up}
use Rattle.ledger.proofs.Locks.{is_other, tidy_kept}
use Rattle.ledger.proofs.row.Row.remove.Goals as goal
use Rattle.ledger.proofs.row.Row.remove.Goals.{After-retain}

others : (c : After-retain) → c.retain.new.self.items ≡ given_up c.args.lock c.self.inside.locks.items
others c = filter-from_retain _ (is_other c.args.lock) _ (λ x b f y called. search rules) _ _ c.retain.ensures.filtered

pub invariant_of-self : goal.invariant_of-self
invariant_of-self c = rw (others c) (tidy_kept (is_other c.args.lock) c.self.inside.locks.items c.self.invariant)

pub returns : goal.returns
returns c = rw (others c, ← c.self.view_is) refl
