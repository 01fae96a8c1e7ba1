-- A ledger, its edge list and its order, lent together.
-- Assumes nothing.
use Rattle.std.specs.Prelude.{◌≡◌}
use Rattle.order.specs.Meaning.{Meaning}
use Rattle.rules.specs.States.{State}
use Rattle.ledger.specs.Ledgers.{state_with}
use Rattle.feeding.specs.declared.file.Lent.{Lent}

-- What stands behind them.
abbrev pub state_of : {O : Type 0} → (O → Meaning) → Lent O → State
state_of meaning l = state_with l.ledger.now l.edges.now (meaning l.order.now)

-- They and the places of the edge list are still lent from the same.
pub record SameLoans {O : Type 0} (old new : Lent O) : Type 0 where
  pub ledger : new.ledger.ghost_name ≡ old.ledger.ghost_name
  pub edges : new.edges.ghost_name ≡ old.edges.ghost_name
  pub order : new.order.ghost_name ≡ old.order.ghost_name
  pub places : new.edges.now.places.ghost_name ≡ old.edges.now.places.ghost_name
