use Rattle.std.proofs.Common.{sym, ◌∙◌}
use Rattle.ledger_tests.proofs.Small.{first_small}
use Rattle.ledger_tests.proofs.kept.is_first_small.Goals as goal

pub returns-in-Some : goal.returns-in-Some
returns-in-Some c = first_small _ c.in-Some.lock (c.args.ledger.now.kept 0) (sym c.held.ensures ∙ c.in-Some.is)
