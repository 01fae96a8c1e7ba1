use Rattle.std.proofs.Common.{arith, rules}
use Rattle.std.proofs.lemmas.Grind.{common_steps}
use Rattle.text.proofs.Readings.{read_says, read_leftmost}
use Rattle.text.proofs.line.read_line.Goals as goal

pub returns-in-empty-clause-leftmost : goal.returns-in-empty-clause-leftmost
returns-in-empty-clause-leftmost c = read_leftmost (search rules)

pub returns-in-len1-up-clause-said : goal.returns-in-len1-up-clause-said
returns-in-len1-up-clause-said c = read_says (grind (arith, common_steps))

pub returns-in-len1-up-clause-leftmost : goal.returns-in-len1-up-clause-leftmost
returns-in-len1-up-clause-leftmost c = read_leftmost (grind (arith, common_steps))
