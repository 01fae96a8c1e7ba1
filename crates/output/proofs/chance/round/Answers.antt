use Rattle.std.proofs.Common.{refl, arith}
use Rattle.output.specs.Odds.{rounded}
use Rattle.output.proofs.Rounding.{rounded_most}
use Rattle.output.proofs.chance.round.Goals as goal

pub overflow_cast-result : goal.overflow_cast-result
unfolding rounded
overflow_cast-result c = record { fits = omega (arith, rounded_most c.args.above c.args.below 10000 c.requires.above_bound) }

pub returns : goal.returns
unfolding rounded
returns c = refl
