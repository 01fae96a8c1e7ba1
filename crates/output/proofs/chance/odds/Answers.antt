use Rattle.std.proofs.Common.{◌≤◌, arith, rules}
use Rattle.output.proofs.Fractions.{fitting, vanishing}
use Rattle.output.proofs.Rounding.{rounded_none}
use Rattle.output.proofs.chance.odds.Goals as goal

pub pow-power-requires : goal.pow-power-requires
pow-power-requires c = rw c.from.ensures (fitting c.args.k c.args.n (omega arith) (omega arith) (omega arith)).power

pub overflow_mul-factorial : goal.overflow_mul-factorial
overflow_mul-factorial c =
    let f = fitting c.args.k c.args.n (omega arith) (omega arith) (omega arith) in
    record { fits = omega arith }

pub overflow_mul-from : goal.overflow_mul-from
overflow_mul-from c =
    let f = fitting c.args.k c.args.n (omega arith) (omega arith) (omega arith) in
    record { fits = rw (c.from-in-2-to-15-1-to-8.ensures, c.pow-power.ensures, c.from.ensures) f.below }

pub round-requires : goal.round-requires
round-requires c =
    let f = fitting c.args.k c.args.n (omega arith) (omega arith) (omega arith) in
    rw (c.from-in-2-to-15-1-to-8.ensures, c.pow-power.ensures, c.from.ensures) (record { below_nonzero = f.some; above_bound = omega arith })

pub returns-in-2-to-64-1-to-8 : goal.returns-in-2-to-64-1-to-8
returns-in-2-to-64-1-to-8 c =
    let large : 16 ≤ c.args.k = grind arith in
    let small = vanishing c.args.k c.args.n (omega arith) (omega arith) (omega arith) (omega arith) in
    let none = rounded_none _ _ small in
    search rules
