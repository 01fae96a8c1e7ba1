use Rattle.std.proofs.Common.{length, ap, ◌∙◌, arith}
use Rattle.output.specs.Odds.{factorial}
use Rattle.output.proofs.Factors.{multiplied}
use Rattle.output.proofs.Fractions.{fitting}
use Rattle.output.proofs.chance.factorial.Goals as goal

pub product-requires-clause-fits : goal.product-requires-clause-fits
product-requires-clause-fits c = λ p seen from.
    let m = multiplied _ _ p from c.new.ensures.start c.new.ensures.end c.new.ensures.exhausted in
    let f = fitting (length p.items) 1 (omega (arith, m.at_most)) (omega arith) (omega arith) in
    rw m.product (omega (arith, f.above))

pub returns : goal.returns
returns c =
    let r = c.product.ensures.runs tt in
    let m = multiplied _ _ r.0 r.1 c.new.ensures.start c.new.ensures.end c.new.ensures.exhausted in
    r.3 ∙ m.product ∙ ap factorial (m.all r.2 ∙ c.from.ensures)
