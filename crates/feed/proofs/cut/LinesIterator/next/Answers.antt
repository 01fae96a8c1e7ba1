use Rattle.std.proofs.Common.{◌<◌, ◌∷◌, length, sym, ◌∙◌, arith, rules}
use Rattle.std.proofs.lemmas.Bool.{eqb-false}
use Rattle.feed.specs.Lines.{lines}
use Rattle.feed.proofs.Splitting.{lines_split}
use Rattle.feed.proofs.cut.LinesIterator.next.Goals as goal

pub returns-clause-steps : goal.returns-clause-steps
returns-clause-steps c =
    let some : 0 < length c.self.inside.rest.now = omega (arith, eqb-false _ _ (sym c.if-is_empty.ensures)) in
    sym c.self.view_is ∙ lines_split _ some ∙ sym (λ k. c.first_line.ensures.line k ∷ lines (c.first_line.ensures.later k))

pub returns-clause-goes : goal.returns-clause-goes
returns-clause-goes c = let e = returns-clause-steps c in search rules
