use Rattle.std.proofs.Common.{sym, ◌∙◌, arith}
use Rattle.search.proofs.Blocks.{in_block, gap_on, gap_none}
use Rattle.search.proofs.index.Index.next_holding.Goals as goal

pub returns-in_err-at : goal.returns-in_err-at
returns-in_err-at c =
    let room = in_block c.args.rows.now c.args.self.now c.requires.1 c.args.lock c.loop-at.at c.loop-at-test.true in
    c.from_residual.ensures
    ∙ sym (c.loop-at.invariant ∙ gap_none c.args.rows.now c.args.self.now c.requires.1 c.args.lock c.loop-at.at
    c.end_of_block-end.result (omega arith) 64 c.loop-at-test.true c.end_of_block-end.ensures c.in_default.ensures room
    (λ k l h _. c.in_err-at.ensures k l h) (omega arith))

pub loop-at-preserved : goal.loop-at-preserved
loop-at-preserved c =
    c.loop-at.invariant ∙ gap_on c.args.rows.now c.args.self.now c.requires.1 c.args.lock c.loop-at.at
    c.end_of_block-end.result (omega arith) c.in_ok-at.field-0 c.loop-at-test.true c.end_of_block-end.ensures
    c.in_default.ensures c.in_ok-at.ensures.0 (λ k l h _. c.in_ok-at.ensures.2 k l h)
