use Rattle.std.proofs.Common.{sym, ◌∙◌, arith}
use Rattle.std.proofs.lemmas.List.{at_drop_more, at_drop_all}
use Rattle.output.specs.Texts.{all_stepped}
use Rattle.output.proofs.circle.put_steps.Goals as goal

pub loop-step-preserved : goal.loop-step-preserved
loop-step-preserved c =
    let l = c.loop-step in
    let more = at_drop_more (all_stepped l.text.bytes) c.args.steps.now l.step-index _ (omega arith) in
    (rw c.put_step.ensures.text (sym more ∙ l.invariant.0), omega arith)

pub returns : goal.returns
returns c =
    let l = c.loop-step in
    let all = at_drop_all (all_stepped l.text.bytes) c.args.steps.now l.step-index (omega arith) in
    record { text = sym all ∙ l.invariant.0; short = omega arith }
