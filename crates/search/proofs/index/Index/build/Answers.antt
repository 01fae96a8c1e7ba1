use Rattle.std.proofs.Common.{◌+◌, ◌/◌, length, refl, ◌∙◌}
use Rattle.rows.specs.Edges.{blank_edge}
use Rattle.std.proofs.lemmas.List.{get_or_default}
use Rattle.search.proofs.Blocks.{no_mark, mark_more}
use Rattle.search.proofs.index.Index.build.Goals as goal

pub loop-i-init : goal.loop-i-init
loop-i-init c = (refl, no_mark)

pub loop-i-preserved : goal.loop-i-preserved
loop-i-preserved c =
    let rows = c.args.rows.now in
    let i = c.loop-i.i in
    let size = length rows / 64 + 1 in (
      c.add.ensures.size ∙ c.loop-i.invariant.0,
      λ lock b.
          c.add.ensures.marks lock b
          ∙ mark_more rows size lock b i _ _ (get_or_default rows i _ blank_edge c.loop-i-test.true) (c.loop-i.invariant.1 lock b),
    )
