use Rattle.std.proofs.Common.{◌<◌, ◌&&◌, ◌||◌, eqb, length, get_or, set, sym, refl, ap, ◌∙◌, rules}
use Rattle.rows.specs.Edges.{is_edge, in_set}
use Rattle.search.proofs.Blocks.{marked, and_true}
use Rattle.search.proofs.index.Index.add.Goals as goal

pub returns-then-is_edge : goal.returns-then-is_edge
returns-then-is_edge c =
    let ws = c.args.self.now.blocks in
    let e = c.args.edge.now in
    let h : e.held < length ws = search rules in
    record {
      marks = rw c.from-lock.ensures (λ lock b.
          ap (λ w. in_set b (get_or (set ws e.held w) lock 0)) (rw c.from-lock.ensures at c.with_block.ensures)
          ∙ marked ws e.held c.args.block lock b h
          ∙ ap (λ x. (x && eqb b c.args.block) || in_set b (get_or ws lock 0))
          (sym (and_true (eqb lock e.held) (is_edge e) (sym c.if-is_edge.ensures.value))));
      size = refl;
    }
