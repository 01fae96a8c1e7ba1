use Rattle.std.proofs.Common.{map, refl, ap, ◌∙◌}
use Rattle.sorted_list.specs.Lists.{held}
use Rattle.rules.specs.Drawing.{edge_from, drawn_into}
use Rattle.rules.specs.Rows.{ThreadRow}
use Rattle.ledger.proofs.Drawing.{drawn_more, drawn_all}
use Rattle.ledger.proofs.row.Row.draw.Goals as goal

pub loop-i-init : goal.loop-i-init
loop-i-init c = (refl, refl)

pub loop-i-preserved : goal.loop-i-preserved
loop-i-preserved c =
    let f = edge_from c.args.self.now c.args.t c.args.o in
    let inv = c.loop-i.invariant in
    let one = c.draw_edge.ensures in
    (drawn_more f _ _ _ _ c.index-held-i.result c.index-held-i.is c.loop-i-test.true one.drawn ∙ inv.0, one.lent ∙ inv.1)

pub returns : goal.returns
returns c =
    let f = edge_from c.args.self.now c.args.t c.args.o in
    let inv = c.loop-i.invariant in
    record {
      drawn =
          drawn_all f _ _ _ _ c.loop-i-test.false inv.0
          ∙ ap (λ ls. drawn_into (held c.args.edges.now) (map f ls)) (c.as_slice-held.ensures.value
          ∙ ap (λ (r : ThreadRow). r.locks) c.self.view_is);
      lent = inv.1;
    }
