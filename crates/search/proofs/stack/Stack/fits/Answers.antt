use Rattle.std.proofs.Common.{◌∙◌}
use Rattle.search.proofs.Stacking.{follows}
use Rattle.search.proofs.stack.Stack.fits.Goals as goal

pub returns : goal.returns
returns g c =
    c.is_apart.ensures ∙ follows c.args.self.now (g.O.SegmentOrder.meaning c.args.order.now).before
    c.args.edge.now c.requires.some c.requires.holds
