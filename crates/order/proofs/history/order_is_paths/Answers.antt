use Rattle.order.proofs.Histories.{order_is_paths}
use Rattle.order.proofs.history.order_is_paths.Goals as goal

pub returns : goal.returns
returns g c = order_is_paths g.O.SegmentOrder.limit
