use Rattle.std.proofs.Common.{sym, ap, ◌∙◌}
use Rattle.std.proofs.lemmas.List.{at_drop_all}
use Rattle.order.specs.Histories.{History, replayed}
use Rattle.order.proofs.Histories.{order_is_paths}
use Rattle.order.proofs.history.replay.Goals as goal

pub returns-clause-paths : goal.returns-clause-paths
returns-clause-paths g c =
    let limit = g.O.SegmentOrder.limit in
    let calls = c.args.calls.now in
    let now : History = record { order = g.O.SegmentOrder.meaning c.loop-call.order; arrows = c.loop-call.invariant.0 } in
    let e = sym (at_drop_all (replayed limit now) calls c.loop-call.call-index c.loop-call-test.false) ∙ c.loop-call.invariant.1 in
    rw (ap (λ (h : History). h.order) e) (order_is_paths limit calls)
