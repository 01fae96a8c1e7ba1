use Rattle.sorted_list.specs.Lists.{held}
use Rattle.ledger.proofs.ledger.Ledger.enter.Goals as goal

pub returns-in-Lock-clause-behind : goal.returns-in-Lock-clause-behind
returns-in-Lock-clause-behind g c = rw c.in-Lock.is (c.lock.ensures.behind (g.O.SegmentOrder.meaning c.args.order.now))

pub returns-in-Lock-clause-accepts : goal.returns-in-Lock-clause-accepts
returns-in-Lock-clause-accepts g c = rw c.in-Lock.is (c.lock.ensures.accepts g.O.SegmentOrder.limit (g.O.SegmentOrder.meaning c.args.order.now))

pub returns-in-Release-clause-behind : goal.returns-in-Release-clause-behind
returns-in-Release-clause-behind g c = rw c.in-Release.is (c.release.ensures.behind (held c.args.edges.now) (g.O.SegmentOrder.meaning c.args.order.now))

pub returns-in-Release-clause-accepts : goal.returns-in-Release-clause-accepts
returns-in-Release-clause-accepts g c =
    rw c.in-Release.is (c.release.ensures.accepts g.O.SegmentOrder.limit (held c.args.edges.now) (g.O.SegmentOrder.meaning c.args.order.now))

pub returns-in-Start-clause-behind : goal.returns-in-Start-clause-behind
returns-in-Start-clause-behind g c = rw c.in-Start.is (c.start.ensures.behind (held c.args.edges.now))

pub returns-in-Join-clause-behind : goal.returns-in-Join-clause-behind
returns-in-Join-clause-behind g c = rw c.in-Join.is (c.join.ensures.behind (held c.args.edges.now))

pub returns-in-Join-clause-accepts : goal.returns-in-Join-clause-accepts
returns-in-Join-clause-accepts g c = rw c.in-Join.is (c.join.ensures.accepts (held c.args.edges.now))

pub returns-in-Join-clause-ends : goal.returns-in-Join-clause-ends
returns-in-Join-clause-ends g c = c.join.ensures.ends (held c.args.edges.now)
