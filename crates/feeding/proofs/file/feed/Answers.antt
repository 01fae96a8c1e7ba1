use Rattle.std.proofs.Common.{rules}
use Rattle.feeding.proofs.Recorded.{fed_feeds, fed_behind, fed_open}
use Rattle.feeding.proofs.file.feed.Goals as goal

pub returns-clause-answers : goal.returns-clause-answers
returns-clause-answers g c = search rules

pub returns-clause-leaves : goal.returns-clause-leaves
returns-clause-leaves g c = search rules

pub returns-clause-feeds : goal.returns-clause-feeds
returns-clause-feeds g c = fed_feeds g.O.SegmentOrder.limit _ c.args.file.now (returns-clause-answers g c)

pub returns-clause-behind : goal.returns-clause-behind
returns-clause-behind g c = fed_behind g.O.SegmentOrder.limit _ c.args.file.now (returns-clause-leaves g c)

pub returns-clause-ends : goal.returns-clause-ends
returns-clause-ends g c = fed_open g.O.SegmentOrder.limit _ c.args.file.now (returns-clause-answers g c)
