use Rattle.std.proofs.Common.{rules, length}
use Rattle.sorted_list.specs.Lists.{held}
use Rattle.file_check.proofs.Checked.{tells, alike}
use Rattle.file_check.proofs.job.check_file.Goals as goal

pub returns-in_err-feed-clause-answers : goal.returns-in_err-feed-clause-answers
returns-in_err-feed-clause-answers g c = search rules

pub returns-in_err-feed-clause-alike : goal.returns-in_err-feed-clause-alike
returns-in_err-feed-clause-alike g c =
    alike g.O.SegmentOrder.limit (length c.args.edges.now.places.now) c.args.file.now c.args.budget
    (length c.args.circles.now.places.now) (returns-in_err-feed-clause-answers g c)

pub returns-clause-answers : goal.returns-clause-answers
returns-clause-answers g c = search rules

pub returns-clause-holds : goal.returns-clause-holds
returns-clause-holds g c = search rules

pub returns-clause-stops : goal.returns-clause-stops
returns-clause-stops g c =
    tells g.O.SegmentOrder.limit (length c.args.edges.now.places.now) c.args.file.now c.args.budget
    (length c.args.circles.now.places.now) (held c.args.circles.now) (returns-clause-answers g c) (returns-clause-holds g c)

pub returns-clause-alike : goal.returns-clause-alike
returns-clause-alike g c =
    alike g.O.SegmentOrder.limit (length c.args.edges.now.places.now) c.args.file.now c.args.budget
    (length c.args.circles.now.places.now) (returns-clause-answers g c)
