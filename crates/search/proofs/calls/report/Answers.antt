use Rattle.std.proofs.Common.{length, ap, ◌∙◌}
use Rattle.sorted_list.specs.Lists.{held}
use Rattle.recording.specs.Replies.{reply, reported}
use Rattle.search.specs.Promises.{IsReport}
use Rattle.search.proofs.Promises.{promised}
use Rattle.search.proofs.calls.report.Goals as goal

pub returns-clause-stops : goal.returns-clause-stops
returns-clause-stops g c =
    let order = g.O.SegmentOrder.meaning c.args.order.now in
    let n = length c.args.circles.now.places.now in
    let found = c.report_rows.ensures in
    let is : IsReport (held c.args.edges.now) order c.args.budget n c.report_rows.result (held c.report_rows.new.circles) =
    record {
      answers = found.answers ∙ ap (λ rows. reply rows order.before c.args.budget n) c.records.ensures;
      holds = found.holds ∙ ap (λ rows. reported rows order.before c.args.budget n) c.records.ensures;
    } in
    promised is
