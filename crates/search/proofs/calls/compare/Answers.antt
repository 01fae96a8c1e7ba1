use Rattle.std.proofs.Common.{◌≡◌, Decides, sym, ◌∙◌}
use Rattle.sorted_list.specs.Lists.{held}
use Rattle.search.specs.Promises.{IsReport, BothAnswered}
use Rattle.search.proofs.Promises.{same_tells, same_work}
use Rattle.search.proofs.calls.compare.Goals as goal

pub returns-clause-stops : goal.returns-clause-stops
returns-clause-stops g c =
    let old = c.report-old.ensures in
    let new = c.report-new.ensures in
    let was : IsReport _ _ _ _ c.report-old.result (held c.report-old.new.circles) =
    record { answers = old.answers; holds = old.holds } in
    let is : IsReport _ _ _ _ c.report-new.result (held c.report-new.new.circles) =
    record { answers = new.answers; holds = new.holds } in
    let d = c.agree-same.ensures in
    let same : Decides c.agree-same.result (BothAnswered c.report-old.result c.report-new.result
    × ((held c.report-old.new.circles).records ≡ (held c.report-new.new.circles).records)) = (
      (λ i. ((d.0 i).0, sym c.records.ensures ∙ (d.0 i).1 ∙ c.records-2.ensures)),
      (λ q. d.1 (q.0, c.records.ensures ∙ q.1 ∙ sym c.records-2.ensures)),
    ) in
    same_tells was is c.agree-same.result same

pub returns-clause-alike : goal.returns-clause-alike
returns-clause-alike g c =
    let old = c.report-old.ensures in
    let new = c.report-new.ensures in
    let was : IsReport _ _ _ _ c.report-old.result (held c.report-old.new.circles) =
    record { answers = old.answers; holds = old.holds } in
    let is : IsReport _ _ _ _ c.report-new.result (held c.report-new.new.circles) =
    record { answers = new.answers; holds = new.holds } in
    same_work was is
