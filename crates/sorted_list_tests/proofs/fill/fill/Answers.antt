use Rattle.std.proofs.Common.{◌+◌, length, drop, sym, ap, ◌∙◌, rules}
use Rattle.std.proofs.lemmas.List.{at_drop_more, at_drop_all, take-append-drop}
use Rattle.sorted_list.specs.Laws.{filled}
use Rattle.sorted_list.specs.Lists.{held, memory, added}
use Rattle.sorted_list_tests.proofs.fill.fill.Goals as goal

pub loop-record-preserved : goal.loop-record-preserved
loop-record-preserved g c =
    let rank = g.R.Record.rank in
    let rs = c.args.records.now in
    let i = c.loop-record.record-index in
    let h = held c.loop-record.list in
    let item = c.record-item in
    let more = at_drop_more (filled rank h) rs i _ c.loop-record-test.true in
    let one = c.add.ensures.holds ∙ ap (added rank h) item.is in
    let inv = c.loop-record.invariant in
    (ap (λ k. filled rank k (drop (i + 1) rs)) one ∙ sym more ∙ inv.0, c.add.ensures.lent ∙ inv.1)

pub returns : goal.returns
returns g c =
    let rank = g.R.Record.rank in
    let rs = c.args.records.now in
    let list = c.loop-record.list in
    let end = at_drop_all (filled rank (held list)) rs c.loop-record.record-index c.loop-record-test.false in
    let all = sym end ∙ c.loop-record.invariant.0 ∙ ap (λ h. filled rank h rs) c.open-list.ensures.holds in
    let whole = sym (take-append-drop list.count list.places.now) ∙ ap memory all in
    let name = c.loop-record.invariant.1 ∙ c.open-list.ensures.lent in
    record { places = search rules; count = c.count.ensures ∙ ap (λ h. length h.records) all }
