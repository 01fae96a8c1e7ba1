use Rattle.std.proofs.Common.{◌≡◌, drop}
use Rattle.sorted_list.specs.Laws.{filled}
use Rattle.sorted_list.specs.Lists.{held}
use Rattle.sorted_list_tests.proofs.fill.fill.Given as goal

-- the records that are left make of the list what all of them make of it
abbrev pub invariant-loop-record : goal.invariant-loop-record
invariant-loop-record g l =
    let rank = g.R.Record.rank in
    (filled rank (held l.list) (drop l.record-index l.records) ≡ filled rank (held l.initial.list) l.records)
    × (l.list.places.ghost_name ≡ l.initial.list.places.ghost_name)
