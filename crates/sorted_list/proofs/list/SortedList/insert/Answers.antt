use Rattle.std.proofs.Common.{◌≡◌, ◌+◌, arith, rules}
use Rattle.std.specs.List.{copy_within}
use Rattle.sorted_list.proofs.Walks.{put_ascends}
use Rattle.sorted_list.proofs.list.SortedList.insert.Goals as goal

pub invariant_of-self-clause-ascends : goal.invariant_of-self-clause-ascends
invariant_of-self-clause-ascends g c =
    let was = c.args.self.now in
    let m = was.places.now in
    let i = c.args.place in
    let moved : c.copy_within.new.self ≡ copy_within m i was.count (i + 1) = search rules in
    put_ascends g.R.Record.rank g.met.R.Record.order _ m was.count i c.args.new moved was.ascends c.requires.place c.requires.room _
    (omega arith)
