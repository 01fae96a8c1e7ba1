use Rattle.std.proofs.Common.{◌≡◌, replicate, rules}
use Rattle.std.proofs.lemmas.List.FromFn.{fill_by_all}
use Rattle.rules.specs.Rows.{unborn_row}
use Rattle.ledger.proofs.table.Table.fresh.Goals as goal

pub returns : goal.returns
returns c =
    let made = c.from_fn-rows.ensures.items in
    let blank : c.from_fn-rows.result ≡ replicate 64 unborn_row =
    fill_by_all (λ _. unborn_row) c.from_fn-rows.result 64 unborn_row made.long
    (λ i low. let called = (made.at i unborn_row low).2 in search rules)
    in rw blank (search rules)
