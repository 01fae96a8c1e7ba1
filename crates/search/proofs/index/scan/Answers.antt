use Rattle.std.proofs.Common.{◌≡◌, true, false, get_or, rules}
use borrow.Author.Tests.{tests}
use Rattle.std.proofs.lemmas.Iterator.{first_from_Range}
use Rattle.search.specs.Indexes.{holding}
use Rattle.search.proofs.Blocks.{zero_edge, found_before}
use Rattle.search.proofs.index.scan.Goals as goal

pub returns : goal.returns
returns c =
    let rows = c.args.rows.now in
    let lock = c.args.lock in
    found_before (holding lock) rows c.args.from c.args.«end» c.requires.1 c.find.result
    (first_from_Range _ _ _ c.find.result (λ x. holding lock (get_or rows x zero_edge) ≡ true)
    (λ x. holding lock (get_or rows x zero_edge) ≡ false) c.find.ensures.ran (λ x q k. search (rules, tests)) (λ x q k. search (rules, tests)))
