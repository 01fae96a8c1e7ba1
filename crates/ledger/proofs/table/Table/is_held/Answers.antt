use Rattle.std.proofs.Common.{◌||◌, refl, ◌∙◌, rules, tests}
use Rattle.std.specs.List.{list_any}
use Rattle.std.proofs.lemmas.List.Recursion.{same_from_clauses}
use Rattle.std.proofs.lemmas.Iterator.{YieldsList-from_slice}
use Rattle.std.proofs.lemmas.Iterator.Search.{any_from_yields_List}
use Rattle.rules.specs.Rows.{ThreadRow, holds, held_by_some}
use Rattle.ledger.specs.Tables.{table_rows}
use Rattle.ledger.proofs.table.Table.is_held.Goals as goal

pub returns : goal.returns
returns c =
    let rows = table_rows c.args.self.now in
    let holds_it = λ (r : ThreadRow). holds r c.args.o in
    any_from_yields_List holds_it _ _ c.any.result c.any.ensures.ran (YieldsList-from_slice rows cc)
    (λ x b q k. search (rules, tests))
    ∙ same_from_clauses (list_any holds_it) (λ rs. held_by_some rs c.args.o) (λ r b. holds_it r || b) refl (λ _ _. refl) (λ _ _. refl) rows
