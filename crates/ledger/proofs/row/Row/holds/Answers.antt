use Rattle.std.proofs.Common.{ℕ, ◌||◌, eqb, refl, ap, ◌∙◌, rules, tests}
use Rattle.std.specs.List.{list_any}
use Rattle.std.proofs.lemmas.List.Recursion.{same_from_clauses}
use Rattle.std.proofs.lemmas.Iterator.{YieldsList-from_slice}
use Rattle.std.proofs.lemmas.Iterator.Search.{any_from_yields_List}
use Rattle.rules.specs.Rows.{ThreadRow, has}
use Rattle.ledger.proofs.row.Row.holds.Goals as goal

pub returns : goal.returns
returns c =
    let locks = c.self.inside.locks.items in
    let is_it = λ (x : ℕ). eqb x c.args.lock in
    any_from_yields_List is_it _ _ c.any.result c.any.ensures.ran (YieldsList-from_slice locks cc)
    (λ x b q k. search (rules, tests))
    ∙ same_from_clauses (list_any is_it) (λ ls. has ls c.args.lock) (λ x b. is_it x || b) refl (λ _ _. refl) (λ _ _. refl) locks
    ∙ ap (λ (r : ThreadRow). has r.locks c.args.lock) c.self.view_is
