use Rattle.std.proofs.Common.{◌≤◌, ap, ◌∙◌, arith, rules}
use Rattle.rules.specs.Rows.{ThreadRow, has}
use Rattle.ledger.proofs.Locks.{tidy_few, tidy_push}
use Rattle.ledger.proofs.row.Row.push.Goals as goal

pub push-requires : goal.push-requires
push-requires c =
    let low : c.args.lock ≤ 63 = omega arith in
    let new = ap (λ (r : ThreadRow). has r.locks c.args.lock) c.self.view_is ∙ c.requires in
    (search rules, tidy_few _ c.args.lock c.self.invariant new low)

pub invariant_of-self : goal.invariant_of-self
invariant_of-self c =
    let low : c.args.lock ≤ 63 = omega arith in
    let new = ap (λ (r : ThreadRow). has r.locks c.args.lock) c.self.view_is ∙ c.requires in
    rw c.push.ensures.items (tidy_push _ c.args.lock c.self.invariant new low)
