use Rattle.std.proofs.Common.{rules, max, get_or, arith}
use Rattle.std.proofs.lemmas.List.{get_or_past}
use Rattle.order.proofs.Made.{made_at}
use Rattle.order.proofs.clock.Clock.merge.Goals as goal

pub returns-clause-seen : goal.returns-clause-seen
returns-clause-seen c =
    let a = c.args.self.now.seen in
    let b = c.args.other.now.seen in
    made_at (λ k. max (get_or a k 0) (get_or b k 0)) (λ k r q m. (search rules, search rules)) c.from_fn.ensures.items
    (λ k l. rw (get_or_past a k 0 (omega arith), get_or_past b k 0 (omega arith)))
