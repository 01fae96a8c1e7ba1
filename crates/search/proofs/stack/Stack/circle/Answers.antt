use Rattle.std.proofs.Common.{rules, ◌≡◌, length}
use Rattle.std.proofs.lemmas.List.{length-map, get_or_past}
use Rattle.search.specs.Stacks.{steps}
use Rattle.search.proofs.Rounds.{made_steps, step_at}
use Rattle.search.proofs.stack.Stack.circle.Goals as goal

pub returns : goal.returns
returns c =
    let s = c.args.self.now in
    let count : c.len.result ≡ length (steps s) = search (rules, length-map) in
    let made = made_steps (steps s) (λ k r q m. (search (rules, step_at, get_or_past, length-map), search rules))
    c.from_fn.ensures.items in
    λ i. record { count = count i; steps = made i }
