use Rattle.std.proofs.Common.{◌-◌, ◌≤◌, eqb, length, get_or, ap, ◌∙◌, arith}
use Rattle.search.specs.Levels.{blank_level}
use Rattle.search.specs.Stacks.{stacked}
use Rattle.search.proofs.Rounds.{closed_by}
use Rattle.search.proofs.stack.Stack.closes.Goals as goal

pub returns-in-len2-up : goal.returns-in-len2-up
returns-in-len2-up c =
    let s = c.args.self.now in
    let is = c.as_slice.ensures.value in
    let many : 2 ≤ length (stacked s) = omega (arith, c.in-len2-up.len_at_least, ap length is) in
    ap (λ ls. eqb (get_or ls (length ls - 1) blank_level).edge.wanted (get_or ls 0 blank_level).edge.held) is ∙ closed_by (stacked s) many
