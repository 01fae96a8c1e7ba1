use Rattle.std.proofs.Common.{replicate, ap, ◌∙◌, rules}
use Rattle.sorted_list.proofs.Places.{filled_same}
use Rattle.sorted_list.proofs.list.steps.blank_all.Goals as goal

pub returns : goal.returns
returns g c =
    let blank = g.R.Record.vacant in
    let all = filled_same _ _ blank (λ y f k. search rules) _ _ c.fill_with.ensures.ran.1 in
    all ∙ ap (λ n. replicate n blank) c.fill_with.ensures.len
