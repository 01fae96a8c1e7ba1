use Rattle.std.proofs.Common.{not, eqb, ◌&&◌, sym, ap, ◌∙◌, rules, tests}
use Rattle.std.proofs.lemmas.Iterator.{YieldsList-from_slice}
use Rattle.std.proofs.lemmas.Iterator.Search.{all_from_yields_List}
use Rattle.rows.specs.Circles.{apart}
use Rattle.rows.proofs.closing.+threads_differ.Goals as goal

pub returns-then-all : goal.returns-then-all
returns-then-all t c =
    let first = c.in-Some.first.now in
    let behind = all_from_yields_List (λ z. not (eqb first.thread z.thread)) _ _ c.all.result c.all.ensures.ran (YieldsList-from_slice _ c.iter.ensures.rest) (λ x b q k. search (rules, tests)) in
    c.threads_differ.ensures ∙ ap (λ b. b && apart c.in-Some.rest.now) (sym c.if-all.true ∙ behind) ∙ sym (ap apart c.in-Some.ensures.cases.0)
