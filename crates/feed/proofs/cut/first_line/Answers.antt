use Rattle.std.proofs.Common.{rules, ◌+◌, ◌∙◌}
use borrow.Author.Tests.{tests}
use Rattle.std.proofs.lemmas.List.{take_rest}
use Rattle.std.proofs.lemmas.Iterator.{YieldsList-from_slice}
use Rattle.std.proofs.lemmas.Iterator.Search.{position_from_yields_List}
use Rattle.feed.proofs.Splitting.{ends_line, found_first, found_none}
use Rattle.feed.proofs.cut.first_line.Goals as goal

pub returns-in-Some : goal.returns-in-Some
returns-in-Some c =
    let is = found_first c.args.bytes.now c.in-Some.end (position_from_yields_List ends_line _ _ _ c.in-Some.ensures.ran
    (YieldsList-from_slice c.args.bytes.now cc) (λ x b q k. search (rules, tests))) in
    record { line = is.0; later = take_rest c.args.bytes.now (c.in-Some.end + 1) ∙ is.1 }

pub returns-in-None : goal.returns-in-None
returns-in-None c =
    let is = found_none c.args.bytes.now (position_from_yields_List ends_line _ _ _ c.in-None.ensures.ran
    (YieldsList-from_slice c.args.bytes.now cc) (λ x b q k. search (rules, tests))) in
    record { line = is.0; later = is.1 }
