use Rattle.std.proofs.Common.{◌∙◌, rules, tests}
use Rattle.std.proofs.lemmas.Iterator.{YieldsList-from_slice, YieldsList-from_take, YieldsList-from_zip}
use Rattle.std.proofs.lemmas.Iterator.Adapters.{YieldsList-from_skip}
use Rattle.std.proofs.lemmas.Iterator.Consumers.{YieldsList-from_chain}
use Rattle.std.proofs.lemmas.Iterator.Search.{all_from_yields_List}
use Rattle.rows.proofs.Linking.{waits_for, closes_round}
use Rattle.rows.proofs.closing.closes_up.Goals as goal

pub returns : goal.returns
returns c =
    let steps = c.args.steps.now in
    all_from_yields_List waits_for c.all.new.self _ _ c.all.ensures.ran
    (YieldsList-from_zip (YieldsList-from_slice steps (cc))
    (YieldsList-from_chain (YieldsList-from_skip 1 (YieldsList-from_slice steps (cc)) (cc))
    (YieldsList-from_take 1 (YieldsList-from_slice steps (cc)) (cc)) (cc) (cc)))
    (λ x b q k. search (rules, tests))
    ∙ closes_round steps
