use Rattle.std.proofs.Common.{◌≤◌, length, sym, ◌∙◌, inr, arith}
use Rattle.feed.proofs.Fed.{fed_events, fed_said, fed_stops}
use Rattle.feed.proofs.file.feed.Goals as goal

pub returns : goal.returns
returns c =
    let file = c.args.file.now in
    let short : length file ≤ 60000 = omega (arith, c.if-file-gt-LONGEST.false) in
    let is = c.feed_lines.ensures in
    record {
      value = is ∙ fed_events file short;
      said = λ n. (λ h. (fed_said file short n).0 (sym is ∙ h), λ s. is ∙ (fed_said file short n).1 s);
      stops = λ f h. inr (fed_stops file short f (sym is ∙ h));
    }
