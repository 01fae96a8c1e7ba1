use Rattle.std.proofs.Common.{◌≡◌, ◌<◌, ◌≤◌, take, rules}
use Rattle.text.proofs.Numerals.{run_is_utf8, run_parses}
use Rattle.text.proofs.number.number.Goals as goal

pub returns-in_err-ok-in-len1 : goal.returns-in_err-ok-in-len1
returns-in_err-ok-in-len1 c =
    let text = run_is_utf8 c.args.bytes.now c.digit_run.result c.digit_run.ensures.value in
    absurd (search rules)

pub returns-in_err-ok-in-len1-2 : goal.returns-in_err-ok-in-len1-2
returns-in_err-ok-in-len1-2 c =
    let short : (0 < c.digit_run.result) × (c.digit_run.result ≤ 3) = search rules in
    let text : c.in_ok-ok-in-len1.field-0.now ≡ take c.digit_run.result c.args.bytes.now = search rules in
    let parsed = run_parses c.args.bytes.now c.digit_run.result c.digit_run.ensures.value c.parse.result (rw text at c.parse.ensures.value.0) short.0 short.1 in
    absurd (search rules)
