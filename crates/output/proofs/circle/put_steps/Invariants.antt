use Rattle.std.proofs.Common.{◌≡◌, ◌+◌, ◌*◌, ◌≤◌, drop}
use Rattle.arrayvec.specs.ArrayString.{array_string_len}
use Rattle.output.specs.Texts.{all_stepped}
use Rattle.output.proofs.circle.put_steps.Given as goal

-- what is written and the steps that are left give the whole
abbrev pub invariant-loop-step : goal.invariant-loop-step
invariant-loop-step l =
    (all_stepped l.text.bytes (drop l.step-index l.steps) ≡ all_stepped l.initial.text.bytes l.steps)
    × (array_string_len l.text ≤ array_string_len l.initial.text + 15 * l.step-index)
