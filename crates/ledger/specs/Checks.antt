-- What a check of an event answers.
-- Assumes nothing.
use Rattle.std.specs.Prelude.{◌≡◌, ℕ, Ok, Err, Result, MatchResult}
use Rattle.rules.specs.declared.cause.LedgerCause.{LedgerCause}

-- What the rules say of the event, at its two numbers: those where it passes, and else the cause.
abbrev pub Passes : Result (Unit {0}) LedgerCause → ℕ → ℕ → Result (ℕ × ℕ) LedgerCause → Type 0
Passes says t x r = MatchResult r (λ p. (says ≡ Ok tt) × (p.0 ≡ t) × (p.1 ≡ x)) (λ cause. says ≡ Err cause)
