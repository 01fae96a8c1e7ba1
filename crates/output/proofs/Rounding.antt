-- What rounding makes of a fraction: all that the proof of `odds` knows about it.
-- Assumes nothing.
use Rattle.std.proofs.Common.{◌≡◌, ℕ, ◌*◌, ◌<◌, ◌≤◌, mul_comm, arith}
use native.Mathlib.Nat.{div-eq_of_lt, div-le_of_le-mul}
use Rattle.output.specs.Odds.{rounded}

-- less than a half
pub rounded_none : (a b : ℕ) → 2 * a < b → rounded a b ≡ 0
unfolding rounded
rounded_none a b h = div-eq_of_lt (omega arith)

pub rounded_most : (a b c : ℕ) → a ≤ c * b → rounded a b ≤ c
unfolding rounded
rounded_most a b c h = div-le_of_le-mul b (rw (mul_comm b c) h)
