-- The odds k! / (n * k ^ k), in ten thousandths.
-- Assumes nothing.
use Rattle.std.specs.Prelude.{ℕ, zero, suc, ◌*◌, ◌/◌, ◌^◌, Bool, cond, ◌&&◌, Ok, Err, Result, nat_le}
use Rattle.output.specs.declared.cause.OutputCause.{OutputCause}
use Rattle.output.specs.declared.cause.OutputCause.TheVariants.{Odds}

abbrev pub factorial : ℕ → ℕ
factorial zero = 1
factorial (suc k) = suc k * factorial k

-- the numbers that have odds
abbrev pub in_range : ℕ → ℕ → Bool
in_range k n = (nat_le 2 k && nat_le k 64) && (nat_le 1 n && nat_le n 8)

-- rounded down
unfoldable pub rounded : ℕ → ℕ → ℕ
rounded above below = above / below

abbrev pub odds_of : ℕ → ℕ → Result ℕ OutputCause
odds_of k n = cond (in_range k n) (Ok (rounded (10000 * factorial k) (n * k ^ k))) (Err Odds)
