-- Arrows between numbers, and paths along them.
-- Assumes nothing.
use Rattle.std.specs.Prelude.{ℕ, List}
use mathlib.Core.List.{Memᴰ}

pub record Arrow : Type 0 where
  pub from : ℕ
  pub to : ℕ

abbrev pub arrow : ℕ → ℕ → Arrow
arrow x y = record { from = x; to = y }

-- A path of one or more arrows.
pub data Path⁺ (drawn : List Arrow) : ℕ → ℕ → Type 0 where
  one : {x y : ℕ} → Memᴰ (arrow x y) drawn → Path⁺ drawn x y
  more : {x y z : ℕ} → Memᴰ (arrow x y) drawn → Path⁺ drawn y z → Path⁺ drawn x z
