-- A result is of one kind only, and holds one value.
-- Assumes nothing.
use Rattle.std.proofs.Common.{◌≡◌, ℕ, Ok, Err, Result, arith}

module _ {A E : Type 0} where
  pub ok_or_err : {r : Result A E} {x : A} {f : E} → r ≡ Ok x → r ≡ Err f → ⊥
  ok_or_err e g = let z : ◌≡◌ {A = ℕ} 0 1 = cc in omega arith

  pub ok_same : {x y : A} → ◌≡◌ {A = Result A E} (Ok x) (Ok y) → x ≡ y
  ok_same e = cc

  pub err_same : {x y : E} → ◌≡◌ {A = Result A E} (Err x) (Err y) → x ≡ y
  err_same e = cc
