-- What every row keeps: its locks are tidy.
-- Assumes nothing.
use Rattle.std.proofs.Common.{◌≡◌, ℕ, zero, suc, ◌≤◌, true, false, List, length, set, replicate, refl, inl, inr}
use Rattle.std.proofs.lemmas.Bool.{cases_lt, cases_eq}
use Rattle.std.proofs.lemmas.List.{get_or-set_same, get_or-set_other, set_past}
use Rattle.rules.specs.Rows.{ThreadRow, unborn_row, fresh_rows, row_at, holds, took, gave_up}
use Rattle.ledger.specs.Rows.{tidy}
use Rattle.ledger.proofs.Locks.{tidy_push, tidy_kept, tidy_count}

abbrev pub Kept : List ThreadRow → Type 0
Kept rows = (v : ℕ) → tidy (row_at rows v).locks ≡ true

pub counted : (rows : List ThreadRow) → Kept rows → (v : ℕ) → length (row_at rows v).locks ≤ 64
counted rows kept v = tidy_count (row_at rows v).locks (kept v)

unborn_kept : (n v : ℕ) → tidy (row_at (replicate n unborn_row) v).locks ≡ true
unborn_kept zero v = refl
unborn_kept (suc n) zero = refl
unborn_kept (suc n) (suc v) = unborn_kept n v

pub fresh_kept : Kept fresh_rows
fresh_kept zero = refl
fresh_kept (suc v) = unborn_kept 63 v

pub set_kept : (rows : List ThreadRow) (v : ℕ) (r : ThreadRow) → tidy r.locks ≡ true → Kept rows → Kept (set rows v r)
set_kept rows v r new was w =
    elim (cases_lt v (length rows)) [
      | inl low ↦ elim (cases_eq w v) [
        | inl e ↦ rw (e, get_or-set_same rows v r unborn_row low) new
        | inr ne ↦ rw (get_or-set_other rows v w r unborn_row ne) (was w)
      ]
      | inr high ↦ rw (set_past rows v r high) (was w)
    ]

pub took_kept : (rows : List ThreadRow) (t o : ℕ) → o ≤ 63 → holds (row_at rows t) o ≡ false → Kept rows → Kept (took rows t o)
took_kept rows t o low new was = set_kept rows t _ (tidy_push (row_at rows t).locks o (was t) new low) was

pub gave_up_kept : (rows : List ThreadRow) (t o : ℕ) → Kept rows → Kept (gave_up rows t o)
gave_up_kept rows t o was = set_kept rows t _ (tidy_kept _ (row_at rows t).locks (was t)) was
