-- The rows of all threads.
-- Assumes nothing.
use Rattle.std.specs.Prelude.{◌≡◌, ℕ, ◌≤◌, true, List, length, slice_set}
use Rattle.rules.specs.Rows.{ThreadRow, row_at}
use Rattle.ledger.specs.declared.table.Table.{Table}
use Rattle.ledger.specs.Rows.{tidy}

-- What the table says of the threads, from thread 0 on.
abbrev pub table_rows : Table → List ThreadRow
table_rows table = table.rows

-- In every row the locks are no more than there are places, and tidy.
abbrev pub Counted : Table → Type 0
Counted table = (v : ℕ) → length (row_at (table_rows table) v).locks ≤ 64

abbrev pub Tidy : Table → Type 0
Tidy table = (v : ℕ) → tidy (row_at (table_rows table) v).locks ≡ true

-- Row v alone is changed.
abbrev pub changed : (ThreadRow → ThreadRow) → ℕ → List ThreadRow → List ThreadRow
changed change v rows = slice_set rows v (change (row_at rows v))
