-- What a ledger says of the threads, and what it answers to questions.
-- Assumes nothing.
use Rattle.std.specs.Prelude.{ℕ, Bool, cond, ◌&&◌, List, Some, None, Option, nat_le}
use Rattle.std.specs.List.{slice_get}
use Rattle.sorted_list.specs.Lists.{held}
use Rattle.sorted_list.specs.declared.list.SortedList.{SortedList}
use Rattle.order.specs.Meaning.{Meaning}
use Rattle.rows.specs.declared.edge.Edge.{Edge}
use Rattle.rows.specs.declared.life.Life.{Life}
use Rattle.rules.specs.Rows.{ThreadRow, row_at, holds}
use Rattle.rules.specs.States.{State, state}
use Rattle.ledger.specs.declared.ledger.Ledger.{Ledger}
use Rattle.ledger.specs.Rows.{state_code}
use Rattle.ledger.specs.Tables.{table_rows}

-- The rows of the threads 0 to 63.
abbrev pub rows_of : Ledger → List ThreadRow
rows_of l = table_rows l.table

-- A ledger with an edge list and an order.
abbrev pub state_with : {r : _} → Ledger → SortedList Edge r → Meaning → State
state_with l edges order = state (rows_of l) (held edges) order

-- ---- questions on thread v; above 63 there is none

abbrev pub of_thread : {X : Type 0} → ℕ → Option X → Option X
of_thread v x = cond (nat_le v 63) x None

abbrev pub life_of : List ThreadRow → ℕ → Option Life
life_of rows v = of_thread v (Some (state_code (row_at rows v).state))

abbrev pub segment_of : List ThreadRow → ℕ → Option ℕ
segment_of rows v = of_thread v (Some (row_at rows v).segment)

abbrev pub is_holding : List ThreadRow → ℕ → ℕ → Bool
is_holding rows v l = nat_le v 63 && holds (row_at rows v) l

-- The lock that it took i-th, counted from 0, of those that it holds.
abbrev pub held_at : List ThreadRow → ℕ → ℕ → Option ℕ
held_at rows v i = of_thread v (slice_get (row_at rows v).locks i)
