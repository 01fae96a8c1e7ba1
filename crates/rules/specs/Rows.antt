-- The rows that a ledger keeps, one for each of the threads 0 to 63.
-- Assumes nothing.
use Rattle.std.specs.Prelude.{ℕ, ◌+◌, Bool, true, false, not, ◌||◌, List, [], ◌∷◌, ◌++◌, replicate, filter, ◌==◌, slice_index_or, slice_set}
use Rattle.recording.specs.Ledger.{Life, unborn, live, joined}

-- What is kept of one thread: its state, its segment and the locks that it holds, in the order in which it took them.
pub record ThreadRow : Type 0 where
  pub state : Life
  pub segment : ℕ
  pub locks : List ℕ

abbrev pub unborn_row : ThreadRow
unborn_row = record { state = unborn; segment = 0; locks = [] }

-- Thread 0 is live in segment 0, every other thread is unborn, and no lock is held.
abbrev pub fresh_rows : List ThreadRow
fresh_rows = record { state = live; segment = 0; locks = [] } ∷ replicate 63 unborn_row

abbrev pub row_at : List ThreadRow → ℕ → ThreadRow
row_at rows v = slice_index_or rows v unborn_row

-- ---- questions

abbrev pub is_live : ThreadRow → Bool
is_live r = elim r.state [ unborn ↦ false | live ↦ true | joined ↦ false ]

abbrev pub is_unborn : ThreadRow → Bool
is_unborn r = elim r.state [ unborn ↦ true | live ↦ false | joined ↦ false ]

-- The lock is one of the locks.
abbrev pub has : List ℕ → ℕ → Bool
has [] l = false
has (x ∷ xs) l = x == l || has xs l

abbrev pub holds : ThreadRow → ℕ → Bool
holds r l = has r.locks l

-- Some thread holds the lock.
abbrev pub held_by_some : List ThreadRow → ℕ → Bool
held_by_some [] l = false
held_by_some (r ∷ rows) l = holds r l || held_by_some rows l

-- ---- changes of one row

abbrev pub with_locks : List ℕ → ThreadRow → ThreadRow
with_locks locks r = record { state = r.state; segment = r.segment; locks = locks }

-- A lock that is taken comes last; one that is given up leaves the others in their order.
abbrev pub taken : ℕ → List ℕ → List ℕ
taken l locks = locks ++ (l ∷ [])

abbrev pub given_up : ℕ → List ℕ → List ℕ
given_up l locks = filter (λ x. not (x == l)) locks

abbrev pub in_segment : ℕ → ThreadRow → ThreadRow
in_segment n r = record { state = r.state; segment = n; locks = r.locks }

abbrev pub in_state : Life → ThreadRow → ThreadRow
in_state s r = record { state = s; segment = r.segment; locks = r.locks }

-- ---- changes of the rows, where the next free segment is n

abbrev pub took : List ThreadRow → ℕ → ℕ → List ThreadRow
took rows t o = slice_set rows t (with_locks (taken o (row_at rows t).locks) (row_at rows t))

abbrev pub gave_up : List ThreadRow → ℕ → ℕ → List ThreadRow
gave_up rows t o = slice_set rows t (with_locks (given_up o (row_at rows t).locks) (row_at rows t))

-- t goes on in n, and u is live and begins in n + 1.
abbrev pub started : List ThreadRow → ℕ → ℕ → ℕ → List ThreadRow
started rows t u n =
    slice_set (slice_set rows t (in_segment n (row_at rows t))) u (in_state live (in_segment (n + 1) (row_at rows u)))

-- t goes on in n, and u is joined.
abbrev pub waited : List ThreadRow → ℕ → ℕ → ℕ → List ThreadRow
waited rows t u n = slice_set (slice_set rows t (in_segment n (row_at rows t))) u (in_state joined (row_at rows u))
