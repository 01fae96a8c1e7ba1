-- What each event call answers, and what it makes of the rows, the edge list and the order. Checks run in the order of
-- their numbers, and a refused event changes nothing.
-- Assumes nothing.
use Rattle.std.specs.Prelude.{ℕ, Bool, cond, not, ◌||◌, List, Ok, Err, Result, ◌==◌, nat_lt}
use Rattle.sorted_list.specs.Lists.{Held}
use Rattle.order.specs.declared.cause.OrderCause.{OrderCause}
use Rattle.order.specs.Meaning.{Meaning, forked, met, fork_answer, meet_answer}
use Rattle.rows.specs.declared.edge.Edge.{Edge}
use Rattle.rules.specs.declared.cause.LedgerCause.{LedgerCause}
use Rattle.rules.specs.declared.cause.LedgerCause.TheVariants.{Number, NotLive, Holding, Taken, NotHeld, NotUnborn, NotStarted, Edges}
use Rattle.rules.specs.declared.cause.EventCause.{EventCause}
use Rattle.rules.specs.declared.cause.EventCause.TheVariants.{Ledger, Order}
use Rattle.rules.specs.Drawing.{edges_from, crowded, drawn_into}
use Rattle.rules.specs.Rows.{ThreadRow, row_at, is_live, is_unborn, holds, held_by_some, took, gave_up, started, waited}

abbrev pub Answer : Type 0
Answer = Result (Unit {0}) EventCause

-- ---- checks

-- Refused for the cause where the test comes out true, else by what comes next.
abbrev pub refuse_if : Bool → LedgerCause → Result (Unit {0}) LedgerCause → Result (Unit {0}) LedgerCause
refuse_if test cause next = cond test (Err cause) next

-- The checks of every event: its numbers are at most 63, and its thread is live.
abbrev pub acting : List ThreadRow → ℕ → ℕ → Result (Unit {0}) LedgerCause → Result (Unit {0}) LedgerCause
acting rows t x next =
    refuse_if (nat_lt 63 t || nat_lt 63 x) Number
    (refuse_if (not (is_live (row_at rows t))) NotLive next)

abbrev pub lock_check : List ThreadRow → Held Edge → ℕ → ℕ → Result (Unit {0}) LedgerCause
lock_check rows edges t o =
    acting rows t o
    (refuse_if (holds (row_at rows t) o) Holding
    (refuse_if (held_by_some rows o) Taken
    (refuse_if (crowded edges (edges_from (row_at rows t) t o)) Edges
    (Ok tt))))

abbrev pub release_check : List ThreadRow → ℕ → ℕ → Result (Unit {0}) LedgerCause
release_check rows t o = acting rows t o (refuse_if (not (holds (row_at rows t) o)) NotHeld (Ok tt))

abbrev pub start_check : List ThreadRow → ℕ → ℕ → Result (Unit {0}) LedgerCause
start_check rows t u = acting rows t u (refuse_if (not (is_unborn (row_at rows u))) NotUnborn (Ok tt))

abbrev pub join_check : List ThreadRow → ℕ → ℕ → Result (Unit {0}) LedgerCause
join_check rows t u = acting rows t u (refuse_if (u == t || is_unborn (row_at rows u)) NotStarted (Ok tt))

-- ---- answers

abbrev pub by_ledger : Result (Unit {0}) LedgerCause → Answer
by_ledger (Ok x) = Ok tt
by_ledger (Err c) = Err (Ledger c)

abbrev pub by_order : Result ℕ OrderCause → Answer
by_order (Ok n) = Ok tt
by_order (Err c) = Err (Order c)

-- The order is asked only where the checks let the event through.
abbrev pub then_order : Result (Unit {0}) LedgerCause → Result ℕ OrderCause → Answer
then_order (Ok x) asked = by_order asked
then_order (Err c) asked = Err (Ledger c)

-- The new one where the event is accepted, the old one where it is refused.
abbrev pub unless_refused : {X : Type 0} → Answer → X → X → X
unless_refused (Ok x) new old = new
unless_refused (Err c) new old = old

-- ---- lock

abbrev pub lock_answer : List ThreadRow → Held Edge → ℕ → ℕ → Answer
lock_answer rows edges t o = by_ledger (lock_check rows edges t o)

abbrev pub lock_rows : List ThreadRow → Held Edge → ℕ → ℕ → List ThreadRow
lock_rows rows edges t o = unless_refused (lock_answer rows edges t o) (took rows t o) rows

abbrev pub lock_edges : List ThreadRow → Held Edge → ℕ → ℕ → Held Edge
lock_edges rows edges t o =
    unless_refused (lock_answer rows edges t o) (drawn_into edges (edges_from (row_at rows t) t o)) edges

-- ---- release

abbrev pub release_answer : List ThreadRow → ℕ → ℕ → Answer
release_answer rows t o = by_ledger (release_check rows t o)

abbrev pub release_rows : List ThreadRow → ℕ → ℕ → List ThreadRow
release_rows rows t o = unless_refused (release_answer rows t o) (gave_up rows t o) rows

-- ---- start, which forks the order at t's segment. The limit is the order's ceiling.

abbrev pub start_answer : ℕ → List ThreadRow → Meaning → ℕ → ℕ → Answer
start_answer limit rows m t u = then_order (start_check rows t u) (fork_answer limit m (row_at rows t).segment)

abbrev pub start_rows : ℕ → List ThreadRow → Meaning → ℕ → ℕ → List ThreadRow
start_rows limit rows m t u = unless_refused (start_answer limit rows m t u) (started rows t u m.segments) rows

abbrev pub start_order : ℕ → List ThreadRow → Meaning → ℕ → ℕ → Meaning
start_order limit rows m t u = unless_refused (start_answer limit rows m t u) (forked m (row_at rows t).segment) m

-- ---- join, in which t's segment meets u's

abbrev pub join_answer : ℕ → List ThreadRow → Meaning → ℕ → ℕ → Answer
join_answer limit rows m t u =
    then_order (join_check rows t u) (meet_answer limit m (row_at rows t).segment (row_at rows u).segment)

abbrev pub join_rows : ℕ → List ThreadRow → Meaning → ℕ → ℕ → List ThreadRow
join_rows limit rows m t u = unless_refused (join_answer limit rows m t u) (waited rows t u m.segments) rows

abbrev pub join_order : ℕ → List ThreadRow → Meaning → ℕ → ℕ → Meaning
join_order limit rows m t u =
    unless_refused (join_answer limit rows m t u) (met m (row_at rows t).segment (row_at rows u).segment) m
