-- The whole job: from the bytes of a file to the circles in which its recording can stop.
-- Assumes nothing.
use Rattle.std.specs.Prelude.{◌≡◌, ℕ, ◌⊎◌, List, length, Ok, Err, Result}
use Rattle.sorted_list.specs.Lists.{Held}
use Rattle.rows.specs.declared.event.Event.{Event}
use Rattle.rows.specs.declared.row.CircleRow.{CircleRow}
use Rattle.recording.specs.Recording.{none, followed, SameThreads}
use Rattle.recording.specs.Replies.{reply, reported}
use Rattle.recording.specs.declared.answer.Answer.{Answer}
use Rattle.recording.specs.declared.cause.SearchCause.{SearchCause}
use Rattle.rules.specs.States.{State, fresh_state}
use Rattle.feeding.specs.Files.{file_answer, after_file, Says, TooLong, FirstFault}
use Rattle.feed.specs.Causes.{search_fault}
use Rattle.feed.specs.declared.fault.Fault.{Fault}
use Rattle.search.specs.Promises.{ListsStops}

-- Rows, edge list and order once the file was fed to a fresh ledger with places for so many edges. The limit is the order's ceiling.
abbrev pub fed_state : ℕ → ℕ → List ℕ → State
fed_state limit places file = after_file limit (fresh_state places) file

-- A refusal of the report is a fault without a line.
abbrev pub of_report : Result Answer SearchCause → Result Answer Fault
of_report (Ok a) = Ok a
of_report (Err c) = Err (search_fault c)

-- A report is made only where the file has no fault.
abbrev pub if_fed : Result ℕ Fault → Result Answer Fault → Result Answer Fault
if_fed (Ok n) r = r
if_fed (Err f) r = Err f

abbrev pub checked : ℕ → ℕ → List ℕ → ℕ → ℕ → Result Answer Fault
checked limit places file budget room =
    let s = fed_state limit places file in
    if_fed (file_answer limit (fresh_state places) file) (of_report (reply s.edges.records s.order.before budget room))

-- What the circle list holds: what a report leaves, or what it held where the file has a fault.
abbrev pub circles_left : Result ℕ Fault → Held CircleRow → Held CircleRow → Held CircleRow
circles_left (Ok n) new old = new
circles_left (Err f) new old = old

abbrev pub circles_after : ℕ → ℕ → List ℕ → ℕ → ℕ → Held CircleRow → Held CircleRow
circles_after limit places file budget room old =
    let s = fed_state limit places file in
    circles_left (file_answer limit (fresh_state places) file) (reported s.edges.records s.order.before budget room) old

-- ---- the same in words

-- What the answer r says of the file, where `found` are the circles in the list afterwards.
pub record Tells (limit places : ℕ) (file : List ℕ) (r : Result Answer Fault) (found : List CircleRow) : Type 0 where
  -- an answer means that the file says events, each accepted in its turn, and that the circles are exactly those in which the
  -- recording of these events can stop
  pub answers : (a : Answer) → r ≡ Ok a
      → (es : List Event) × Says limit (fresh_state places) file es × ListsStops (followed none es) found × (a.circles ≡ length found)
  -- a fault is that of the whole file, or of its first bad line, or the report over a file without fault is refused
  pub faults : (f : Fault) → r ≡ Err f
      → (TooLong file f ⊎ FirstFault limit (fresh_state places) file f)
      ⊎ ((es : List Event) × Says limit (fresh_state places) file es × (c : SearchCause) × (f ≡ search_fault c))

-- Where the recordings of two files without fault have the same threads, doing the same in the same order, the answers are the same.
abbrev pub SameThreadsChecked : ℕ → ℕ → ℕ → ℕ → List ℕ → Result Answer Fault → Type 0
SameThreadsChecked limit places budget room file r =
    (other : List ℕ) (es others : List Event) → Says limit (fresh_state places) file es → Says limit (fresh_state places) other others
    → SameThreads (followed none es) (followed none others) → r ≡ checked limit places other budget room
