-- Feeding a file: the events that are taken from its lines, and the fault of its first bad line.
-- Assumes nothing.
use Rattle.std.specs.Prelude.{◌≡◌, ℕ, ◌+◌, ◌<◌, ◌≤◌, cond, ◌⊎◌, ◌↔◌, List, [], ◌∷◌, ◌++◌, length, Ok, Err, Result, nat_le}
use Rattle.rows.specs.declared.event.Event.{Event}
use Rattle.text.specs.declared.fault.LineFault.{LineFault}
use Rattle.text.specs.declared.fault.TextCause.TheVariants.{Size}
use Rattle.text.specs.Lines.{reading}
use Rattle.rules.specs.declared.cause.EventCause.{EventCause}
use Rattle.rules.specs.States.{State, answer, after, after_all}
use Rattle.feed.specs.declared.fault.Fault.{Fault}
use Rattle.feeding.specs.declared.fault.Stop.{Stop}
use Rattle.feed.specs.Files.{file_of, AllSayable}
use Rattle.feed.specs.Lines.{first_of, lines}
use Rattle.feeding.specs.Stops.{text_stop, event_stop, at_line, line_answer}

-- ---- the lines one after another, up to the first fault, where n lines were taken before

-- How many lines are taken in all, unless one is at fault.
abbrev pub fed : ℕ → State → ℕ → List (List ℕ) → Result ℕ Fault
fed limit s n [] = Ok n
fed limit s n (l ∷ ls) =
    elim (line_answer limit s l) [ Ok e ↦ fed limit (after limit s e) (n + 1) ls | Err stop ↦ Err (at_line (n + 1) stop) ]

-- The events of the lines before the fault.
abbrev pub taken : ℕ → State → List (List ℕ) → List Event
taken limit s [] = []
taken limit s (l ∷ ls) = elim (line_answer limit s l) [ Ok e ↦ e ∷ taken limit (after limit s e) ls | Err stop ↦ [] ]

-- ---- a whole file, of at most 60,000 bytes; that is tested first

abbrev pub too_long : Fault
too_long = at_line 0 (text_stop (record { column = 0; cause = Size }))

abbrev pub file_answer : ℕ → State → List ℕ → Result ℕ Fault
file_answer limit s file = cond (nat_le (length file) 60000) (fed limit s 0 (lines file)) (Err too_long)

abbrev pub events_taken : ℕ → State → List ℕ → List Event
events_taken limit s file = cond (nat_le (length file) 60000) (taken limit s (lines file)) []

abbrev pub after_file : ℕ → State → List ℕ → State
after_file limit s file = after_all limit s (events_taken limit s file)

-- ---- the same in words

-- Each event is accepted in its turn.
abbrev pub AllAccepted : ℕ → State → List Event → Type 0
AllAccepted limit s [] = Unit {0}
AllAccepted limit s (e ∷ es) = (answer limit s e ≡ Ok tt) × AllAccepted limit (after limit s e) es

-- The file says these events and nothing else, and each is accepted in its turn.
pub record Says (limit : ℕ) (s : State) (file : List ℕ) (es : List Event) : Type 0 where
  pub short : length file ≤ 60000
  pub sayable : AllSayable es
  pub accepted : AllAccepted limit s es
  pub text : (file ≡ file_of es) ⊎ (file ++ (10 ∷ []) ≡ file_of es)

-- The file is turned down as a whole.
abbrev pub TooLong : List ℕ → Fault → Type 0
TooLong file f = (60000 < length file) × (f ≡ too_long)

-- The line is no event's text, or its event is turned down.
abbrev pub Bad : ℕ → State → List ℕ → Stop → Type 0
Bad limit s l stop =
    ((f : LineFault) × (reading l ≡ Err f) × (stop ≡ text_stop f))
    ⊎ ((e : Event) × (c : EventCause) × (reading l ≡ Ok e) × (answer limit s e ≡ Err c) × (stop ≡ event_stop c))

-- The lines before the fault are texts of events that are accepted in their turn and stay taken, and the next line is at fault.
pub record FirstFault (limit : ℕ) (s : State) (file : List ℕ) (f : Fault) : Type 0 where
  pub short : length file ≤ 60000
  pub before : List Event
  pub rest : List ℕ
  pub sayable : AllSayable before
  pub accepted : AllAccepted limit s before
  pub split : file ≡ file_of before ++ rest
  pub next : 0 < length rest
  pub stop : Stop
  pub bad : Bad limit (after_all limit s before) (first_of rest) stop
  pub is : f ≡ at_line (length before + 1) stop
  pub stays : events_taken limit s file ≡ before

-- What the answer r of feeding a file says.
pub record Feeds (limit : ℕ) (s : State) (file : List ℕ) (r : Result ℕ Fault) : Type 0 where
  -- n lines are taken exactly when the file says n events that are accepted in their turn, and then these are taken
  pub says : (n : ℕ) → (r ≡ Ok n) ↔ ((es : List Event) × Says limit s file es × (length es ≡ n))
  pub takes : (es : List Event) → Says limit s file es → events_taken limit s file ≡ es
  -- a fault is that of the whole file, or of its first bad line
  pub stops : (f : Fault) → r ≡ Err f → TooLong file f ⊎ FirstFault limit s file f
