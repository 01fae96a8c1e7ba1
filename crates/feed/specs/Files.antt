-- The events that a file says, or the fault of its first bad line.
-- Assumes nothing.
use Rattle.std.specs.Prelude.{◌≡◌, ℕ, ◌+◌, ◌<◌, ◌≤◌, cond, ◌⊎◌, List, [], ◌∷◌, ◌++◌, length, Ok, Err, Result, nat_le}
use Rattle.rows.specs.declared.event.Event.{Event}
use Rattle.text.specs.declared.fault.LineFault.{LineFault}
use Rattle.text.specs.declared.fault.TextCause.TheVariants.{Size}
use Rattle.text.specs.Lines.{Sayable, text_of, reading}
use Rattle.text.specs.Pieces.{and_then}
use Rattle.feed.specs.declared.fault.Fault.{Fault}
use Rattle.feed.specs.declared.fault.Cause.TheVariants.{Text}
use Rattle.feed.specs.Lines.{first_of, lines}

abbrev pub fault : ℕ → LineFault → Fault
fault n f = record { line = n; column = f.column; cause = Text f.cause }

-- What a line is read as, its fault with the number of the line.
abbrev pub at_line : ℕ → Result Event LineFault → Result Event Fault
at_line n (Ok e) = Ok e
at_line n (Err f) = Err (fault n f)

-- The events of lines of which the first has number n.
abbrev pub events_from : ℕ → List (List ℕ) → Result (List Event) Fault
events_from n [] = Ok []
events_from n (l ∷ ls) = and_then (at_line n (reading l)) (λ e. and_then (events_from (n + 1) ls) (λ es. Ok (e ∷ es)))

-- A file has at most 60,000 bytes; that is tested first.
abbrev pub events : List ℕ → Result (List Event) Fault
events file = cond (nat_le (length file) 60000) (events_from 1 (lines file)) (Err (fault 0 (record { column = 0; cause = Size })))

abbrev pub counted : Result (List Event) Fault → Result ℕ Fault
counted r = and_then r (λ es. Ok (length es))

-- Each event's text on a line of its own.
abbrev pub file_of : List Event → List ℕ
file_of [] = []
file_of (e ∷ es) = text_of e ++ (10 ∷ file_of es)

abbrev pub AllSayable : List Event → Type 0
AllSayable [] = Unit {0}
AllSayable (e ∷ es) = Sayable e × AllSayable es

-- The file says these events and nothing else.
pub record Says (file : List ℕ) (es : List Event) : Type 0 where
  pub short : length file ≤ 60000
  pub sayable : AllSayable es
  pub text : (file ≡ file_of es) ⊎ (file ++ (10 ∷ []) ≡ file_of es)

-- The file is turned down as a whole.
abbrev pub TooLong : List ℕ → Fault → Type 0
TooLong file f = (60000 < length file) × (f ≡ fault 0 (record { column = 0; cause = Size }))

-- The lines before the fault are texts of events, and the next line is at fault.
pub record FirstFault (file : List ℕ) (f : Fault) : Type 0 where
  pub short : length file ≤ 60000
  pub before : List Event
  pub rest : List ℕ
  pub sayable : AllSayable before
  pub split : file ≡ file_of before ++ rest
  pub bad : LineFault
  pub reads : reading (first_of rest) ≡ Err bad
  pub is : f ≡ fault (length before + 1) bad
