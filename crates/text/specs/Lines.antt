-- The lines of a recording: the text of each event, and what a line is read as.
-- Assumes nothing.
use Rattle.std.specs.Prelude.{◌≡◌, ℕ, ◌+◌, ◌-◌, ◌≤◌, cond, List, [], ◌∷◌, ◌++◌, length, take, Ok, Err, codes, decimal, Result, ◌==◌, slice_index}
use Rattle.rows.specs.declared.event.Event.{Event}
use Rattle.rows.specs.declared.event.Event.TheVariants.{Lock, Release, Start, Join}
use Rattle.text.specs.declared.fault.LineFault.{LineFault}
use Rattle.text.specs.declared.fault.TextCause.TheVariants.{Letter}
use Rattle.text.specs.Pieces.{Piece, byte, number, wrong, and_then, scan}

-- A line begins with the letter of its kind; then come the two numbers, each behind the letter of what it counts.
abbrev pub line_of : List ℕ → List ℕ → ℕ → ℕ → List ℕ
line_of front between t x = front ++ (decimal t ++ (between ++ (decimal x ++ codes ")")))

abbrev pub text_of : Event → List ℕ
text_of (Lock t o) = line_of (codes "l(T") (codes ",L") t o
text_of (Release t o) = line_of (codes "u(T") (codes ",L") t o
text_of (Start t u) = line_of (codes "s(T") (codes ",T") t u
text_of (Join t u) = line_of (codes "j(T") (codes ",T") t u

-- A line can say numbers of up to three digits.
abbrev pub Sayable : Event → Type 0
Sayable (Lock t o) = (t ≤ 999) × (o ≤ 999)
Sayable (Release t o) = (t ≤ 999) × (o ≤ 999)
Sayable (Start t u) = (t ≤ 999) × (u ≤ 999)
Sayable (Join t u) = (t ≤ 999) × (u ≤ 999)

-- The line is the text of the event.
abbrev pub Says : List ℕ → Event → Type 0
Says bs e = Sayable e × (bs ≡ text_of e)

-- The bytes begin the text of some event.
abbrev pub Begins : List ℕ → Type 0
Begins bs = (e : Event) × (rest : List ℕ) × Sayable e × (text_of e ≡ bs ++ rest)

-- The column is that of the leftmost wrong byte: the bytes before it begin the text of some event, and together with it they
-- begin none. Where the line ends early, it is one past the line.
pub record Leftmost (line : List ℕ) (column : ℕ) : Type 0 where
  pub first : 1 ≤ column
  pub last : column ≤ length line + 1
  pub before : Begins (take (column - 1) line)
  pub wrong : column ≤ length line → Begins (take column line) → ⊥

-- From the bracket on: a thread, and behind a letter a lock or a thread.
abbrev pub arguments : ℕ → List Piece
arguments letter = byte 40 ∷ byte 84 ∷ number ∷ byte 44 ∷ byte letter ∷ number ∷ byte 41 ∷ []

-- An event by its two numbers, read from the bytes that begin in column 2.
abbrev pub event : (ℕ → ℕ → Event) → ℕ → List ℕ → Result Event LineFault
event make letter bs = and_then (scan (arguments letter) 2 bs) (λ ns. Ok (make (slice_index ns 0) (slice_index ns 1)))

-- What a line is read as: l lock, u release, s start, j join.
abbrev pub reading : List ℕ → Result Event LineFault
reading [] = Err (wrong 1 Letter)
reading (b ∷ bs) =
    cond (b == 108) (event Lock 76 bs)
    (cond (b == 117) (event Release 76 bs)
    (cond (b == 115) (event Start 84 bs)
    (cond (b == 106) (event Join 84 bs)
    (Err (wrong 1 Letter)))))
