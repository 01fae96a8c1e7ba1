-- Lists of calls, the arrows that they draw, and what the order says of them.
-- Assumes nothing.
use Rattle.std.specs.Prelude.{ℕ, ◌+◌, List, [], ◌∷◌, ◌++◌, Ok, Err, Decides, Result}
use Rattle.order.specs.Arrows.{Arrow, arrow, Path⁺}
use Rattle.order.specs.declared.request.Call.{Call}
use Rattle.order.specs.declared.request.Call.TheVariants.{Fork, Meet}
use Rattle.order.specs.declared.cause.OrderCause.{OrderCause}
use Rattle.order.specs.Meaning.{Meaning, fresh_order, fork_answer, fork_after, meet_answer, meet_after}

-- One segment precedes another exactly when a path leads from it to the other.
abbrev pub Told : Meaning → List Arrow → Type 0
Told m drawn = (x y : ℕ) → Decides (m.before x y) (Path⁺ drawn x y)

abbrev pub answer : ℕ → Meaning → Call → Result ℕ OrderCause
answer limit m (Fork x) = fork_answer limit m x
answer limit m (Meet x y) = meet_answer limit m x y

abbrev pub after : ℕ → Meaning → Call → Meaning
after limit m (Fork x) = fork_after limit m x
after limit m (Meet x y) = meet_after limit m x y

-- The arrows of a call that answers n: a fork's lead from x to n and n + 1, a meet's from x and y to n.
abbrev pub arrows_to : ℕ → Call → List Arrow
arrows_to n (Fork x) = arrow x (n + 1) ∷ arrow x n ∷ []
arrows_to n (Meet x y) = arrow x n ∷ arrow y n ∷ []

-- A refused call draws none.
abbrev pub drawn_by : Result ℕ OrderCause → Call → List Arrow
drawn_by (Ok n) call = arrows_to n call
drawn_by (Err e) call = []

-- An order, and the arrows that were drawn so far.
pub record History : Type 0 where
  pub order : Meaning
  pub arrows : List Arrow

abbrev pub start : History
start = record { order = fresh_order; arrows = [] }

abbrev pub called : ℕ → History → Call → History
called limit h call =
    record { order = after limit h.order call; arrows = drawn_by (answer limit h.order call) call ++ h.arrows }

abbrev pub replayed : ℕ → History → List Call → History
replayed limit h [] = h
replayed limit h (call ∷ calls) = replayed limit (called limit h call) calls
