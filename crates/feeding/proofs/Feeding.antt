-- The lines of a file, taken one after another.
-- Assumes nothing.
use Rattle.std.proofs.Common.{◌≡◌, ℕ, ◌+◌, ◌≤◌, List, [], ◌∷◌, length, Ok, Err}
use Rattle.rows.specs.declared.event.Event.{Event}
use Rattle.rules.specs.States.{State, after, after_all}
use Rattle.feeding.specs.declared.fault.Stop.{Stop}
use Rattle.feeding.specs.Files.{fed, taken}
use Rattle.feeding.specs.Stops.{at_line, line_answer}

module _ (limit : ℕ) (s : State) (l : List ℕ) (ls : List (List ℕ)) where
  -- the first of the lines is taken
  module _ (e : Event) (h : line_answer limit s l ≡ Ok e) where
    pub fed_more : (n : ℕ) → fed limit s n (l ∷ ls) ≡ fed limit (after limit s e) (n + 1) ls
    fed_more n = rw (fed, h)

    pub taken_more : taken limit s (l ∷ ls) ≡ e ∷ taken limit (after limit s e) ls
    taken_more = rw (taken, h)

  -- the first of the lines is at fault
  module _ (stop : Stop) (h : line_answer limit s l ≡ Err stop) where
    pub fed_stop : (n : ℕ) → fed limit s n (l ∷ ls) ≡ Err (at_line (n + 1) stop)
    fed_stop n = rw (fed, h)

    pub taken_stop : taken limit s (l ∷ ls) ≡ []
    taken_stop = rw (taken, h)

-- n lines were taken, and the lines left then bring what all of them bring.
pub record Going (limit : ℕ) (whole : State) (all : List (List ℕ)) (s : State) (left : List (List ℕ)) (n : ℕ) : Type 0 where
  pub answers : fed limit s n left ≡ fed limit whole 0 all
  pub leaves : after_all limit s (taken limit s left) ≡ after_all limit whole (taken limit whole all)
  pub bound : n + length left ≤ length all
