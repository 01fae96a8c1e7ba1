-- What clocks show.
-- Assumes nothing.
use Rattle.std.specs.Prelude.{ℕ, false, List, [], slice_index, slice_index_or}
use Rattle.order.specs.declared.clock.Clock.{Clock}
use Rattle.order.specs.declared.segments.Segment.{Segment}
use Rattle.order.specs.Runs.{Runs}
use Rattle.order.specs.Segments.{ends_of, known_of, count_of}

-- How many segments of the run were seen.
abbrev pub seen_of : Clock → ℕ → ℕ
seen_of c q = slice_index c.seen q

abbrev pub no_clock : Clock
no_clock = record { run = 0; seen = [] }

-- Open ends, runs and clocks by the numbers of their segments.
abbrev pub view : List (Segment Clock) → Runs
view places =
    record {
      count = count_of places;
      ends = λ a. slice_index_or (ends_of places) a false;
      run = λ a. (slice_index_or (known_of places) a no_clock).run;
      seen = λ b. seen_of (slice_index_or (known_of places) b no_clock);
    }
