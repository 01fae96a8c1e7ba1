-- Each row of the table, by computing it.
-- Assumes nothing.
use Rattle.std.proofs.Common.{refl}
use Rattle.std.specs.Fmt.{digits}
use Rattle.text.specs.Pieces.{scan}
use Rattle.output.specs.Odds.{rounded}
use Rattle.worked.specs.Table.{Worked}

pub worked : Worked
unfolding digits scan rounded
worked =
    record {
      two_threads = refl;
      start_after_release = refl;
      gate_lock = refl;
      three_threads = refl;
      nest_again = refl;
      idle_joined_thread = refl;
      empty = refl;
      lock_63 = refl;
      lock_64 = refl;
      cut_line = refl;
      leading_zero = refl;
      budget_2 = refl;
      budget_3 = refl;
      no_circle_place = refl;
      starts_127 = refl;
      join_127 = refl;
      join_256 = refl;
      four_steps = refl;
      four_steps_of_three = refl;
      one_step = refl;
      one_step_cause = refl;
    }
