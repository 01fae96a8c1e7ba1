-- The worked recordings, each with what comes out.
-- Assumes nothing.
use Rattle.std.specs.Prelude.{◌≡◌, Ok, Err, codes}
use Rattle.file_check.specs.Checks.{checked}
use Rattle.output.specs.Causes.{cause_number}
use Rattle.output.specs.Odds.{odds_of}
use Rattle.output.specs.declared.cause.OutputCause.TheVariants.{Odds}
use Rattle.worked.specs.Recordings as file
use Rattle.worked.specs.Printing.{last_line, printed}

pub record Worked : Type 0 where
  pub two_threads : printed file.two_threads ≡ codes "T0:L1>L2 T1:L2>L1 odds 5000\ncircles 1 chains 3\n"
  pub start_after_release : printed file.start_after_release ≡ codes "circles 0 chains 2\n"
  pub gate_lock : printed file.gate_lock ≡ codes "circles 0 chains 6\n"
  pub three_threads : printed file.three_threads ≡ codes "T0:L1>L2 T1:L2>L3 T2:L3>L1 odds 2222\ncircles 1 chains 6\n"
  pub nest_again : printed file.nest_again ≡ codes "T0:L1>L2 T1:L2>L1 odds 5000\ncircles 1 chains 5\n"
  pub idle_joined_thread : printed file.idle_joined_thread ≡ codes "circles 0 chains 2\n"
  pub empty : printed file.empty ≡ codes "circles 0 chains 0\n"
  pub lock_63 : printed file.lock_63 ≡ codes "circles 0 chains 0\n"
  pub lock_64 : printed file.lock_64 ≡ codes "line 1 column 1 layer ledger cause 1\n"
  pub cut_line : printed file.cut_line ≡ codes "line 1 column 8 layer text cause 15\n"
  pub leading_zero : printed file.leading_zero ≡ codes "line 1 column 5 layer text cause 16\n"
  -- other budgets, and no place for a circle
  pub budget_2 : last_line (checked 256 1024 file.two_threads 2 64) ≡ codes "line 0 column 0 layer search cause 12\n"
  pub budget_3 : last_line (checked 256 1024 file.two_threads 3 64) ≡ codes "circles 1 chains 3\n"
  pub no_circle_place : last_line (checked 256 1024 file.two_threads 1000000 0) ≡ codes "line 0 column 0 layer search cause 13\n"
  -- an order of 127 segments, as the clocks are, and one of 256, as the matrix is
  pub starts_127 : last_line (checked 127 1024 file.many_starts 1000000 64) ≡ codes "circles 0 chains 0\n"
  pub join_127 : last_line (checked 127 1024 file.many_starts_joined 1000000 64) ≡ codes "line 64 column 1 layer order cause 9\n"
  pub join_256 : last_line (checked 256 1024 file.many_starts_joined 1000000 64) ≡ codes "circles 0 chains 0\n"
  -- the odds of four steps, and of one
  pub four_steps : odds_of 4 1 ≡ Ok 937
  pub four_steps_of_three : odds_of 4 3 ≡ Ok 312
  pub one_step : odds_of 1 1 ≡ Err Odds
  pub one_step_cause : cause_number Odds ≡ 18
