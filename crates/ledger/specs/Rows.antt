-- What a row says of its thread, and what every row keeps.
-- Assumes nothing.
use Rattle.std.specs.Prelude.{ℕ, Bool, true, not, ◌&&◌, List, [], ◌∷◌, nat_le}
use Rattle.rows.specs.declared.life.Life.{Life as LifeCode}
use Rattle.rows.specs.declared.life.Life.TheVariants.{Unborn, Live, Joined}
use Rattle.recording.specs.Ledger.{Life, unborn, live, joined}
use Rattle.rules.specs.Rows.{ThreadRow, has}
use Rattle.ledger.specs.declared.row.Row.TheInside.{Inside}

-- A thread's state, in the words of recordings, and back.
abbrev pub state_said : LifeCode → Life
state_said Unborn = unborn
state_said Live = live
state_said Joined = joined

abbrev pub state_code : Life → LifeCode
state_code unborn = Unborn
state_code live = Live
state_code joined = Joined

-- What the fields of a row say of its thread.
abbrev pub thread_row : Inside → ThreadRow
thread_row r = record { state = state_said r.state; segment = r.segment; locks = r.locks.items }

-- The row of a thread that was not yet started.
abbrev pub unstarted : Inside
unstarted = record { state = Unborn; segment = 0; locks = record { items = [] } }

-- The locks are at most 63, and none is there twice.
abbrev pub tidy : List ℕ → Bool
tidy [] = true
tidy (l ∷ ls) = nat_le l 63 && (not (has ls l) && tidy ls)
