use Rattle.std.proofs.Common.{◌≡◌, ◌-◌, length}
use Rattle.recording.specs.Walks.{first_from}
use Rattle.search.specs.Indexes.{holding}
use Rattle.search.proofs.index.Index.next_holding.Given as goal

-- The rows before `at` do not hold the lock.
abbrev pub invariant-loop-at : goal.invariant-loop-at
invariant-loop-at l = first_from (holding l.lock) l.rows l.from ≡ first_from (holding l.lock) l.rows l.at

abbrev pub decreases-loop-at : goal.decreases-loop-at
decreases-loop-at l = length l.rows - l.at
