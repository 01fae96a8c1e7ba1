-- A circle: threads that each hold the lock which the one before them waits for.
-- Assumes nothing.
use Rattle.std.specs.Prelude.{◌≡◌, ℕ, ◌<◌, ◌≤◌, Bool, true, not, ◌&&◌, List, [], ◌∷◌, length, take, drop, replicate, ◌==◌, ◌≢◌, nat_le, nat_lt}
use Rattle.std.specs.List.{AllByRecursion}
use Rattle.rows.specs.declared.row.CircleRow.{CircleRow}
use Rattle.rows.specs.declared.step.Step.{Step}

-- The first of the steps holds the wanted lock, each next one what the one before it wants, and the last one wants `last`.
abbrev pub Linked : ℕ → List Step → ℕ → Type 0
Linked wanted [] last = wanted ≡ last
Linked wanted (z ∷ zs) last = (wanted ≡ z.held) × Linked z.wanted zs last

-- No two threads are the same.
abbrev pub Apart : List Step → Type 0
Apart [] = Unit {0}
Apart (s ∷ zs) = AllByRecursion (λ z. s.thread ≢ z.thread) zs × Apart zs

-- No step at all, or two and more that close up, with different threads, the smallest first.
abbrev pub IsCircle : List Step → Type 0
IsCircle [] = Unit {0}
IsCircle (s ∷ []) = ⊥
IsCircle (s ∷ z ∷ zs) = Linked s.wanted (z ∷ zs) s.held × Apart (s ∷ z ∷ zs) × AllByRecursion (λ b. s.thread < b.thread) (z ∷ zs)

abbrev pub zero_step : Step
zero_step = record { thread = 0; held = 0; wanted = 0 }

abbrev pub steps_of : CircleRow → List Step
steps_of r = take r.count r.steps

-- The counted steps are a circle, and the places past them are zero.
pub record IsCircleRow (r : CircleRow) : Type 0 where
  pub count : r.count ≤ 64
  pub circle : IsCircle (steps_of r)
  pub rest : AllByRecursion (λ z. z ≡ zero_step) (drop r.count r.steps)

-- The same as tests.
abbrev pub every : {X : Type 0} → (X → Bool) → List X → Bool
every test [] = true
every test (x ∷ xs) = test x && every test xs

abbrev pub linked : ℕ → List Step → ℕ → Bool
linked wanted [] last = wanted == last
linked wanted (z ∷ zs) last = wanted == z.held && linked z.wanted zs last

abbrev pub closes : List Step → Bool
closes [] = true
closes (s ∷ zs) = linked s.wanted zs s.held

abbrev pub apart : List Step → Bool
apart [] = true
apart (s ∷ zs) = every (λ z. not (s.thread == z.thread)) zs && apart zs

abbrev pub smallest_first : List Step → Bool
smallest_first [] = true
smallest_first (s ∷ zs) = every (λ z. nat_lt s.thread z.thread) zs

abbrev pub is_circle : List Step → Bool
is_circle zs = not (length zs == 1) && (closes zs && (apart zs && smallest_first zs))

abbrev pub is_zero : Step → Bool
is_zero z = z.thread == 0 && (z.held == 0 && z.wanted == 0)

abbrev pub is_circle_row : CircleRow → Bool
is_circle_row r = (nat_le r.count 64 && is_circle (steps_of r)) && every is_zero (drop r.count r.steps)

-- The circle with no step.
abbrev pub blank_row : CircleRow
blank_row = record { count = 0; steps = replicate 64 zero_step }
