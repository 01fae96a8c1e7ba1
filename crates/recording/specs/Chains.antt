-- Chains of edges, and the circles that closed ones give.
-- Assumes nothing.
use Rattle.std.specs.Prelude.{◌≡◌, ℕ, ◌<◌, List, [], ◌∷◌, map, ◌≢◌, bit_and}
use Rattle.std.specs.List.{AllByRecursion}
use Rattle.rows.specs.Circles.{Linked}
use Rattle.rows.specs.declared.edge.Edge.{Edge}
use Rattle.rows.specs.declared.step.Step.{Step}

-- The step that an edge gives to a circle.
abbrev pub step : Edge → Step
step e = record { thread = e.thread; held = e.held; wanted = e.wanted }

-- Two edges of a chain differ in thread, share no guard and have parallel segments.
abbrev pub Apart : (ℕ → ℕ → Type 0) → Edge → Edge → Type 0
Apart parallel e f = (e.thread ≢ f.thread) × (bit_and e.guards f.guards ≡ 0) × parallel e.segment f.segment

-- Every two, the earlier and the later, stand in the relation.
abbrev pub Pairwise : {A : Type 0} → (A → A → Type 0) → List A → Type 0
Pairwise R [] = Unit {0}
Pairwise R (x ∷ xs) = AllByRecursion (R x) xs × Pairwise R xs

-- The lock that the last of the steps wants, and where there is no step `wanted`.
abbrev pub wanted_at_last : ℕ → List Step → ℕ
wanted_at_last wanted [] = wanted
wanted_at_last wanted (z ∷ zs) = wanted_at_last z.wanted zs

-- The edges are a chain, e the first of them: each wanted lock is the next held lock, every two edges are apart, and the first
-- thread is the smallest.
pub record IsChain (parallel : ℕ → ℕ → Type 0) (e : Edge) (es : List Edge) : Type 0 where
  pub linked : Linked e.wanted (map step es) (wanted_at_last e.wanted (map step es))
  pub apart : Pairwise (Apart parallel) (e ∷ es)
  pub smallest : AllByRecursion (λ f. e.thread < f.thread) es

-- A closed chain of edges of a kind gives the circle: its last wanted lock is its first held lock, and its steps are the circle's.
pub record Closes (edge : Edge → Type 0) (parallel : ℕ → ℕ → Type 0) (c : List Step) : Type 0 where
  pub first : Edge
  pub rest : List Edge
  pub drawn : AllByRecursion edge (first ∷ rest)
  pub chain : IsChain parallel first rest
  pub closed : wanted_at_last first.wanted (map step rest) ≡ first.held
  pub gives : map step (first ∷ rest) ≡ c
