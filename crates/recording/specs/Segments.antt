-- The segments of a recording and the arrows between them. A thread goes on in a new segment where it starts or joins one.
-- Assumes nothing.
use Rattle.std.specs.Prelude.{ℕ, ◌+◌, cond, List, [], ◌∷◌, ◌==◌}
use Rattle.order.specs.Arrows.{Arrow, arrow, Path⁺}
use Rattle.rows.specs.declared.event.Event.TheVariants.{Lock, Release, Start, Join}
use Rattle.recording.specs.Recording.{Recording, none, ◌▸◌}

-- The next free segment number. Segment 0 is there from the first.
abbrev pub next : Recording → ℕ
next none = 1
next (ρ ▸ Lock t o) = next ρ
next (ρ ▸ Release t o) = next ρ
next (ρ ▸ Start t u) = next ρ + 2
next (ρ ▸ Join t u) = next ρ + 1

-- The segment that thread v is in: where it starts one it goes on in the next free segment and the started thread begins in the
-- one after, and where it joins one it goes on in the next free segment. An unborn thread is in none, and has 0 here.
abbrev pub segment : Recording → ℕ → ℕ
segment none v = 0
segment (ρ ▸ Lock t o) v = segment ρ v
segment (ρ ▸ Release t o) v = segment ρ v
segment (ρ ▸ Start t u) v = cond (v == t) (next ρ) (cond (v == u) (next ρ + 1) (segment ρ v))
segment (ρ ▸ Join t u) v = cond (v == t) (next ρ) (segment ρ v)

-- The arrows drawn, the latest first: from a segment in which a thread is left or joined to those that go on from there.
abbrev pub arrows : Recording → List Arrow
arrows none = []
arrows (ρ ▸ Lock t o) = arrows ρ
arrows (ρ ▸ Release t o) = arrows ρ
arrows (ρ ▸ Start t u) = arrow (segment ρ t) (next ρ) ∷ arrow (segment ρ t) (next ρ + 1) ∷ arrows ρ
arrows (ρ ▸ Join t u) = arrow (segment ρ t) (next ρ) ∷ arrow (segment ρ u) (next ρ) ∷ arrows ρ

-- Segment x precedes segment y: a path of one or more arrows leads from x to y.
abbrev pub Precedes : Recording → ℕ → ℕ → Type 0
Precedes ρ x y = Path⁺ (arrows ρ) x y

-- Two segments are parallel: neither precedes the other.
abbrev pub Parallel : Recording → ℕ → ℕ → Type 0
Parallel ρ x y = (Precedes ρ x y → ⊥) × (Precedes ρ y x → ⊥)
