-- Segments in runs, each with a clock: how many segments of each run precede it.
-- Assumes nothing.
use Rattle.std.specs.Prelude.{◌≡◌, ℕ, ◌+◌, ◌-◌, ◌<◌, ◌≤◌, Bool, true, false, cond, ◌&&◌, ◌==◌, ◌≢◌, nat_lt}
use Rattle.order.specs.Meaning.{Meaning}

pub record Runs : Type 0 where
  pub count : ℕ
  pub ends : ℕ → Bool
  -- the run of a segment
  pub run : ℕ → ℕ
  -- how many segments of a run the segment has seen
  pub seen : ℕ → ℕ → ℕ

-- What a segment has seen of its own run is its place there.
abbrev pub place : Runs → ℕ → ℕ
place s a = s.seen a (s.run a)

-- a precedes b where b has seen more of a's run than a. Only numbers below the count are segments.
abbrev pub runs_meaning : Runs → Meaning
runs_meaning s =
    record {
      segments = s.count;
      before = λ a b. nat_lt a s.count && (nat_lt b s.count && nat_lt (place s a) (s.seen b (s.run a)));
      ends = λ a. nat_lt a s.count && s.ends a;
    }

-- A run goes by the number of its first segment.
abbrev pub Named : Runs → Type 0
Named s = (a : ℕ) → a < s.count → s.run a ≤ a

abbrev pub Bounded : Runs → Type 0
Bounded s = (b q : ℕ) → b < s.count → s.seen b q ≤ b - q

-- No two segments have one place in a run.
abbrev pub Twins : Runs → ℕ → ℕ → Type 0
Twins s a b = (a < s.count) × (b < s.count) × (s.run a ≡ s.run b) × (place s a ≡ place s b)

abbrev pub Apart : Runs → Type 0
Apart s = (a b : ℕ) → Twins s a b → a ≡ b

abbrev pub End : Runs → ℕ → Type 0
End s x = (x < s.count) × (s.ends x ≡ true)

-- An open end is the last of its run.
abbrev pub Mate : Runs → ℕ → ℕ → Type 0
Mate s x a = (a < s.count) × (s.run a ≡ s.run x)

abbrev pub Last : Runs → Type 0
Last s = (x a : ℕ) → End s x → Mate s x a → place s a ≤ place s x

-- No segment has seen more of a run than its open end and what comes before it there.
abbrev pub Ahead : Runs → Type 0
Ahead s = (x b : ℕ) → End s x → b < s.count → s.seen b (s.run x) ≤ place s x + 1

-- What always holds.
pub record Orderly (s : Runs) : Type 0 where
  pub named : Named s
  pub bounded : Bounded s
  pub apart : Apart s
  pub last : Last s
  pub ahead : Ahead s

-- x's clock once x itself was seen too.
abbrev pub upto_clock : Runs → ℕ → ℕ → ℕ
upto_clock s x q = cond (q == s.run x) (s.seen x q + 1) (s.seen x q)

abbrev pub shut : Runs → ℕ → Runs
shut s x =
    record { count = s.count; ends = λ a. cond (a == x) false (s.ends a); run = s.run; seen = s.seen }

-- One more segment, an open end, in the run and with the clock.
abbrev pub grown : Runs → ℕ → (ℕ → ℕ) → Runs
grown s r c =
    record {
      count = s.count + 1;
      ends = λ a. cond (a == s.count) true (s.ends a);
      run = λ a. cond (a == s.count) r (s.run a);
      seen = λ b. cond (b == s.count) c (s.seen b);
    }

-- Where a segment may join the run: all of the run is closed, and was seen by the clock but by no other further.
pub record Room (s : Runs) (r : ℕ) (c : ℕ → ℕ) : Type 0 where
  pub named : r ≤ s.count
  pub bounded : (q : ℕ) → c q ≤ s.count - q
  pub later : (a : ℕ) → a < s.count → s.run a ≡ r → place s a < c r
  pub no_end : (a : ℕ) → End s a → s.run a ≢ r
  pub furthest : (b : ℕ) → b < s.count → s.seen b r ≤ c r
  pub ahead : (y : ℕ) → End s y → c (s.run y) ≤ place s y + 1
