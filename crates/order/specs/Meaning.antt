-- The meaning of an order of segments, and what each call makes of it.
-- Assumes nothing.
use Rattle.std.specs.Prelude.{◌≡◌, ℕ, ◌+◌, ◌<◌, ◌≤◌, Bool, true, false, cond, not, ◌&&◌, ◌||◌, Ok, Err, Result, ◌==◌, nat_le}
use Rattle.order.specs.declared.cause.OrderCause.{OrderCause}
use Rattle.order.specs.declared.cause.OrderCause.TheVariants.{End, Ceiling}

-- How many segments there are, whether the first of two precedes the second, and which are open ends.
pub record Meaning : Type 0 where
  pub segments : ℕ
  pub before : ℕ → ℕ → Bool
  pub ends : ℕ → Bool

-- A number not yet given out precedes nothing, follows nothing and is no open end.
pub record Sound (limit : ℕ) (m : Meaning) : Type 0 where
  pub fits : m.segments ≤ limit
  pub precedes : (a b : ℕ) → m.before a b ≡ true → a < m.segments
  pub follows : (a b : ℕ) → m.before a b ≡ true → b < m.segments
  pub stands : (a : ℕ) → m.ends a ≡ true → a < m.segments

abbrev pub fresh_order : Meaning
fresh_order = record { segments = 1; before = λ a b. false; ends = λ a. (a == 0) }

-- x, or what precedes x.
abbrev pub upto : Meaning → ℕ → ℕ → Bool
upto m x a = a == x || m.before a x

-- x is an open end no longer.
abbrev pub closed : Meaning → ℕ → Meaning
closed m x = record { segments = m.segments; before = m.before; ends = λ a. not (a == x) && m.ends a }

-- One more segment, an open end that exactly the past precedes.
abbrev pub opened : Meaning → (ℕ → Bool) → Meaning
opened m past =
    record {
      segments = m.segments + 1;
      before = λ a b. cond (b == m.segments) (past a) (m.before a b);
      ends = λ a. (a == m.segments) || m.ends a;
    }

abbrev pub forked : Meaning → ℕ → Meaning
forked m x = opened (opened (closed m x) (upto m x)) (upto m x)

abbrev pub met : Meaning → ℕ → ℕ → Meaning
met m x y = opened (closed m x) (λ a. upto m x a || upto m y a)

-- ---- the calls: checks in the order of their numbers, and a refusal changes nothing

-- The next number, where the ends are open and as many numbers as wanted are left below the limit.
abbrev pub admitted : ℕ → ℕ → ℕ → Bool → Result ℕ OrderCause
admitted limit n wanted good = cond good (cond (nat_le (n + wanted) limit) (Ok n) (Err Ceiling)) (Err End)

abbrev pub unless_refused : Result ℕ OrderCause → Meaning → Meaning → Meaning
unless_refused (Ok n) new old = new
unless_refused (Err e) new old = old

abbrev pub fork_answer : ℕ → Meaning → ℕ → Result ℕ OrderCause
fork_answer limit m x = admitted limit m.segments 2 (m.ends x)

abbrev pub fork_after : ℕ → Meaning → ℕ → Meaning
fork_after limit m x = unless_refused (fork_answer limit m x) (forked m x) m

abbrev pub meet_answer : ℕ → Meaning → ℕ → ℕ → Result ℕ OrderCause
meet_answer limit m x y = admitted limit m.segments 1 (not (x == y) && (m.ends x && m.ends y))

abbrev pub meet_after : ℕ → Meaning → ℕ → ℕ → Meaning
meet_after limit m x y = unless_refused (meet_answer limit m x y) (met m x y) m
