-- What the levels of a stack have seen, and what the tests of an edge come to.
-- Assumes nothing.
use Rattle.std.proofs.Common.{◌≡◌, ℕ, zero, suc, ◌/◌, ◌%◌, ◌^◌, ◌<◌, Bool, true, false, not, ◌&&◌, ◌||◌, eqb, ltb, ◌⊎◌, List, [], ◌∷◌, map, length, get_or, Decides, sym, refl, ap, ◌∙◌, inl, inr, ⊎_elim, arith}
use native.Mathlib.Nat.{pow-succ', zero-div}
use lib.Bits.{bit_and, bit_or, and_zero_l}
use Rattle.std.proofs.lemmas.Bool.{eqb-true, eq-eqb, or_cases, or_left, or_right}
use Rattle.std.proofs.lemmas.Bool.Decides.{same_from_decides, Decides-like, Decides-and, Decides-eqb}
use Rattle.std.specs.List.{list_all}
use Rattle.order.proofs.Words.{or_bit, power_bit}
use Rattle.rows.specs.Circles.{every}
use Rattle.rows.specs.Edges.{In, in_set, is_edge}
use Rattle.rows.specs.declared.edge.Edge.{Edge}
use Rattle.recording.specs.Chains.{step, wanted_at_last}
use Rattle.recording.specs.Enumeration.{apart}
use Rattle.recording.specs.Walks.{may_follow}
use Rattle.recording.proofs.Bitsets.{apart_and, and_apart}
use Rattle.search.specs.declared.level.Level.{Level}
use Rattle.search.specs.Levels.{Seen, blank_level}
use Rattle.search.specs.Stacks.{unordered}

-- ---- tests joined

and_comm : (x y : Bool) → (x && y) ≡ (y && x)
and_comm true true = refl
and_comm true false = refl
and_comm false true = refl
and_comm false false = refl

and_assoc : (x y z : Bool) → ((x && y) && z) ≡ (x && (y && z))
and_assoc true y z = refl
and_assoc false y z = refl

and_swap : (a b c d : Bool) → ((a && b) && (c && d)) ≡ ((a && c) && (b && d))
and_swap true true c d = refl
and_swap true false true d = refl
and_swap true false false d = refl
and_swap false b c d = refl

not_or : (x y : Bool) → not (x || y) ≡ (not x && not y)
not_or true y = refl
not_or false y = refl

eqb_flip : (a b : ℕ) → eqb a b ≡ eqb b a
eqb_flip a b = same_from_decides {P = a ≡ b} _ _ (Decides-eqb a b) (Decides-like _ sym sym (Decides-eqb b a))

pub every_is : {X : Type 0} (test : X → Bool) (xs : List X) → list_all test xs ≡ every test xs
every_is test [] = refl
every_is test (x ∷ xs) = ap (λ b. test x && b) (every_is test xs)

every_map : {X Y : Type 0} (f : X → Y) (test : Y → Bool) (xs : List X) → every (λ x. test (f x)) xs ≡ every test (map f xs)
every_map f test [] = refl
every_map f test (x ∷ xs) = ap (λ b. test (f x) && b) (every_map f test xs)

every_both : {X : Type 0} (p q : X → Bool) (xs : List X) → every (λ x. p x && q x) xs ≡ (every p xs && every q xs)
every_both p q [] = refl
every_both p q (x ∷ xs) = ap (λ b. (p x && q x) && b) (every_both p q xs) ∙ and_swap (p x) (q x) (every p xs) (every q xs)

-- ---- sets joined

below_power : (n : ℕ) → n < 2 ^ n
below_power zero = omega arith
below_power (suc n) = omega (arith, below_power n, pow-succ' 2 n)

abbrev NoCommon : ℕ → ℕ → Type 0
NoCommon a y = (l : ℕ) → In l a → In l y → ⊥

no_common : (a y : ℕ) → Decides (eqb (bit_and a y) 0) (NoCommon a y)
no_common a y = (
  λ e. and_apart a y (eqb-true (bit_and a y) 0 e),
  λ h. eq-eqb (bit_and a y) 0 (apart_and a a y (below_power a) h),
)

in_or : (l a b : ℕ) → In l (bit_or a b) → In l a ⊎ In l b
in_or l a b h =
    ⊎_elim (λ e. inl (eqb-true (a / 2 ^ l % 2) 1 e)) (λ e. inr (eqb-true (b / 2 ^ l % 2) 1 e))
    (or_cases (in_set l a) (in_set l b) (sym (or_bit a b l) ∙ eq-eqb (bit_or a b / 2 ^ l % 2) 1 h))

or_in_left : (l a b : ℕ) → In l a → In l (bit_or a b)
or_in_left l a b h =
    eqb-true (bit_or a b / 2 ^ l % 2) 1 (or_bit a b l ∙ or_left (in_set l a) (in_set l b) (eq-eqb (a / 2 ^ l % 2) 1 h))

or_in_right : (l a b : ℕ) → In l b → In l (bit_or a b)
or_in_right l a b h =
    eqb-true (bit_or a b / 2 ^ l % 2) 1 (or_bit a b l ∙ or_right (in_set l a) (in_set l b) (eq-eqb (b / 2 ^ l % 2) 1 h))

or_common : (a b y : ℕ) → eqb (bit_and (bit_or a b) y) 0 ≡ (eqb (bit_and a y) 0 && eqb (bit_and b y) 0)
or_common a b y =
    same_from_decides {P = NoCommon (bit_or a b) y} _ _ (no_common (bit_or a b) y)
    (Decides-like _ (λ h l i j. ⊎_elim (λ k. h.0 l k j) (λ k. h.1 l k j) (in_or l a b i))
    (λ h. (λ l i j. h l (or_in_left l a b i) j, λ l i j. h l (or_in_right l a b i) j))
    (Decides-and _ _ (no_common a y) (no_common b y)))

-- ---- the last level

abbrev pub edges_in : List Level → List Edge
edges_in = map (λ l. l.edge)

abbrev last : Level → List Level → Level
last l ls = get_or (l ∷ ls) (length ls) blank_level

-- A test of what was seen that each edge adds its own part to.
module _ (test : ℕ → ℕ → Bool) (own : Edge → Bool) (adds : (t g : ℕ) (e : Edge) → test (bit_or t (2 ^ e.thread)) (bit_or g e.guards) ≡ (test t g && own e)) where
  step_seen : (t g : ℕ) (l : Level) → l.threads ≡ bit_or t (2 ^ l.edge.thread) → l.guards ≡ bit_or g l.edge.guards
      → test l.threads l.guards ≡ (test t g && own l.edge)
  step_seen t g l threads guards = (λ i. test (threads i) (guards i)) ∙ adds t g l.edge

  all_seen : (t g : ℕ) (l : Level) (ls : List Level) → Seen t g (l ∷ ls)
      → test (last l ls).threads (last l ls).guards ≡ (test t g && every own (edges_in (l ∷ ls)))
  all_seen t g l [] (threads, (guards, more)) = step_seen t g l threads guards ∙ ap (λ b. test t g && b) (sym (and_comm (own l.edge) true))
  all_seen t g l (m ∷ ms) (threads, (guards, more)) =
      all_seen l.threads l.guards m ms more ∙ ap (λ b. b && every own (edges_in (m ∷ ms))) (step_seen t g l threads guards)
      ∙ and_assoc (test t g) (own l.edge) (every own (edges_in (m ∷ ms)))

threads_seen : (l : Level) (ls : List Level) (x : ℕ) → Seen 0 0 (l ∷ ls)
    → not (in_set x (last l ls).threads) ≡ every (λ e. not (eqb e.thread x)) (edges_in (l ∷ ls))
threads_seen l ls x s =
    all_seen (λ t g. not (in_set x t)) (λ e. not (eqb e.thread x))
    (λ t g e.
    ap not (or_bit t (2 ^ e.thread) x) ∙ not_or (in_set x t) (in_set x (2 ^ e.thread))
    ∙ ap (λ b. not (in_set x t) && not b) (power_bit e.thread x ∙ eqb_flip x e.thread))
    0 0 l ls s
    ∙ ap (λ n. not (eqb (n % 2) 1) && every (λ e. not (eqb e.thread x)) (edges_in (l ∷ ls))) (zero-div (2 ^ x))

guards_seen : (l : Level) (ls : List Level) (y : ℕ) → Seen 0 0 (l ∷ ls)
    → eqb (bit_and (last l ls).guards y) 0 ≡ every (λ e. eqb (bit_and e.guards y) 0) (edges_in (l ∷ ls))
guards_seen l ls y s =
    all_seen (λ t g. eqb (bit_and g y) 0) (λ e. eqb (bit_and e.guards y) 0) (λ t g e. or_common g e.guards y) 0 0 l ls s
    ∙ ap (λ n. eqb n 0 && every (λ e. eqb (bit_and e.guards y) 0) (edges_in (l ∷ ls))) (and_zero_l y)

pub wanted_last : (l : Level) (ls : List Level) → (last l ls).edge.wanted ≡ wanted_at_last l.edge.wanted (map step (edges_in ls))
wanted_last l [] = refl
wanted_last l (m ∷ ms) = wanted_last m ms

-- ---- the test of an edge

pub apart_follows : (precedes : ℕ → ℕ → Bool) (l : Level) (ls : List Level) (f : Edge) → Seen 0 0 (l ∷ ls)
    → is_edge f ≡ true → (last l ls).edge.wanted ≡ f.held
    → (ltb l.edge.thread f.thread && (not (in_set f.thread (last l ls).threads) && (eqb (bit_and (last l ls).guards f.guards) 0
    && every (λ m. unordered precedes m.edge.segment f.segment) (l ∷ ls))))
    ≡ may_follow precedes (edges_in (l ∷ ls)) f
apart_follows precedes l ls f s is link =
    let es = edges_in (l ∷ ls) in
    let least = ltb l.edge.thread f.thread in
    let far : Edge → Bool = λ e. not (eqb e.thread f.thread) in
    let free : Edge → Bool = λ e. eqb (bit_and e.guards f.guards) 0 in
    let along : Edge → Bool = λ e. unordered precedes e.segment f.segment in
    let all : Bool = every (λ e. apart precedes e f) es in
    let each : all ≡ (every far es && (every free es && every along es)) =
    every_both far (λ e. free e && along e) es ∙ ap (λ b. every far es && b) (every_both free along es) in
    let tests : (not (in_set f.thread (last l ls).threads) && (eqb (bit_and (last l ls).guards f.guards) 0
    && every (λ m. unordered precedes m.edge.segment f.segment) (l ∷ ls))) ≡ all =
    (λ i. threads_seen l ls f.thread s i && (guards_seen l ls f.guards s i && every_map (λ m. m.edge) along (l ∷ ls) i)) ∙ sym each in
    let known : (is_edge f && (eqb (wanted_at_last l.edge.wanted (map step (edges_in ls))) f.held && (all && least))) ≡ (all && least) =
    (λ i. is i && (eq-eqb _ f.held (sym (wanted_last l ls) ∙ link) i && (all && least))) in
    ap (λ b. least && b) tests ∙ and_comm least all ∙ sym known
