-- Segments of two recordings that have one name.
-- Assumes nothing.
use Rattle.std.proofs.Common.{◌≡◌, ℕ, ◌<◌, sym, refl, subst, inl, inr, arith}
use Rattle.rows.specs.declared.edge.Edge.{Edge}
use Rattle.recording.specs.Recording.{Recording, none, ◌▸◌}
use Rattle.recording.specs.Segments.{next}
use Rattle.recording.specs.Ledger.{Accepted}
use Rattle.recording.specs.Edges.{DrawnAt}
use Rattle.recording.specs.SameThreads.{WasIn}
use Rattle.recording.proofs.Prefixes.{◌⊑◌, now, later}
use Rattle.recording.proofs.Names.{Is, is_below, is_one, is_alike, pace, names, next_names, is_more, is_kept, names_rise, is_now}

-- Segment x of ρ and segment y of σ have one name, of thread t.
abbrev pub Match : ℕ → Recording → Recording → ℕ → ℕ → Type 0
Match t ρ σ x y = (k : ℕ) × Is (names ρ) t k x × Is (names σ) t k y

abbrev pub Same : Recording → Recording → ℕ → ℕ → Type 0
Same ρ σ x y = (t : ℕ) × Match t ρ σ x y

pub match_made : {π ρ κ σ : Recording} (t k l x y : ℕ) → π ⊑ ρ → κ ⊑ σ → l ≡ k → Is (names π) t k x → Is (names κ) t l y
    → Match t ρ σ x y
match_made {κ = κ} t k l x y p q e m n = (k, is_kept t k x p m, is_kept t k y q (subst (λ j. Is (names κ) t j y) e n))

pub same_swap : (ρ σ : Recording) (x y : ℕ) → Same ρ σ x y → Same σ ρ y x
same_swap ρ σ x y m = (m.0, (m.1.0, m.1.2, m.1.1))

-- A segment has one counterpart,
pub same_one : (ρ σ : Recording) → Accepted σ → (x y z : ℕ) → Same ρ σ x y → Same ρ σ x z → y ≡ z
same_one ρ σ ok x y z (t, (k, a, b)) (v, (l, c, d)) =
    let e = is_one (names ρ) t k v l x a c in
    let d' : Is (names σ) t l z = subst (λ w. Is (names σ) w l z) (sym e.0) d in
    omega (arith, e.1, is_alike (names σ) (names_rise σ ok) t k l y z b d')

-- below the next free number,
pub same_below : (ρ σ : Recording) (x y : ℕ) → Same ρ σ x y → (x < next ρ) × (y < next σ)
same_below ρ σ x y (t, (k, a, b)) =
    (omega (arith, is_below (names ρ) t k x a, next_names ρ), omega (arith, is_below (names σ) t k y b, next_names σ))

-- and two of a thread keep their order.
pub match_ascends : (ρ σ : Recording) → Accepted ρ → Accepted σ → (t x y z w : ℕ) → Match t ρ σ x y → Match t ρ σ z w → x < z → y < w
match_ascends ρ σ okρ okσ t x y z w (k, a, b) (l, c, d) h =
    omega (arith, is_alike (names ρ) (names_rise ρ okρ) t k l x z a c, is_alike (names σ) (names_rise σ okσ) t k l y w b d)

-- A segment that a thread was in has a name of that thread.
pub was_named : (ρ : Recording) → Accepted ρ → (t x : ℕ) → WasIn ρ t x → (k : ℕ) × Is (names ρ) t k x
was_named none ok t x w = (0, inl (w.0, refl, w.1))
was_named (ρ ▸ a) ok t x (inl w) = let n = was_named ρ ok.0 t x w in (n.0, is_more ρ a t n.0 x n.1)
was_named (ρ ▸ a) ok t x (inr w) =
    (pace (ρ ▸ a) t, subst (λ s. Is (names (ρ ▸ a)) t (pace (ρ ▸ a) t) s) (sym w.1) (is_now (ρ ▸ a) t ok w.0))

-- What a recording drew it keeps.
pub drawn_kept : {κ σ : Recording} (p : ℕ) (e : Edge) → κ ⊑ σ → DrawnAt κ p e → DrawnAt σ p e
drawn_kept p e (now q) d = subst (λ r. DrawnAt r p e) q d
drawn_kept p e (later q) d = inr (drawn_kept p e q d)
