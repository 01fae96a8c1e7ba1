-- What a thread holds, as a list and as a set of bits.
-- Assumes nothing.
use Rattle.std.proofs.Common.{◌≡◌, ℕ, zero, suc, ◌<◌, Bool, true, false, cond, ◌⊎◌, ◌∷◌, sym, refl, ap, ◌∙◌, inl, inr, arith}
use mathlib.Core.List.Memᴰ
use mathlib.Core.List.{Memᴰ}
use Rattle.std.proofs.lemmas.Bool.{ltb-true, lt-ltb, cases_eq}
use Rattle.recording.specs.Recording.{Recording}
use Rattle.recording.specs.Halts.{takes, frees, count}
use Rattle.recording.specs.Ledger.{HoldsNow, Accepted}
use Rattle.recording.specs.Edges.{Guards}
use Rattle.recording.specs.EdgeList.{holds_now, passing, gather}
use Rattle.recording.proofs.Counts.{held_small}
use Rattle.recording.proofs.Bitsets.{gather_small, in_gather, gather_in, same_bits}

pub passing_in : (test : ℕ → Bool) (n l : ℕ) → l < n → test l ≡ true → Memᴰ l (passing test n)
passing_in test zero l h t = absurd (omega arith)
passing_in test (suc n) l h t = go (test n) refl (cases_eq l n) (passing_in test n l)
  where
    go : (b : Bool) → test n ≡ b → (l ≡ n) ⊎ (l ≡ n → ⊥) → (l < n → test l ≡ true → Memᴰ l (passing test n))
        → Memᴰ l (cond b (n ∷ passing test n) (passing test n))
    go true e (inl q) below = Memᴰ.head q
    go true e (inr d) below = Memᴰ.tail (below (omega arith) t)
    go false e (inl q) below =
        let f : ◌≡◌ {A = Bool} true false = sym t ∙ ap test q ∙ e in let z : ◌≡◌ {A = ℕ} 0 1 = cc in absurd (omega arith)
    go false e (inr d) below = below (omega arith) t

pub passing_out : (test : ℕ → Bool) (n l : ℕ) → Memᴰ l (passing test n) → test l ≡ true
passing_out test zero l m = absurd (Memᴰ.not-nil m)
passing_out test (suc n) l m = go (test n) refl m (passing_out test n l)
  where
    go : (b : Bool) → test n ≡ b → Memᴰ l (cond b (n ∷ passing test n) (passing test n))
        → (Memᴰ l (passing test n) → test l ≡ true) → test l ≡ true
    go true e (Memᴰ.head q) below = ap test q ∙ e
    go true e (Memᴰ.tail k) below = below k
    go false e k below = below k

module _ (ρ : Recording) (acc : Accepted ρ) (t : ℕ) where
  pub holds_test : (l : ℕ) → HoldsNow ρ t l → holds_now ρ t l ≡ true
  holds_test l h = lt-ltb (count (frees t l) (λ p. true) ρ) (count (takes t l) (λ p. true) ρ) h

  pub test_holds : (l : ℕ) → holds_now ρ t l ≡ true → HoldsNow ρ t l
  test_holds l h = ltb-true (count (frees t l) (λ p. true) ρ) (count (takes t l) (λ p. true) ρ) h

  pub guards_gathered : Guards ρ t (gather (holds_now ρ t) 64)
  guards_gathered = (
    gather_small 64 (holds_now ρ t),
    λ l. (
      λ i. test_holds l (in_gather 64 (holds_now ρ t) l i),
      λ h. gather_in 64 (holds_now ρ t) l (omega (arith, held_small ρ acc t l h)) (holds_test l h),
    ),
  )

  pub guards_same : (g : ℕ) → Guards ρ t g → g ≡ gather (holds_now ρ t) 64
  guards_same g (small, is) =
      same_bits 64 g (gather (holds_now ρ t) 64) small guards_gathered.0
      (λ l i. (guards_gathered.1 l).1 ((is l).0 i)) (λ l i. (is l).1 ((guards_gathered.1 l).0 i))
