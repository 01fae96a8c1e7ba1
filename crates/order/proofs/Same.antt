-- Two meanings are the same where they answer alike.
use Rattle.std.proofs.Common.{◌≡◌, ℕ}
use Rattle.order.specs.Meaning.{Meaning}

pub same_meaning : (m k : Meaning) → m.segments ≡ k.segments → ((a b : ℕ) → m.before a b ≡ k.before a b)
    → ((a : ℕ) → m.ends a ≡ k.ends a) → m ≡ k
same_meaning m k s b e = λ i. record { segments = s i; before = λ x y. b x y i; ends = λ x. e x i }
