-- Known bytes, when nothing is written, and when no more than n are read.
-- Assumes nothing.
use Rattle.std.proofs.Common.{◌≡◌, ℕ, List, [], ◌++◌, take, Option, None, Some, IfSome, append-nil, sym}
use Rattle.std.specs.Option.{option_map}
use Rattle.std.specs.Io.KnownBytes.{Appends}

pub appends_nothing : (known : Option (List ℕ)) → Appends known known []
appends_nothing None = tt
appends_nothing (Some xs) = sym (append-nil xs)

pub taken : (n : ℕ) (known : Option (List ℕ)) (all : List ℕ) →
    IfSome (option_map (take n) known) (λ xs. all ≡ [] ++ xs) → IfSome known (λ xs. all ≡ take n xs)
taken n None all h = tt
taken n (Some xs) all h = h
