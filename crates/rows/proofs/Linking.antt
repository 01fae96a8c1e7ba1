-- The walk round the steps of a circle.
-- Assumes nothing.
use Rattle.std.proofs.Common.{◌≡◌, Bool, ◌&&◌, eqb, List, [], ◌∷◌, ◌++◌, take, drop, refl, ap}
use Rattle.std.proofs.Math.Bool.{and-true}
use Rattle.std.specs.List.{list_all, zip}
use Rattle.rows.specs.Circles.{linked, closes}
use Rattle.rows.specs.declared.step.Step.{Step}

-- the first step wants what the second one holds
abbrev pub waits_for : Step × Step → Bool
waits_for p = eqb p.0.wanted p.1.held

walk : (s : Step) (zs : List Step) (first : Step) → list_all waits_for (zip (s ∷ zs) (zs ++ first ∷ [])) ≡ linked s.wanted zs first.held
walk s [] first = and-true (eqb s.wanted first.held)
walk s (z ∷ zs) first = ap (λ b. eqb s.wanted z.held && b) (walk z zs first)

pub closes_round : (zs : List Step) → list_all waits_for (zip zs (drop 1 zs ++ take 1 zs)) ≡ closes zs
closes_round [] = refl
closes_round (s ∷ zs) = walk s zs s
