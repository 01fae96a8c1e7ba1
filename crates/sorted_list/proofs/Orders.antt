-- What a total order gives.
-- Assumes nothing.
use Rattle.std.proofs.Common.{◌≡◌, Ordering, Less, Equal, Greater, sym, refl, ap, ◌∙◌}
use Rattle.std.specs.Cmp.{IsTotalOrder}
use Rattle.std.specs.Ordering.{ordering_reverse}
use Rattle.sorted_list.specs.Orders.{TotalOrder}

-- an order that is lawful in the library's words
pub lawful : {X : Type 0} {R : X → X → Ordering} (o : IsTotalOrder R) → TotalOrder R
lawful o = record { flip = o.antisymm; trans = o.trans; alike = o.congr }

pub library_order : {X : Type 0} {R : X → X → Ordering} (o : TotalOrder R) → IsTotalOrder R
library_order o = record { antisymm = o.flip; trans = o.trans; congr = o.alike }

-- no two answers at once
pub not_equal : {o : Ordering} → o ≡ Less → o ≡ Equal → ⊥
not_equal p q = cc

pub not_greater : {o : Ordering} → o ≡ Less → o ≡ Greater → ⊥
not_greater p q = cc

pub equal_not_greater : {o : Ordering} → o ≡ Equal → o ≡ Greater → ⊥
equal_not_greater p q = cc

own_flip : (o : Ordering) → o ≡ ordering_reverse o → o ≡ Equal
own_flip Less e = absurd (not_greater refl e)
own_flip Equal e = e
own_flip Greater e = absurd (not_greater e refl)

module _ {X : Type 0} {rank : X → X → Ordering} (o : TotalOrder rank) where
  pub equal_self : (x : X) → rank x x ≡ Equal
  equal_self x = own_flip (rank x x) (o.flip x x)

  pub flipped : {x y : X} {a : Ordering} → rank x y ≡ a → rank y x ≡ ordering_reverse a
  flipped {x} {y} e = o.flip y x ∙ ap ordering_reverse e

  -- what comes before a record comes before all that are equal to it
  pub before_equal : {x y r : X} → rank x y ≡ Less → rank y r ≡ Equal → rank x r ≡ Less
  before_equal {x} {y} {r} p q = flipped (sym (o.alike y r x q) ∙ flipped p)
