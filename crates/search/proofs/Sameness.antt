-- Whether rows are the same, by their places.
-- Assumes nothing.
use Rattle.std.proofs.Common.{◌≡◌, ◌&&◌, Bool, eqb, Decides, refl, ap}
use Rattle.std.proofs.lemmas.Bool.Decides.{Decides-like, Decides-and, Decides-eqb}
use Rattle.std.proofs.lemmas.Slice.Eq.{slice_eq-Decides}
use Rattle.std.specs.Cmp.Lexicographic.{pointwise}
use Rattle.rows.specs.declared.row.CircleRow.{CircleRow}
use Rattle.rows.specs.declared.step.Step.{Step}

abbrev pub steps_equal : Step → Step → Bool
steps_equal s z = eqb s.thread z.thread && (eqb s.held z.held && eqb s.wanted z.wanted)

steps_same : (s z : Step) → Decides (steps_equal s z) (s ≡ z)
steps_same s z =
    Decides-like _ (λ h i. record { thread = h.0 i; held = h.1.0 i; wanted = h.1.1 i })
    (λ e. (ap (λ x. x.thread) e, (ap (λ x. x.held) e, ap (λ x. x.wanted) e)))
    (Decides-and _ _ (Decides-eqb s.thread z.thread)
    (Decides-and _ _ (Decides-eqb s.held z.held) (Decides-eqb s.wanted z.wanted)))

abbrev pub rows_equal : CircleRow → CircleRow → Bool
rows_equal a b = eqb a.count b.count && pointwise steps_equal a.steps b.steps

pub rows_same : (a b : CircleRow) → Decides (rows_equal a b) (a ≡ b)
rows_same a b =
    Decides-like _ (λ h i. record { count = h.0 i; steps = h.1 i }) (λ e. (ap (λ x. x.count) e, ap (λ x. x.steps) e))
    (Decides-and _ _ (Decides-eqb a.count b.count) (slice_eq-Decides steps_same a.steps b.steps _ refl))
