-- The order after a fork and after a meet is that of the recording with the start or the join at its end.
-- Assumes nothing.
use Rattle.std.proofs.Common.{◌≡◌, ℕ, ◌+◌, ◌⊎◌, List, ◌∷◌, Decides, sym, ap, ◌∙◌, subst, inl, inr, arith}
use mathlib.Core.List.{Memᴰ}
use Rattle.std.proofs.lemmas.Bool.Decides.{Decides-like, Decides-eqb, Decides-not, Decides-and, Decides-or}
use Rattle.order.specs.Arrows.{Arrow, arrow, Path⁺}
use Rattle.order.specs.Meaning.{Meaning, forked, met}
use Rattle.order.proofs.Histories.{Lawful, fork_lawful, meet_lawful}
use Rattle.rows.specs.declared.event.Event.TheVariants.{Start, Join}
use Rattle.recording.specs.Recording.{Recording, ◌▸◌}
use Rattle.recording.specs.Ledger.{life, Allowed, Accepted}
use Rattle.recording.specs.Segments.{next, segment, arrows}
use Rattle.recording.specs.Reports.{Tells}
use Rattle.recording.proofs.Paths.{wider}
use Rattle.recording.proofs.Lives.{Born, live_born, still_born, life_started, life_start_other}
use Rattle.recording.proofs.Numbering.{numbered, born_before, segment_starter, segment_started, segment_joiner, on_start, on_join}
use Rattle.rules.specs.Behind.{Occupied}

swap : {a b c : Arrow} {L : List Arrow} → Memᴰ c (a ∷ b ∷ L) → Memᴰ c (b ∷ a ∷ L)
swap (Memᴰ.head e) = Memᴰ.tail (Memᴰ.head e)
swap (Memᴰ.tail (Memᴰ.head e)) = Memᴰ.head e
swap (Memᴰ.tail (Memᴰ.tail m)) = Memᴰ.tail (Memᴰ.tail m)

module _ (ρ : Recording) (acc : Accepted ρ) (m : Meaning) (free : m.segments ≡ next ρ) (tells : Tells m.before ρ)
    (ends : (x : ℕ) → Decides (m.ends x) (Occupied ρ x)) where
  lawful : Lawful (record { order = m; arrows = arrows ρ })
  lawful = record {
    inside = λ x y k. let r = (numbered ρ acc).rising x y k in (omega arith, omega arith);
    stands = λ a e. let o = (ends a).0 e in omega (arith, (numbered ρ acc).below o.0, o.2);
    told = tells;
  }

  -- Nobody else is in the segment of a thread that was started.
  alone : (t v x : ℕ) → Born ρ t → Born ρ v → x ≡ segment ρ t → segment ρ v ≡ x → v ≡ t
  alone t v x b c e f = (numbered ρ acc).distinct v t c b (f ∙ e)

  module _ (t u x : ℕ) (al : Allowed ρ (Start t u)) (at : x ≡ segment ρ t) where
    pub tells_forked : Tells (forked m x).before (ρ ▸ Start t u)
    tells_forked a b =
        let n = m.segments in
        let same : arrow x n ∷ arrow x (n + 1) ∷ arrows ρ ≡ arrows (ρ ▸ Start t u) =
        λ i. arrow (at i) (free i) ∷ arrow (at i) (free i + 1) ∷ arrows ρ in
        let law = fork_lawful (record { order = m; arrows = arrows ρ }) lawful x (omega (arith, (numbered ρ acc).below t)) in
        Decides-like _ (λ p. subst (λ L. Path⁺ L a b) same (wider (λ v w k. swap k) p))
        (λ p. wider (λ v w k. swap k) (subst (λ L. Path⁺ L a b) (sym same) p)) (law.told a b)

    pub ends_forked : (a : ℕ) → Decides ((forked m x).ends a) (Occupied (ρ ▸ Start t u) a)
    ends_forked a =
        Decides-like _ to from
        (Decides-or _ _ (Decides-eqb a (m.segments + 1)) (Decides-or _ _ (Decides-eqb a m.segments)
        (Decides-and _ _ (Decides-not _ (Decides-eqb a x)) (ends a))))
      where
        born : Born ρ t
        born = live_born ρ t al.2

        not_started : (v : ℕ) → Born ρ v → v ≡ u → ⊥
        not_started v b e = b (ap (life ρ) e ∙ al.3)

        to : (a ≡ m.segments + 1) ⊎ ((a ≡ m.segments) ⊎ ((a ≡ x → ⊥) × Occupied ρ a)) → Occupied (ρ ▸ Start t u) a
        to (inl e) = (
          u,
          live_born (ρ ▸ Start t u) u (life_started ρ t u),
          segment_started ρ t u (λ f. not_started t born (sym f)) ∙ omega arith,
        )
        to (inr (inl e)) = (t, still_born ρ (Start t u) t born, segment_starter ρ t u ∙ omega arith)
        to (inr (inr (ne, (v, b, s)))) = (
          v,
          still_born ρ (Start t u) v b,
          on_start ρ t u v (λ z. z ≡ a) (λ e. absurd (ne (sym s ∙ (ap (segment ρ) e ∙ sym at)))) (λ e. absurd (not_started v b e))
              (λ _ _. s),
        )

        from : Occupied (ρ ▸ Start t u) a → (a ≡ m.segments + 1) ⊎ ((a ≡ m.segments) ⊎ ((a ≡ x → ⊥) × Occupied ρ a))
        from (v, b, s) =
            on_start ρ t u v (λ z. z ≡ a → (a ≡ m.segments + 1) ⊎ ((a ≡ m.segments) ⊎ ((a ≡ x → ⊥) × Occupied ρ a)))
            (λ _ f. inr (inl (omega arith))) (λ _ f. inl (omega arith))
            (λ nt nu f. let c : Born ρ v = λ e. b (life_start_other ρ t u v nu ∙ e) in
            inr (inr ((λ e. nt (alone t v x born c at (f ∙ e))), (v, c, f)))) s

  module _ (t u x y : ℕ) (al : Allowed ρ (Join t u)) (at : x ≡ segment ρ t) (other : y ≡ segment ρ u) where
    pub tells_met : Tells (met m x y).before (ρ ▸ Join t u)
    tells_met a b =
        let n = m.segments in
        let same : arrow x n ∷ arrow y n ∷ arrows ρ ≡ arrows (ρ ▸ Join t u) =
        λ i. arrow (at i) (free i) ∷ arrow (other i) (free i) ∷ arrows ρ in
        let below = (numbered ρ acc).below in
        let law = meet_lawful (record { order = m; arrows = arrows ρ }) lawful x y (omega (arith, below t))
        (omega (arith, below u)) in
        Decides-like _ (subst (λ L. Path⁺ L a b) same) (subst (λ L. Path⁺ L a b) (sym same)) (law.told a b)

    pub ends_met : (a : ℕ) → Decides ((met m x y).ends a) (Occupied (ρ ▸ Join t u) a)
    ends_met a =
        Decides-like _ to from
        (Decides-or _ _ (Decides-eqb a m.segments) (Decides-and _ _ (Decides-not _ (Decides-eqb a x)) (ends a)))
      where
        born : Born ρ t
        born = live_born ρ t al.2

        to : (a ≡ m.segments) ⊎ ((a ≡ x → ⊥) × Occupied ρ a) → Occupied (ρ ▸ Join t u) a
        to (inl e) = (t, still_born ρ (Join t u) t born, segment_joiner ρ t u ∙ omega arith)
        to (inr (ne, (v, b, s))) = (
          v,
          still_born ρ (Join t u) v b,
          on_join ρ t u v (λ z. z ≡ a) (λ e. absurd (ne (sym s ∙ (ap (segment ρ) e ∙ sym at)))) (λ _. s),
        )

        from : Occupied (ρ ▸ Join t u) a → (a ≡ m.segments) ⊎ ((a ≡ x → ⊥) × Occupied ρ a)
        from (v, b, s) =
            on_join ρ t u v (λ z. z ≡ a → (a ≡ m.segments) ⊎ ((a ≡ x → ⊥) × Occupied ρ a)) (λ _ f. inl (omega arith))
            (λ nt f. let c = born_before ρ t u al v b in inr ((λ e. nt (alone t v x born c at (f ∙ e))), (v, c, f))) s
