-- From a closed chain of drawn edges to a halt that shows its circle.
-- Assumes nothing.
use Rattle.std.proofs.Common.{◌≡◌, ℕ, ◌<◌, Bool, true, false, T, ◌⊎◌, List, ◌∷◌, Some, sym, refl, ap, ◌∙◌, subst, subst₂, inl, inr, ⊎_elim, arith}
use mathlib.Core.List.Memᴰ
use mathlib.Core.List.{Memᴰ}
use native.Mathlib.Decide.{ℕ_discrete, dec_lt}
use lib.Bits.{and_comm}
use Rattle.rows.specs.declared.event.Event.{Event}
use Rattle.rows.specs.declared.event.Event.TheVariants.{Lock}
use Rattle.rows.specs.declared.edge.Edge.{Edge}
use Rattle.rows.specs.declared.step.Step.{Step}
use Rattle.recording.specs.Recording.{Recording, size, event, actor, in_thread}
use Rattle.recording.specs.Segments.{arrows, Precedes, Parallel}
use Rattle.recording.specs.Halts.{Halt, Holds, Stands, CanStopIn}
use Rattle.recording.specs.Ledger.{Accepted}
use Rattle.recording.specs.Edges.{DrawnIn}
use Rattle.rows.specs.Edges.{In}
use Rattle.std.specs.List.{AllByRecursion}
use Rattle.sorted_list.proofs.Members.{all_member}
use Rattle.recording.specs.Chains.{Pairwise, Apart, step, Closes}
use Rattle.recording.proofs.Prefixes.{⊑_size, ⊑_init, ⊑_trans, event_at, read_at}
use Rattle.recording.proofs.Paths.{path?}
use Rattle.recording.proofs.Numbering.{layered}
use Rattle.recording.proofs.Moves.{out, out_at, actor_at, Comes, comes, comes_comes}
use Rattle.recording.proofs.Counts.{Stood, held_at_halt, T_true}
use Rattle.recording.proofs.Bitsets.{and_apart}
use Rattle.recording.proofs.Members.{all_from, pairwise_at, some?, pairs, pairs_at, pairwise_pairs}
use Rattle.recording.proofs.Standing.{stands, Spot, spot}

both? : {A B : Type 0} → Dec A → Dec B → Dec (A × B)
both? (yes a) (yes b) = yes (a, b)
both? (yes a) (no nb) = no (λ w. nb w.1)
both? (no na) d = no (λ w. na w.0)

either? : {A B : Type 0} → Dec A → Dec B → Dec (A ⊎ B)
either? (yes a) d = yes (inl a)
either? (no na) (yes b) = yes (inr b)
either? (no na) (no nb) = no (⊎_elim na nb)

told : {A : Type 0} → Dec A → Bool
told (yes a) = true
told (no na) = false

told_yes : {A : Type 0} (d : Dec A) → T (told d) → A
unfolding told
told_yes (yes a) h = a
told_yes (no na) h = absurd h

yes_told : {A : Type 0} (d : Dec A) → A → T (told d)
unfolding told
yes_told (yes a) h = tt
yes_told (no na) h = absurd (na h)

no_told : {A : Type 0} (d : Dec A) → (A → ⊥) → told d ≡ false
unfolding told
no_told (yes a) h = absurd (h a)
no_told (no na) h = refl

comes? : (ρ : Recording) → Accepted ρ → (p q : ℕ) → Dec (Comes ρ p q)
comes? ρ acc p q =
    both? (dec_lt p q) (either? (path? (arrows ρ) (layered ρ acc) (out_at ρ p) (out_at ρ q))
    (both? (ℕ_discrete (out_at ρ p) (out_at ρ q)) (ℕ_discrete (actor_at ρ p) (actor_at ρ q))))

apart_flip : (ρ : Recording) (e f : Edge) → Apart (Parallel ρ) e f → Apart (Parallel ρ) f e
apart_flip ρ e f h = (λ q. h.0 (sym q), and_comm f.guards e.guards ∙ h.1, (h.2.1, h.2.0))

module _ (ρ : Recording) (acc : Accepted ρ) (W : ℕ → Type 0) where
  -- An edge with the place where it was drawn.
  abbrev Target : Type 0
  Target = (e : Edge) × Spot ρ W e

  abbrev place : Target → ℕ
  place z = size z.1.before

  segment_at : (z : Target) → out_at ρ (place z) ≡ z.0.segment
  segment_at z = read_at out 0 z.1.is ∙ sym z.1.segment_is

  thread_at : (z : Target) → actor_at ρ (place z) ≡ z.0.thread
  thread_at z = read_at (λ _ x. actor x) 0 z.1.is

  module _ (zs : List Target) (apart : Pairwise (λ y z. Apart (Parallel ρ) y.0 z.0) zs) where
    -- The place comes before that of a target.
    abbrev Past : ℕ → Type 0
    Past p = (z : Target) × Memᴰ z zs × Comes ρ p (place z)

    past? : (p : ℕ) → Dec (Past p)
    past? p = some? (λ z. Comes ρ p (place z)) (λ z. comes? ρ acc p (place z)) zs

    halted : ℕ → Bool
    halted p = told (past? p)

    past_halted : (p : ℕ) → Past p → T (halted p)
    unfolding halted
    past_halted p = yes_told (past? p)

    halted_past : (p : ℕ) → T (halted p) → Past p
    unfolding halted
    halted_past p = told_yes (past? p)

    halt : Halt ρ halted
    halt = record {
      inside = λ p h. let w = halted_past p h in omega (arith, w.2.0, ⊑_size w.0.1.is);
      closed = λ p q b h. let w = halted_past q h in past_halted p (w.0, w.1, comes_comes ρ (comes ρ acc b) w.2);
    }

    one_or_apart : (y z : Target) → Memᴰ y zs → Memᴰ z zs → (y ≡ z) ⊎ Apart (Parallel ρ) y.0 z.0
    one_or_apart y z m n = pairwise_at (λ v w. Apart (Parallel ρ) v.0 w.0) (λ v w. apart_flip ρ v.0 w.0) zs apart m n

    -- No target comes before a target.
    no_target : (z : Target) → Memᴰ z zs → Past (place z) → ⊥
    no_target z m (y, n, (k, f)) = ⊎_elim (λ e. omega (arith, ap place e)) other (one_or_apart z y m n)
      where
        other : Apart (Parallel ρ) z.0 y.0 → ⊥
        other a =
            ⊎_elim (λ p. a.2.0 (subst₂ (Precedes ρ) (segment_at z) (segment_at y) p))
            (λ e. a.0 (sym (thread_at z) ∙ (e.1 ∙ thread_at y))) f

    outside : (z : Target) → Memᴰ z zs → halted (place z) ≡ false
    unfolding halted
    outside z m = no_told (past? (place z)) (no_target z m)

    -- What a target's thread did earlier is in the halt.
    earlier : (z : Target) → Memᴰ z zs → (p : ℕ) (a : Event) → event ρ p ≡ Some a → actor a ≡ z.0.thread → p < place z
        → T (halted p)
    earlier z m p a e s k = past_halted p (z, m, comes ρ acc (in_thread e (event_at z.1.is) s k))

    stood : (z : Target) → Memᴰ z zs → Stood ρ z.1.before halted z.0.thread
    stood z m =
        stands ρ halted halt z.1.is (outside z m)
        (λ τ e h s. T_true (halted (size τ))
        (earlier z m (size τ) e (event_at (⊑_trans h (⊑_init z.1.is))) s (omega (arith, ⊑_size h))))

    -- Apart targets hold no lock in common.
    no_common : (y z : Target) (m : Memᴰ y zs) (n : Memᴰ z zs) → (y.0.thread ≡ z.0.thread → ⊥) → (l : ℕ)
        → Holds ρ halted y.0.thread l → Holds ρ halted z.0.thread l → ⊥
    no_common y z m n ne l h k =
        ⊎_elim (λ e. ne (ap (λ w. w.0.thread) e))
        (λ a. and_apart y.0.guards z.0.guards a.1 l (bit y m h) (bit z n k)) (one_or_apart y z m n)
      where
        bit : (x : Target) → Memᴰ x zs → Holds ρ halted x.0.thread l → In l x.0.guards
        bit x q g = (x.1.guards.1 l).1 ((held_at_halt (stood x q) l).0 g)

    module _ (c : List Step) (target : (s : Step) → Memᴰ s c → (z : Target) × Memᴰ z zs × (step z.0 ≡ s)) where
      standing : (s : Step) (m : Memᴰ s c) → Stands ρ halted (Lock s.thread s.wanted)
      standing s m = let w = target s m in record {
        place = place w.0;
        is = event_at w.0.1.is ∙ ap (λ x. Some (Lock x.thread x.wanted)) w.2;
        outside = outside w.0 w.1;
        earlier = λ p a e q k. earlier w.0 w.1 p a e (q ∙ ap (λ x. x.thread) (sym w.2)) k;
      }

      holding : (s : Step) (m : Memᴰ s c) → Holds ρ halted s.thread s.held
      holding s m =
          let w = target s m in
          subst (λ x. Holds ρ halted x.thread x.held) w.2
          ((held_at_halt (stood w.0 w.1) w.0.0.held).1 w.0.1.holds)

      none_common : (s z : Step) → Memᴰ s c → Memᴰ z c → (s.thread ≡ z.thread → ⊥) → (l : ℕ)
          → Holds ρ halted s.thread l → Holds ρ halted z.thread l → ⊥
      none_common s z m n ne l h k =
          no_common v.0 w.0 v.1 w.1 (λ e. ne (sym vt ∙ (e ∙ wt))) l (subst (λ x. Holds ρ halted x l) (sym vt) h)
          (subst (λ x. Holds ρ halted x l) (sym wt) k)
        where
          v : (y : Target) × Memᴰ y zs × (step y.0 ≡ s)
          v = target s m

          w : (y : Target) × Memᴰ y zs × (step y.0 ≡ z)
          w = target z n

          vt : v.0.0.thread ≡ s.thread
          vt = ap (λ x. x.thread) v.2

          wt : w.0.0.thread ≡ z.thread
          wt = ap (λ x. x.thread) w.2

      can_stop : CanStopIn ρ W c
      unfolding standing
      can_stop = (
        halted,
        halt,
        record {
          waits = λ s m. (standing s m, holding s m);
          apart = none_common;
        },
        λ s m. (target s m).0.1.within,
      )

  -- A closed chain of drawn edges gives a circle in which the recording can stop.
  pub stops : (c : List Step) → Closes (DrawnIn ρ W) (Parallel ρ) c → CanStopIn ρ W c
  stops c k =
      can_stop (pairs (Spot ρ W) edges spots)
      (pairwise_pairs (Spot ρ W) (Apart (Parallel ρ)) edges spots k.chain.apart) c target
    where
      edges : List Edge
      edges = k.first ∷ k.rest

      spots : AllByRecursion (Spot ρ W) edges
      spots = all_from (Spot ρ W) edges (λ e m. spot ρ W e (all_member (DrawnIn ρ W) edges k.drawn m))

      target : (s : Step) → Memᴰ s c → (z : Target) × Memᴰ z (pairs (Spot ρ W) edges spots) × (step z.0 ≡ s)
      target s m =
          let x = Memᴰ.of_map step edges (subst (Memᴰ s) (sym k.gives) m) in
          let w = pairs_at (Spot ρ W) edges spots x.1 in
          (w.0, w.1, ap step (sym w.2) ∙ x.2)
