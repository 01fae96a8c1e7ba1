-- From a halt that shows a circle to a closed chain of drawn edges.
-- Assumes nothing.
use Rattle.std.proofs.Common.{◌≡◌, ℕ, ◌<◌, ◌≤◌, Bool, false, T, List, [], ◌∷◌, map, length, Some, sym, refl, ap, ◌∙◌, subst, inr, ⊎_elim, arith}
use mathlib.Core.List.{Memᴰ}
use Rattle.std.proofs.lemmas.Bool.{false≢true}
use Rattle.rows.specs.declared.event.Event.{Event}
use Rattle.rows.specs.declared.event.Event.TheVariants.{Lock}
use Rattle.rows.specs.declared.edge.Edge.{Edge}
use Rattle.rows.specs.declared.step.Step.{Step}
use Rattle.recording.specs.Recording.{Recording, ◌▸◌, size, actor, start_acts}
use Rattle.order.specs.Arrows.{Path⁺}
use Rattle.recording.specs.Segments.{segment, arrows, Precedes, Parallel}
use Rattle.recording.specs.Halts.{Halt, Stands, Shows, CanStopIn}
use Rattle.recording.specs.Ledger.{Accepted, HoldsNow}
use Rattle.recording.specs.Edges.{Guards, DrawnIn}
use Rattle.recording.specs.EdgeList.{holds_now, gather, edge_drawn}
use Rattle.rows.specs.Edges.{In}
use Rattle.std.specs.List.{AllByRecursion}
use Rattle.rows.specs.Circles.{Linked, IsCircle, Apart as ThreadsApart}
use Rattle.recording.specs.Chains.{Pairwise, Apart, wanted_at_last, step, Closes}
use Rattle.recording.proofs.Prefixes.{◌⊑◌, ⊑_size, ⊑_init, ⊑_trans, ⊑_order, ▸_right, accepted_init, event_at, Found, found}
use Rattle.recording.proofs.Paths.{first_arrow}
use Rattle.recording.proofs.Lives.{live_born}
use Rattle.recording.proofs.Numbering.{numbered}
use Rattle.recording.proofs.Latest.{precedes_before}
use Rattle.recording.proofs.Moves.{acts_live, arrows_stay}
use Rattle.recording.proofs.Known.{Known, knows, before_later}
use Rattle.recording.proofs.Counts.{Stood, held_at_halt, Took, took, T_true, true_T}
use Rattle.recording.proofs.Bitsets.{apart_and}
use Rattle.recording.proofs.Guards.{guards_gathered}
use Rattle.recording.proofs.Members.{all_from}
use Rattle.recording.proofs.Standing.{stands, drawn}

lock_thread : {t o u n : ℕ} → Lock t o ≡ Lock u n → t ≡ u
lock_thread p = cc

module _ (ρ : Recording) (acc : Accepted ρ) (W : ℕ → Type 0) (halted : ℕ → Bool) (halt : Halt ρ halted) (c : List Step)
    (shows : Shows ρ halted c) where
  -- A step of the circle, with the place where its thread stands.
  record Waiting (s : Step) : Type 0 where
    member : Memᴰ s c
    before : Recording
    is : (before ▸ Lock s.thread s.wanted) ⊑ ρ
    within : W (size before)
    outside : halted (size before) ≡ false
    stood : Stood ρ before halted s.thread
    holds : HoldsNow before s.thread s.held

  waiting : ((s : Step) (m : Memᴰ s c) → W (shows.waits s m).0.place) → (s : Step) → Memᴰ s c → Waiting s
  waiting w s m =
      record {
        member = m;
        before = f.before;
        is = f.is;
        within = subst W (sym f.place) (w s m);
        outside = out_here;
        stood = st;
        holds = (held_at_halt st s.held).0 (shows.waits s m).1;
      }
    where
      k : Stands ρ halted (Lock s.thread s.wanted)
      k = (shows.waits s m).0

      f : Found ρ k.place (Lock s.thread s.wanted)
      f = found ρ k.is

      out_here : halted (size f.before) ≡ false
      out_here = ap halted f.place ∙ k.outside

      st : Stood ρ f.before halted s.thread
      st =
          stands ρ halted halt f.is out_here
          (λ τ e h q. T_true (halted (size τ))
          (k.earlier (size τ) e (event_at (⊑_trans h (⊑_init f.is))) q (omega (arith, ⊑_size h, f.place))))

  accepted_at : (s : Step) (w : Waiting s) → Accepted w.before
  accepted_at s w = accepted_init (⊑_init w.is) acc

  guards_there : (s : Step) (w : Waiting s) → Guards w.before s.thread (gather (holds_now w.before s.thread) 64)
  guards_there s w = guards_gathered w.before (accepted_at s w) s.thread

  -- The edge that the awaited event draws.
  abbrev edge : (s : Step) → Waiting s → Edge
  edge s w = edge_drawn w.before s.thread s.wanted s.held

  drawn_there : (s : Step) (w : Waiting s) → DrawnIn ρ W (edge s w)
  drawn_there s w =
      drawn ρ W (edge s w) (record {
        before = w.before;
        is = w.is;
        within = w.within;
        holds = w.holds;
        guards = guards_there s w;
        segment_is = refl;
      })

  not_halted : (s : Step) (w : Waiting s) → T (halted (size w.before)) → ⊥
  not_halted s w h = false≢true (sym w.outside ∙ T_true (halted (size w.before)) h)

  -- What a waiting thread knows is in the halt.
  known_halted : (z : Step) (x : Waiting z) {p : ℕ} → Known x.before p z.thread → T (halted p)
  known_halted z x {p} k =
      ⊎_elim (λ e. subst (λ r. T (halted r)) (sym e) there)
      (λ b. halt.closed p k.via (before_later (⊑_init x.is) b) there) k.after
    where
      f : Found x.before k.via k.what
      f = found x.before k.is

      first : Took x.before z.thread z.held
      first = took x.before z.thread z.held x.holds

      done : {τ : Recording} {e : Event} → (τ ▸ e) ⊑ x.before → actor e ≡ z.thread → T (halted (size τ))
      done {τ} {e} h q = true_T (x.stood.done τ e h q)

      there : T (halted k.via)
      there = ⊎_elim
          (λ q. subst (λ r. T (halted r)) f.place (done f.is q))
          (λ b. halt.closed k.via (size first.before)
          (before_later (⊑_init x.is) (start_acts (k.is ∙ ap Some b.1) (event_at first.is))) (done first.is refl))
          k.own

  -- No waiting thread's segment precedes that of another.
  not_precedes : (s z : Step) (w : Waiting s) (x : Waiting z) → (s.thread ≡ z.thread → ⊥)
      → Precedes ρ (segment w.before s.thread) (segment x.before z.thread) → ⊥
  not_precedes s z w x ne p = ⊎_elim earlier (λ r. ⊎_elim (λ e. ne (lock_thread (▸_right e))) later' r) (⊑_order w.is x.is)
    where
      q : Path⁺ (arrows x.before) (segment w.before s.thread) (segment x.before z.thread)
      q = precedes_before (⊑_init x.is) acc ((numbered x.before (accepted_at z x)).below z.thread) p

      earlier : (w.before ▸ Lock s.thread s.wanted) ⊑ x.before → ⊥
      earlier h =
          not_halted s w (known_halted z x (knows x.before (accepted_at z x) h z.thread
          (live_born x.before z.thread (acts_live ρ acc x.is)) (inr q)))

      later' : (x.before ▸ Lock z.thread z.wanted) ⊑ w.before → ⊥
      later' h =
          let m = first_arrow q in
          (numbered w.before (accepted_at s w)).leaf s.thread (segment w.before s.thread) m.0
          (acts_live ρ acc w.is) refl (arrows_stay (⊑_init h) (segment w.before s.thread) m.0 m.1)

  edges_apart : (s z : Step) (w : Waiting s) (x : Waiting z) → (s.thread ≡ z.thread → ⊥) → Apart (Parallel ρ) (edge s w) (edge z x)
  edges_apart s z w x ne = (
    ne,
    apart_and 64 (edge s w).guards (edge z x).guards (guards_there s w).0 common,
    (not_precedes s z w x ne, not_precedes z s x w (λ e. ne (sym e))),
  )
    where
      common : (l : ℕ) → In l (edge s w).guards → In l (edge z x).guards → ⊥
      common l a b =
          shows.apart s z w.member x.member ne l ((held_at_halt w.stood l).1 (((guards_there s w).1 l).0 a))
          ((held_at_halt x.stood l).1 (((guards_there z x).1 l).0 b))

  abbrev edges : (zs : List Step) → AllByRecursion Waiting zs → List Edge
  edges [] ws = []
  edges (z ∷ zs) ws = edge z ws.0 ∷ edges zs ws.1

  edges_drawn : (zs : List Step) (ws : AllByRecursion Waiting zs) → AllByRecursion (DrawnIn ρ W) (edges zs ws)
  edges_drawn [] ws = tt
  edges_drawn (z ∷ zs) ws = (drawn_there z ws.0, edges_drawn zs ws.1)

  edges_linked : (wanted : ℕ) (zs : List Step) (ws : AllByRecursion Waiting zs) (last : ℕ) → Linked wanted zs last
      → Linked wanted (map step (edges zs ws)) (wanted_at_last wanted (map step (edges zs ws))) ×
      (wanted_at_last wanted (map step (edges zs ws)) ≡ last)
  edges_linked wanted [] ws last h = (refl, h)
  edges_linked wanted (z ∷ zs) ws last h = let k = edges_linked z.wanted zs ws.1 last h.1 in ((h.0, k.0), k.1)

  edges_all : (P : Step → Type 0) (Q : Edge → Type 0) → ((z : Step) (x : Waiting z) → P z → Q (edge z x))
      → (zs : List Step) (ws : AllByRecursion Waiting zs) → AllByRecursion P zs → AllByRecursion Q (edges zs ws)
  edges_all P Q f [] ws h = tt
  edges_all P Q f (z ∷ zs) ws h = (f z ws.0 h.0, edges_all P Q f zs ws.1 h.1)

  edges_pairwise : (zs : List Step) (ws : AllByRecursion Waiting zs) → ThreadsApart zs → Pairwise (Apart (Parallel ρ)) (edges zs ws)
  edges_pairwise [] ws h = tt
  edges_pairwise (z ∷ zs) ws h = (
    edges_all (λ b. z.thread ≡ b.thread → ⊥) (Apart (Parallel ρ) (edge z ws.0))
        (λ b x ne. edges_apart z b ws.0 x ne) zs ws.1 h.0,
    edges_pairwise zs ws.1 h.1,
  )

  edges_give : (zs : List Step) (ws : AllByRecursion Waiting zs) → map step (edges zs ws) ≡ zs
  edges_give [] ws = refl
  edges_give (z ∷ zs) ws = ap (λ r. z ∷ r) (edges_give zs ws.1)

  closes : (d : List Step) → IsCircle d → 2 ≤ length d → AllByRecursion Waiting d → Closes (DrawnIn ρ W) (Parallel ρ) d
  closes [] h two ws = absurd (omega arith)
  closes (s ∷ []) h two ws = absurd h
  closes (s ∷ z ∷ zs) h two ws = let k = edges_linked s.wanted (z ∷ zs) ws.1 s.held h.0 in record {
    first = edge s ws.0;
    rest = edges (z ∷ zs) ws.1;
    drawn = edges_drawn (s ∷ z ∷ zs) ws;
    chain = record {
      linked = k.0;
      apart = edges_pairwise (s ∷ z ∷ zs) ws h.1;
      smallest = edges_all (λ b. s.thread < b.thread) (λ f. s.thread < f.thread) (λ b x k. k) (z ∷ zs) ws.1 h.2;
    };
    closed = k.1;
    gives = edges_give (s ∷ z ∷ zs) ws;
  }

-- A circle in which the recording can stop is that of a closed chain of drawn edges.
pub circles : (ρ : Recording) → Accepted ρ → (W : ℕ → Type 0) (c : List Step) → IsCircle c → 2 ≤ length c → CanStopIn ρ W c
    → Closes (DrawnIn ρ W) (Parallel ρ) c
circles ρ acc W c h two k =
    closes ρ acc W k.0 k.1 c k.2 c h two
    (all_from (Waiting ρ acc W k.0 k.1 c k.2) c (waiting ρ acc W k.0 k.1 c k.2 k.3))
