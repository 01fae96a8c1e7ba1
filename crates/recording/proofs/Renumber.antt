-- Recordings in which each thread does the same have the same edges and the same order of segments, up to the numbers of the segments.
-- Assumes nothing.
use Rattle.std.proofs.Common.{◌≡◌, ℕ, suc, ◌+◌, ◌<◌, ◌≤◌, ◌⊎◌, length, sym, refl, ap, ◌∙◌, subst, ap₂, subst₂, inl, inr, arith}
use mathlib.Core.List.Memᴰ
use mathlib.Core.List.{Memᴰ}
use Rattle.std.proofs.lemmas.Bool.{cases_lt}
use Rattle.rows.specs.declared.event.Event.{Event}
use Rattle.rows.specs.declared.event.Event.TheVariants.{Lock, Release, Start, Join}
use Rattle.rows.specs.declared.edge.Edge.{Edge}
use Rattle.recording.specs.Recording.{Recording, none, ◌▸◌, size, actor, thread_events, SameThreads}
use Rattle.order.specs.Arrows.{arrow, one, more}
use Rattle.recording.specs.Segments.{next, segment, arrows, Precedes}
use Rattle.recording.specs.Ledger.{Accepted, life, unborn}
use Rattle.recording.specs.Edges.{DrawnAt, Drawn}
use Rattle.recording.specs.SameThreads.{in_segment, WasIn, Renumbers, SameThreadsRenumber}
use Rattle.recording.proofs.Prefixes.{◌⊑◌, now, ⊑_none, ⊑_init, accepted_init}
use Rattle.recording.proofs.Moves.{arrows_stay}
use Rattle.recording.proofs.Twins.{Twin, twin}
use Rattle.recording.proofs.Lives.{live_born, actor_live}
use Rattle.recording.proofs.Names.{
  Is,
  is_below,
  is_some,
  is_one,
  turns,
  pace,
  names,
  next_names,
  start_turn,
  start_new,
  join_turn,
  is_kept,
  is_now,
  join_ends,
}
use Rattle.recording.proofs.Held.{holds_alike, guards_alike}
use Rattle.recording.proofs.Matches.{
  Match,
  Same,
  match_made,
  same_swap,
  same_one,
  same_below,
  match_ascends,
  was_named,
  drawn_kept,
}

module _ (ρ σ : Recording) (okρ : Accepted ρ) (okσ : Accepted σ) (same : SameThreads ρ σ) where
  -- A name of ρ is one of σ.
  named : (π : Recording) → π ⊑ ρ → (t k s : ℕ) → Is (names π) t k s → (z : ℕ) × Is (names σ) t k z
  named none p t k s (inl m) = (0, is_kept t k 0 (⊑_none σ) (inl (m.0, m.1, refl)))
  named none p t k s (inr m) = absurd m
  named (π ▸ Lock v o) p t k s m = named π (⊑_init p) t k s m
  named (π ▸ Release v o) p t k s m = named π (⊑_init p) t k s m
  named (π ▸ Start v u) p t k s (inl m) =
      let c = twin σ same p in
      (_, is_kept t k (suc (length (names c.before))) c.prefix (inl (m.0, m.1, refl)))
  named (π ▸ Start v u) p t k s (inr (inl m)) =
      let c = twin σ same p in (
        _,
        is_kept t k (length (names c.before)) c.prefix
            (inr (inl (m.0, m.1 ∙ ap (λ l. suc (turns l)) (sym c.alike), refl))),
      )
  named (π ▸ Start v u) p t k s (inr (inr m)) = named π (⊑_init p) t k s m
  named (π ▸ Join v u) p t k s (inl m) =
      let c = twin σ same p in
      (_, is_kept t k (length (names c.before)) c.prefix (inl (m.0, m.1 ∙ ap (λ l. suc (turns l)) (sym c.alike), refl)))
  named (π ▸ Join v u) p t k s (inr m) = named π (⊑_init p) t k s m

  pick : (x : ℕ) → (y : ℕ) × (x < next ρ → Same ρ σ x y)
  pick x = go (cases_lt x (next ρ))
    where
      go : (x < next ρ) ⊎ (next ρ ≤ x) → (y : ℕ) × (x < next ρ → Same ρ σ x y)
      go (inl h) =
          let n = is_some (names ρ) x (omega (arith, next_names ρ)) in
          let z = named ρ (now refl) n.0 n.1 x n.2 in
          (z.0, λ _. (n.0, (n.1, n.2, z.1)))
      go (inr h) = (0, λ l. absurd (omega arith))

  -- The number in σ of a segment of ρ.
  renumber : ℕ → ℕ
  renumber x = (pick x).0

  renumbered : (x : ℕ) → x < next ρ → Same ρ σ x (renumber x)
  unfolding renumber
  renumbered x h = (pick x).1 h

  renumber_is : (x y : ℕ) → Same ρ σ x y → renumber x ≡ y
  renumber_is x y m = same_one ρ σ okσ x (renumber x) y (renumbered x (same_below ρ σ x y m).0) m

  -- The segments in which a thread has done the same,
  now_match : (π κ : Recording) → π ⊑ ρ → κ ⊑ σ → (t : ℕ) → thread_events t κ ≡ thread_events t π → (life π t ≡ unborn → ⊥)
      → (life κ t ≡ unborn → ⊥) → Match t ρ σ (segment π t) (segment κ t)
  now_match π κ p q t alike bornπ bornκ =
      match_made t (pace π t) (pace κ t) (segment π t) (segment κ t) p q (ap turns alike)
      (is_now π t (accepted_init p okρ) bornπ) (is_now κ t (accepted_init q okσ) bornκ)

  -- and comes to the same event.
  acting_match : (π : Recording) (e : Event) → (π ▸ e) ⊑ ρ → (c : Twin σ π e)
      → Match (actor e) ρ σ (segment π (actor e)) (segment c.before (actor e))
  acting_match π e p c =
      now_match π c.before (⊑_init p) (⊑_init c.prefix) (actor e) c.alike
      (live_born π (actor e) (actor_live π e (accepted_init p okρ).1))
      (live_born c.before (actor e) (actor_live c.before e (accepted_init c.prefix okσ).1))

  -- An edge of ρ is one of σ, in the segment of the same name.
  MovedEdge : Edge → Type 0
  MovedEdge e = (y : ℕ) × Match e.thread ρ σ e.segment y × Drawn σ (in_segment y e)

  edge_moves : (π : Recording) → π ⊑ ρ → (n : ℕ) (e : Edge) → DrawnAt π n e → MovedEdge e
  unfolding MovedEdge
  edge_moves none p n e d = absurd d
  edge_moves (π ▸ Lock t o) p n e (inl (_, (thread, wanted, held, guards, seg))) =
      let c = twin σ same p in
      let κ = c.before in (
        segment κ t,
        subst₂ (λ v s. Match v ρ σ s (segment κ t)) (sym thread) (sym seg) (acting_match π (Lock t o) p c),
        (
          size κ,
          drawn_kept (size κ) (in_segment (segment κ t) e) c.prefix
              (inl (
                refl,
                (
                  thread,
                  wanted,
                  holds_alike π κ t e.held c.alike held,
                  guards_alike π κ t e.guards
                      c.alike guards,
                  refl,
                ),
              )),
        ),
      )
  edge_moves (π ▸ Lock t o) p n e (inr d) = edge_moves π (⊑_init p) n e d
  edge_moves (π ▸ Release t o) p n e (inl d) = absurd d.1
  edge_moves (π ▸ Release t o) p n e (inr d) = edge_moves π (⊑_init p) n e d
  edge_moves (π ▸ Start t u) p n e (inl d) = absurd d.1
  edge_moves (π ▸ Start t u) p n e (inr d) = edge_moves π (⊑_init p) n e d
  edge_moves (π ▸ Join t u) p n e (inl d) = absurd d.1
  edge_moves (π ▸ Join t u) p n e (inr d) = edge_moves π (⊑_init p) n e d

  -- An arrow of ρ is one of σ, between the segments of the same names.
  MovedArrow : ℕ → ℕ → Type 0
  MovedArrow x y = (v : ℕ) × (w : ℕ) × Same ρ σ x v × Same ρ σ y w × Memᴰ (arrow v w) (arrows σ)

  moved_arrow : {κ : Recording} {x y a b v w : ℕ} → arrow x y ≡ arrow a b → Same ρ σ a v → Same ρ σ b w → κ ⊑ σ
      → Memᴰ (arrow v w) (arrows κ) → MovedArrow x y
  unfolding MovedArrow
  moved_arrow {v = v} {w = w} e m n q drawn = (
    v,
    w,
    subst (λ z. Same ρ σ z v) (ap (λ a. a.from) (sym e)) m,
    subst (λ z. Same ρ σ z w)
        (ap (λ a. a.to) (sym e)) n,
    arrows_stay q v w drawn,
  )

  -- The segments that an event begins for its own thread, and for the thread that it starts.
  turn_match : (π : Recording) (e : Event) → ((τ : Recording) → Is (names (τ ▸ e)) (actor e) (suc (pace τ (actor e))) (next τ))
      → (π ▸ e) ⊑ ρ → (c : Twin σ π e) → Match (actor e) ρ σ (next π) (next c.before)
  turn_match π e begins p c =
      let κ = c.before in
      match_made (actor e) (suc (pace π (actor e))) (suc (pace κ (actor e))) (next π) (next κ) p c.prefix
      (ap (λ l. suc (turns l)) c.alike) (begins π) (begins κ)

  start_match : (π : Recording) (t u : ℕ) → (π ▸ Start t u) ⊑ ρ → (c : Twin σ π (Start t u))
      → Match u ρ σ (next π + 1) (next c.before + 1)
  start_match π t u p c =
      match_made u 0 0 (next π + 1) (next c.before + 1) p c.prefix refl (start_new t u π) (start_new t u c.before)

  -- The last segments of a joined thread: it has done all that it does.
  join_match : (π : Recording) (t u : ℕ) → (π ▸ Join t u) ⊑ ρ → (c : Twin σ π (Join t u))
      → Match u ρ σ (segment π u) (segment c.before u)
  join_match π t u p c =
      let q = c.prefix in
      now_match π c.before (⊑_init p) (⊑_init q) u (sym (join_ends q okσ) ∙ sym (same u) ∙ join_ends p okρ)
      (accepted_init p okρ).1.4 (accepted_init q okσ).1.4

  arrow_moves : (π : Recording) → π ⊑ ρ → (x y : ℕ) → Memᴰ (arrow x y) (arrows π) → MovedArrow x y
  arrow_moves none p x y m = absurd (Memᴰ.not-nil m)
  arrow_moves (π ▸ Lock t o) p x y m = arrow_moves π (⊑_init p) x y m
  arrow_moves (π ▸ Release t o) p x y m = arrow_moves π (⊑_init p) x y m
  arrow_moves (π ▸ Start t u) p x y (Memᴰ.head e) =
      let c = twin σ same p in
      moved_arrow e (t, acting_match π (Start t u) p c) (t, turn_match π (Start t u) (start_turn t u) p c) c.prefix
      (Memᴰ.head refl)
  arrow_moves (π ▸ Start t u) p x y (Memᴰ.tail (Memᴰ.head e)) =
      let c = twin σ same p in
      moved_arrow e (t, acting_match π (Start t u) p c) (u, start_match π t u p c) c.prefix (Memᴰ.tail (Memᴰ.head refl))
  arrow_moves (π ▸ Start t u) p x y (Memᴰ.tail (Memᴰ.tail m)) = arrow_moves π (⊑_init p) x y m
  arrow_moves (π ▸ Join t u) p x y (Memᴰ.head e) =
      let c = twin σ same p in
      moved_arrow e (t, acting_match π (Join t u) p c) (t, turn_match π (Join t u) (join_turn t u) p c) c.prefix
      (Memᴰ.head refl)
  arrow_moves (π ▸ Join t u) p x y (Memᴰ.tail (Memᴰ.head e)) =
      let c = twin σ same p in
      moved_arrow e (u, join_match π t u p c) (t, turn_match π (Join t u) (join_turn t u) p c) c.prefix
      (Memᴰ.tail (Memᴰ.head refl))
  arrow_moves (π ▸ Join t u) p x y (Memᴰ.tail (Memᴰ.tail m)) = arrow_moves π (⊑_init p) x y m

  arrow_renumbered : (x y : ℕ) → Memᴰ (arrow x y) (arrows ρ) → Memᴰ (arrow (renumber x) (renumber y)) (arrows σ)
  unfolding MovedArrow
  arrow_renumbered x y m =
      let (v, w, a, b, drawn) = arrow_moves ρ (now refl) x y m in
      Memᴰ.cast (ap₂ arrow (renumber_is x v a) (renumber_is y w b)) drawn

  path_renumbered : {x y : ℕ} → Precedes ρ x y → Precedes σ (renumber x) (renumber y)
  path_renumbered (one {x = x} {y = y} m) = one (arrow_renumbered x y m)
  path_renumbered (more {x = x} {y = y} m w) = more (arrow_renumbered x y m) (path_renumbered w)

  edge_renumbered : (e : Edge) → Drawn ρ e → Drawn σ (in_segment (renumber e.segment) e)
  unfolding MovedEdge
  edge_renumbered e d =
      let (y, m, drawn) = edge_moves ρ (now refl) d.0 e d.1 in
      subst (λ s. Drawn σ (in_segment s e)) (sym (renumber_is e.segment y (e.thread, m))) drawn

  -- The counterpart of a segment of a thread is one of that thread.
  own_match : (t x : ℕ) → WasIn ρ t x → Match t ρ σ x (renumber x)
  own_match t x w =
      let (k, a) = was_named ρ okρ t x w in
      let (v, (l, c, d)) = renumbered x (omega (arith, is_below (names ρ) t k x a, next_names ρ)) in
      let e = is_one (names ρ) v l t k x c a in
      (k, a, subst₂ (λ u j. Is (names σ) u j (renumber x)) e.0 e.1 d)

  segments_ascend : (t x y : ℕ) → WasIn ρ t x → WasIn ρ t y → x < y → renumber x < renumber y
  segments_ascend t x y v w h =
      match_ascends ρ σ okρ okσ t x (renumber x) y (renumber y) (own_match t x v) (own_match t y w) h

-- There and back again.
renumber_back : (ρ σ : Recording) (okρ : Accepted ρ) (okσ : Accepted σ) (same : SameThreads ρ σ) (back : SameThreads σ ρ) (x : ℕ)
    → x < next ρ → renumber σ ρ okσ okρ back (renumber ρ σ okρ okσ same x) ≡ x
renumber_back ρ σ okρ okσ same back x h =
    renumber_is σ ρ okσ okρ back (renumber ρ σ okρ okσ same x) x
    (same_swap ρ σ x (renumber ρ σ okρ okσ same x) (renumbered ρ σ okρ okσ same x h))

renumbers : (ρ σ : Recording) (okρ : Accepted ρ) (okσ : Accepted σ) (same : SameThreads ρ σ) (back : SameThreads σ ρ)
    → Renumbers ρ σ (renumber ρ σ okρ okσ same)
renumbers ρ σ okρ okσ same back = record {
  inside = λ x h. (same_below ρ σ x (renumber ρ σ okρ okσ same x) (renumbered ρ σ okρ okσ same x h)).1;
  edges = edge_renumbered ρ σ okρ okσ same;
  ascends = segments_ascend ρ σ okρ okσ same;
  order = λ x y h l. (
    path_renumbered ρ σ okρ okσ same,
    λ w. subst₂ (Precedes ρ) (renumber_back ρ σ okρ okσ same back x h) (renumber_back ρ σ okρ okσ same back y l)
        (path_renumbered σ ρ okσ okρ back w),
  );
}

pub same_threads_renumber : SameThreadsRenumber
same_threads_renumber ρ σ okρ okσ same =
    let back : SameThreads σ ρ = λ t. sym (same t) in (
      renumber ρ σ okρ okσ same,
      renumber σ ρ okσ okρ back,
      renumbers ρ σ okρ okσ same back,
      renumbers σ ρ okσ okρ back same,
      renumber_back ρ σ okρ okσ same back,
      renumber_back σ ρ okσ okρ back same,
    )
