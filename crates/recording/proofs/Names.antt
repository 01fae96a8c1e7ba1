-- The names of segments: (t, k) is the k-th segment of thread t, however the threads are interleaved.
-- Assumes nothing.
use Rattle.std.proofs.Common.{◌≡◌, ℕ, suc, ◌+◌, ◌<◌, ◌≤◌, Bool, true, false, cond, eqb, ◌⊎◌, List, [], ◌∷◌, length, sym, refl, ap, ◌∙◌, subst, inl, inr, arith}
use Rattle.std.proofs.lemmas.Bool.{eq-eqb, ne_eqb, cases_eq}
use Rattle.rows.specs.declared.event.Event.{Event}
use Rattle.rows.specs.declared.event.Event.TheVariants.{Lock, Release, Start, Join}
use Rattle.recording.specs.Recording.{Recording, none, ◌▸◌, thread_events}
use Rattle.recording.specs.Segments.{next, segment}
use Rattle.recording.specs.Ledger.{Accepted, Life, unborn, live, joined, life}
use Rattle.recording.proofs.Prefixes.{◌⊑◌, now, later, accepted_init}
use Rattle.recording.proofs.Lives.{live≢unborn, joined≢unborn, live_born, actor_live, still_joined}
use Rattle.recording.proofs.Twins.{acts, rests}

-- The place s of the list has the name (t, k); places count from the end.
abbrev pub Is : List (ℕ × ℕ) → ℕ → ℕ → ℕ → Type 0
Is [] t k s = ⊥
Is (n ∷ ns) t k s = ((t ≡ n.0) × (k ≡ n.1) × (s ≡ length ns)) ⊎ Is ns t k s

-- Each name has a higher number than the earlier ones of its thread.
abbrev pub Rising : List (ℕ × ℕ) → Type 0
Rising [] = Unit {0}
Rising (n ∷ ns) = ((k s : ℕ) → Is ns n.0 k s → k < n.1) × Rising ns

pub is_below : (ns : List (ℕ × ℕ)) (t k s : ℕ) → Is ns t k s → s < length ns
is_below [] t k s m = absurd m
is_below (n ∷ ns) t k s (inl m) = omega arith
is_below (n ∷ ns) t k s (inr m) = omega (arith, is_below ns t k s m)

-- A place has a name,
pub is_some : (ns : List (ℕ × ℕ)) (s : ℕ) → s < length ns → (t : ℕ) × (k : ℕ) × Is ns t k s
is_some [] s h = absurd (omega arith)
is_some (n ∷ ns) s h = go (cases_eq s (length ns)) (is_some ns s)
  where
    go : (s ≡ length ns) ⊎ (s ≡ length ns → ⊥) → (s < length ns → (t : ℕ) × (k : ℕ) × Is ns t k s)
        → (t : ℕ) × (k : ℕ) × Is (n ∷ ns) t k s
    go (inl e) below = (n.0, n.1, inl (refl, refl, e))
    go (inr apart) below = let c = below (omega arith) in (c.0, c.1, inr c.2)

-- and only one.
pub is_one : (ns : List (ℕ × ℕ)) (t k v l s : ℕ) → Is ns t k s → Is ns v l s → (t ≡ v) × (k ≡ l)
is_one [] t k v l s m n = absurd m
is_one (_ ∷ ns) t k v l s (inl m) (inl n) = (cc, cc)
is_one (_ ∷ ns) t k v l s (inl m) (inr n) = absurd (omega (arith, is_below ns v l s n))
is_one (_ ∷ ns) t k v l s (inr m) (inl n) = absurd (omega (arith, is_below ns t k s m))
is_one (_ ∷ ns) t k v l s (inr m) (inr n) = is_one ns t k v l s m n

-- Two places of a thread are in the order of their names.
abbrev pub Alike : ℕ → ℕ → ℕ → ℕ → Type 0
Alike k l s z = ((k ≡ l) × (s ≡ z)) ⊎ ((k < l) × (s < z)) ⊎ ((l < k) × (z < s))

pub is_alike : (ns : List (ℕ × ℕ)) → Rising ns → (t k l s z : ℕ) → Is ns t k s → Is ns t l z → Alike k l s z
is_alike [] rise t k l s z m n = absurd m
is_alike (_ ∷ ns) rise t k l s z (inl m) (inl n) = inl (cc, cc)
is_alike (_ ∷ ns) rise t k l s z (inl m) (inr n) =
    inr (inr (omega (arith, rise.0 l z (rw (← m.0) n)), omega (arith, is_below ns t l z n)))
is_alike (_ ∷ ns) rise t k l s z (inr m) (inl n) =
    inr (inl (omega (arith, rise.0 k s (rw (← n.0) m)), omega (arith, is_below ns t k s m)))
is_alike (_ ∷ ns) rise t k l s z (inr m) (inr n) = is_alike ns rise.1 t k l s z m n

-- How often a thread began a new segment of its own.
abbrev pub turns : List Event → ℕ
turns [] = 0
turns (Lock t o ∷ es) = turns es
turns (Release t o ∷ es) = turns es
turns (Start t u ∷ es) = suc (turns es)
turns (Join t u ∷ es) = suc (turns es)

abbrev pub pace : Recording → ℕ → ℕ
pace ρ t = turns (thread_events t ρ)

-- The names of the segments of a recording, the latest first.
abbrev pub names : Recording → List (ℕ × ℕ)
names none = (0, 0) ∷ []
names (ρ ▸ Lock t o) = names ρ
names (ρ ▸ Release t o) = names ρ
names (ρ ▸ Start t u) = (u, 0) ∷ (t, suc (pace ρ t)) ∷ names ρ
names (ρ ▸ Join t u) = (t, suc (pace ρ t)) ∷ names ρ

pub next_names : (ρ : Recording) → next ρ ≡ length (names ρ)
next_names none = refl
next_names (ρ ▸ Lock t o) = next_names ρ
next_names (ρ ▸ Release t o) = next_names ρ
next_names (ρ ▸ Start t u) = omega (arith, next_names ρ)
next_names (ρ ▸ Join t u) = omega (arith, next_names ρ)

-- The segments that a start and a join begin.
pub start_turn : (t u : ℕ) (ρ : Recording) → Is (names (ρ ▸ Start t u)) t (suc (pace ρ t)) (next ρ)
start_turn t u ρ = inr (inl (refl, refl, next_names ρ))

pub start_new : (t u : ℕ) (ρ : Recording) → Is (names (ρ ▸ Start t u)) u 0 (next ρ + 1)
start_new t u ρ = inl (refl, refl, omega (arith, next_names ρ))

pub join_turn : (t u : ℕ) (ρ : Recording) → Is (names (ρ ▸ Join t u)) t (suc (pace ρ t)) (next ρ)
join_turn t u ρ = inl (refl, refl, next_names ρ)

-- A segment keeps its name.
pub is_more : (ρ : Recording) (e : Event) (t k s : ℕ) → Is (names ρ) t k s → Is (names (ρ ▸ e)) t k s
is_more ρ (Lock v o) t k s m = m
is_more ρ (Release v o) t k s m = m
is_more ρ (Start v u) t k s m = inr (inr m)
is_more ρ (Join v u) t k s m = inr m

pub is_kept : {π ρ : Recording} (t k s : ℕ) → π ⊑ ρ → Is (names π) t k s → Is (names ρ) t k s
is_kept t k s (now p) m = subst (λ r. Is (names r) t k s) p m
is_kept t k s (later {ρ} {e = a} p) m = is_more ρ a t k s (is_kept t k s p m)

-- The turns of a thread go up by its own events alone.
turns_grow : (b : Bool) (e : Event) (l : List Event) → turns l ≤ turns (cond b (e ∷ l) l)
turns_grow true (Lock v o) l = omega arith
turns_grow true (Release v o) l = omega arith
turns_grow true (Start v u) l = omega arith
turns_grow true (Join v u) l = omega arith
turns_grow false e l = omega arith

is_bound : (ρ : Recording) (t k s : ℕ) → Is (names ρ) t k s → k ≤ pace ρ t
is_bound none t k s (inl m) = omega arith
is_bound none t k s (inr m) = absurd m
is_bound (ρ ▸ Lock v o) t k s m = omega (arith, is_bound ρ t k s m, turns_grow (eqb v t) (Lock v o) (thread_events t ρ))
is_bound (ρ ▸ Release v o) t k s m = omega (arith, is_bound ρ t k s m, turns_grow (eqb v t) (Release v o) (thread_events t ρ))
is_bound (ρ ▸ Start v u) t k s (inl m) = omega arith
is_bound (ρ ▸ Start v u) t k s (inr (inl m)) = omega (arith, ap turns (acts ρ (Start v u) t (sym m.0)), ap (pace ρ) m.0)
is_bound (ρ ▸ Start v u) t k s (inr (inr m)) = omega (arith, is_bound ρ t k s m, turns_grow (eqb v t) (Start v u) (thread_events t ρ))
is_bound (ρ ▸ Join v u) t k s (inl m) = omega (arith, ap turns (acts ρ (Join v u) t (sym m.0)), ap (pace ρ) m.0)
is_bound (ρ ▸ Join v u) t k s (inr m) = omega (arith, is_bound ρ t k s m, turns_grow (eqb v t) (Join v u) (thread_events t ρ))

-- A thread that is unborn was unborn before,
late : (b : Bool) (x y : Life) → (x ≡ unborn → ⊥) → cond b x y ≡ unborn → y ≡ unborn
late true x y made h = absurd (made h)
late false x y made h = h

unborn_back : (ρ : Recording) (e : Event) (t : ℕ) → life (ρ ▸ e) t ≡ unborn → life ρ t ≡ unborn
unborn_back ρ (Lock v o) t h = h
unborn_back ρ (Release v o) t h = h
unborn_back ρ (Start v u) t h = late (eqb t u) live (life ρ t) live≢unborn h
unborn_back ρ (Join v u) t h = late (eqb t u) joined (life ρ t) joined≢unborn h

-- has no segment,
is_born : (ρ : Recording) (t k s : ℕ) → Accepted ρ → Is (names ρ) t k s → life ρ t ≡ unborn → ⊥
is_born none t k s ok (inl m) h = live_born none t (rw (eq-eqb t 0 m.0)) h
is_born none t k s ok (inr m) h = m
is_born (ρ ▸ Lock v o) t k s ok m h = is_born ρ t k s ok.0 m h
is_born (ρ ▸ Release v o) t k s ok m h = is_born ρ t k s ok.0 m h
is_born (ρ ▸ Start v u) t k s ok (inl m) h = live_born (ρ ▸ Start v u) t (rw (eq-eqb t u m.0)) h
is_born (ρ ▸ Start v u) t k s ok (inr (inl m)) h = live_born ρ t (ap (life ρ) m.0 ∙ ok.1.2) (unborn_back ρ (Start v u) t h)
is_born (ρ ▸ Start v u) t k s ok (inr (inr m)) h = is_born ρ t k s ok.0 m (unborn_back ρ (Start v u) t h)
is_born (ρ ▸ Join v u) t k s ok (inl m) h = live_born ρ t (ap (life ρ) m.0 ∙ ok.1.2) (unborn_back ρ (Join v u) t h)
is_born (ρ ▸ Join v u) t k s ok (inr m) h = is_born ρ t k s ok.0 m (unborn_back ρ (Join v u) t h)

-- and has done nothing.
unborn_idle : (ρ : Recording) (t : ℕ) → Accepted ρ → life ρ t ≡ unborn → thread_events t ρ ≡ []
unborn_idle none t ok h = refl
unborn_idle (ρ ▸ e) t ok h =
    let before : life ρ t ≡ unborn = unborn_back ρ e t h in
    rests ρ e t (λ own. live_born ρ t (ap (life ρ) (sym own) ∙ actor_live ρ e ok.1) before) ∙ unborn_idle ρ t ok.0 before

pub names_rise : (ρ : Recording) → Accepted ρ → Rising (names ρ)
names_rise none ok = (λ k s m. absurd m, tt)
names_rise (ρ ▸ Lock v o) ok = names_rise ρ ok.0
names_rise (ρ ▸ Release v o) ok = names_rise ρ ok.0
names_rise (ρ ▸ Start v u) ok = (new, (λ k s m. omega (arith, is_bound ρ v k s m), names_rise ρ ok.0))
  where
    new : (k s : ℕ) → Is ((v, suc (pace ρ v)) ∷ names ρ) u k s → k < 0
    new k s (inl m) = absurd (live_born ρ u (ap (life ρ) m.0 ∙ ok.1.2) ok.1.3)
    new k s (inr m) = absurd (is_born ρ u k s ok.0 m ok.1.3)
names_rise (ρ ▸ Join v u) ok = (λ k s m. omega (arith, is_bound ρ v k s m), names_rise ρ ok.0)

-- A thread that is born is in the segment of its latest turn.
same_turns : (b : Bool) (e : Event) (l : List Event) → turns (e ∷ l) ≡ turns l → turns (cond b (e ∷ l) l) ≡ turns l
same_turns true e l h = h
same_turns false e l h = refl

pub is_now : (ρ : Recording) (t : ℕ) → Accepted ρ → (life ρ t ≡ unborn → ⊥) → Is (names ρ) t (pace ρ t) (segment ρ t)
is_now none t ok born = go (cases_eq t 0)
  where
    go : (t ≡ 0) ⊎ (t ≡ 0 → ⊥) → Is (names none) t 0 0
    go (inl e) = inl (e, refl, refl)
    go (inr apart) = absurd (born (rw (ne_eqb t 0 apart)))
is_now (ρ ▸ Lock v o) t ok born = rw (same_turns (eqb v t) (Lock v o) (thread_events t ρ) refl) (is_now ρ t ok.0 born)
is_now (ρ ▸ Release v o) t ok born = rw (same_turns (eqb v t) (Release v o) (thread_events t ρ) refl) (is_now ρ t ok.0 born)
is_now (ρ ▸ Start v u) t ok born = go (cases_eq t v) (cases_eq t u) (is_now ρ t ok.0)
  where
    go : (t ≡ v) ⊎ (t ≡ v → ⊥) → (t ≡ u) ⊎ (t ≡ u → ⊥) → ((life ρ t ≡ unborn → ⊥) → Is (names ρ) t (pace ρ t) (segment ρ t))
        → Is (names (ρ ▸ Start v u)) t (pace (ρ ▸ Start v u) t) (segment (ρ ▸ Start v u) t)
    go (inl e) f below =
        inr (inl (e, omega (arith, ap turns (acts ρ (Start v u) t (sym e)), ap (pace ρ) e), rw (eq-eqb t v e) (next_names ρ)))
    go (inr a) (inl e) below =
        inl (
          e,
          ap turns (rests ρ (Start v u) t (λ h. a (sym h)) ∙ unborn_idle ρ t ok.0 (ap (life ρ) e ∙ ok.1.3)),
          rw (ne_eqb t v a, eq-eqb t u e) (omega (arith, next_names ρ)),
        )
    go (inr a) (inr d) below =
        inr (inr (rw (ap turns (rests ρ (Start v u) t (λ h. a (sym h))), ne_eqb t v a, ne_eqb t u d)
        (below (λ h. born (rw (ne_eqb t u d) h)))))
is_now (ρ ▸ Join v u) t ok born = go (cases_eq t v) (is_now ρ t ok.0 (before (cases_eq t u)))
  where
    before : (t ≡ u) ⊎ (t ≡ u → ⊥) → life ρ t ≡ unborn → ⊥
    before (inl e) h = ok.1.4 (ap (life ρ) (sym e) ∙ h)
    before (inr d) h = born (rw (ne_eqb t u d) h)

    go : (t ≡ v) ⊎ (t ≡ v → ⊥) → Is (names ρ) t (pace ρ t) (segment ρ t)
        → Is (names (ρ ▸ Join v u)) t (pace (ρ ▸ Join v u) t) (segment (ρ ▸ Join v u) t)
    go (inl e) below = inl (e, omega (arith, ap turns (acts ρ (Join v u) t (sym e)), ap (pace ρ) e), rw (eq-eqb t v e) (next_names ρ))
    go (inr a) below = inr (rw (ap turns (rests ρ (Join v u) t (λ h. a (sym h))), ne_eqb t v a) below)

-- A joined thread does nothing more.
joined_idle : {π ρ : Recording} (u : ℕ) → π ⊑ ρ → Accepted ρ → life π u ≡ joined
    → (life ρ u ≡ joined) × (thread_events u ρ ≡ thread_events u π)
joined_idle u (now p) ok h = (ap (λ r. life r u) (sym p) ∙ h, ap (thread_events u) (sym p))
joined_idle {π} u (later {ρ} {e = a} p) ok h = step (joined_idle u p ok.0 h)
  where
    step : (life ρ u ≡ joined) × (thread_events u ρ ≡ thread_events u π)
        → (life (ρ ▸ a) u ≡ joined) × (thread_events u (ρ ▸ a) ≡ thread_events u π)
    step ih = (still_joined ρ a u ok.1 ih.0, rests ρ a u (λ own. idle (ap (life ρ) (sym own) ∙ actor_live ρ a ok.1)) ∙ ih.1)
      where
        idle : life ρ u ≡ live → ⊥
        idle l = let j = ih.0 in let z : ◌≡◌ {A = ℕ} 0 1 = cc in omega arith

pub join_ends : {π ρ : Recording} {t u : ℕ} → (π ▸ Join t u) ⊑ ρ → Accepted ρ → thread_events u ρ ≡ thread_events u π
join_ends {π} {ρ} {t} {u} p ok =
    (joined_idle u p ok (rw (eq-eqb u u refl))).1 ∙ rests π (Join t u) u (λ h. (accepted_init p ok).1.3 (sym h))
