-- From a fresh order on, the order is the paths of the arrows that were drawn.
use Rattle.std.proofs.Common.{◌≡◌, ℕ, ◌+◌, ◌<◌, Bool, true, false, cond, not, ◌&&◌, ◌||◌, eqb, leb, ◌⊎◌, List, [], ◌∷◌, ◌++◌, Ok, Err, Decides, sym, refl, ap, subst, inl, inr, ⊎_elim, arith}
use mathlib.Core.List.Memᴰ
use Rattle.std.proofs.lemmas.Bool.{eq-eqb, ne_eqb, eqb-true, or_cases, or_left, or_right, and_parts, cond-false, false≢true}
use Rattle.std.proofs.lemmas.Bool.Decides.{Decides-at}
use Rattle.order.specs.declared.request.Call.{Call}
use Rattle.order.specs.declared.request.Call.TheVariants.{Fork, Meet}
use Rattle.order.specs.declared.cause.OrderCause.TheVariants.{Ceiling}
use Rattle.order.specs.Meaning.{Meaning, upto, closed, opened, forked, met, admitted, unless_refused}
use Rattle.order.specs.Arrows.{Arrow, arrow, Path⁺, one, more}
use Rattle.order.specs.Histories.{Told, arrows_to, drawn_by, History, start, called, replayed}
use Rattle.order.proofs.Paths.{Inside, Onto, Leads, told_more, inside_more}

-- Open ends are segments.
abbrev pub Stands : Meaning → Type 0
Stands m = (a : ℕ) → m.ends a ≡ true → a < m.segments

-- What holds of an order and its arrows as calls are made.
pub record Lawful (h : History) : Type 0 where
  pub inside : Inside h.order.segments h.arrows
  pub stands : Stands h.order
  pub told : Told h.order h.arrows

-- x, or what precedes x, is what reaches x.
reaches : (m : Meaning) (L : List Arrow) → Told m L → (x a : ℕ) → Decides (upto m x a) ((a ≡ x) ⊎ Path⁺ L a x)
reaches m L told x a = (
  (λ t. ⊎_elim (λ e. inl (eqb-true a x e)) (λ b. inr ((told a x).0 b)) (or_cases (eqb a x) (m.before a x) t)),
  ⊎_elim (λ e. or_left (eqb a x) (m.before a x) (eq-eqb a x e)) (λ p. or_right (eqb a x) (m.before a x) ((told a x).1 p)),
)

arrow_from : {x y v w : ℕ} → arrow x y ≡ arrow v w → x ≡ v
arrow_from p = ap (λ (a : Arrow). a.from) p

arrow_to : {x y v w : ℕ} → arrow x y ≡ arrow v w → y ≡ w
arrow_to p = ap (λ (a : Arrow). a.to) p

-- ---- one arrow

onto_one : (n s : ℕ) → s < n → Onto n (arrow s n ∷ [])
onto_one n s h x y (Memᴰ.head e) = (rw (arrow_from e) h, arrow_to e)
onto_one n s h x y (Memᴰ.tail k) = absurd (Memᴰ.not-nil k)

leads_one : (n s : ℕ) (L : List Arrow) (t : Bool) (a : ℕ) → Decides t ((a ≡ s) ⊎ Path⁺ L a s) → Decides t (Leads (arrow s n ∷ []) L n a)
leads_one n s L t a d = ((λ e. (s, Memᴰ.head refl, d.0 e)), back)
  where
    back : Leads (arrow s n ∷ []) L n a → t ≡ true
    back (v, Memᴰ.head e, r) = d.1 (subst (λ w. (a ≡ w) ⊎ Path⁺ L a w) (arrow_from e) r)
    back (v, Memᴰ.tail k, r) = absurd (Memᴰ.not-nil k)

-- ---- two arrows

onto_two : (n s u : ℕ) → s < n → u < n → Onto n (arrow s n ∷ arrow u n ∷ [])
onto_two n s u h k x y (Memᴰ.head e) = (rw (arrow_from e) h, arrow_to e)
onto_two n s u h k x y (Memᴰ.tail m) = onto_one n u k x y m

leads_two : (n s u : ℕ) (L : List Arrow) (t v : Bool) (a : ℕ) → Decides t ((a ≡ s) ⊎ Path⁺ L a s) → Decides v ((a ≡ u) ⊎ Path⁺ L a u)
    → Decides (t || v) (Leads (arrow s n ∷ arrow u n ∷ []) L n a)
leads_two n s u L t v a d e = (
  (λ q. ⊎_elim (λ p. (s, Memᴰ.head refl, d.0 p)) (λ p. (u, Memᴰ.tail (Memᴰ.head refl), e.0 p)) (or_cases t v q)),
  back,
)
  where
    back : Leads (arrow s n ∷ arrow u n ∷ []) L n a → (t || v) ≡ true
    back (w, Memᴰ.head p, r) = or_left t v (d.1 (subst (λ w. (a ≡ w) ⊎ Path⁺ L a w) (arrow_from p) r))
    back (w, Memᴰ.tail m, r) = or_right t v ((leads_one n u L v a e).1 (w, m, r))

-- ---- the calls

closed_stands : (m : Meaning) (x : ℕ) → Stands m → Stands (closed m x)
closed_stands m x s a t = s a (and_parts _ _ t).1

opened_stands : (m : Meaning) (past : ℕ → Bool) → Stands m → Stands (opened m past)
opened_stands m past s a t =
    elim (or_cases (eqb a m.segments) (m.ends a) t) [
      | inl e ↦ omega (arith, eqb-true a m.segments e)
      | inr b ↦ omega (arith, s a b)
    ]

module _ (h : History) (l : Lawful h) where
  pub fork_lawful : (x : ℕ) → x < h.order.segments
      → Lawful (record { order = forked h.order x; arrows = arrows_to h.order.segments (Fork x) ++ h.arrows })
  fork_lawful x lt =
      let m = h.order in
      let n = m.segments in
      let past = upto m x in
      let m₁ = opened (closed m x) past in
      let L₁ = arrow x n ∷ h.arrows in
      let onto₁ = onto_one n x lt in
      let onto₂ = onto_one (n + 1) x (omega arith) in
      let told₁ = told_more (closed m x) past (arrow x n ∷ []) h.arrows onto₁ l.inside l.told
      (λ a. leads_one n x h.arrows (past a) a (reaches m h.arrows l.told x a)) in
      let inside₁ = inside_more (arrow x n ∷ []) h.arrows onto₁ l.inside in
      let same : (a : ℕ) → past a ≡ upto m₁ x a =
      λ a. ap (λ t. eqb a x || t) (sym (cond-false (eqb x n) (past a) (m.before a x) (ne_eqb x n (omega arith)))) in
      record {
        inside = inside_more (arrow x (n + 1) ∷ []) L₁ onto₂ inside₁;
        stands = opened_stands m₁ past (opened_stands (closed m x) past (closed_stands m x l.stands));
        told = told_more m₁ past (arrow x (n + 1) ∷ []) L₁ onto₂ inside₁ told₁
            (λ a. leads_one (n + 1) x L₁ (past a) a (Decides-at (past a) (upto m₁ x a) (same a) (reaches m₁ L₁ told₁ x a)));
      }

  pub meet_lawful : (x y : ℕ) → x < h.order.segments → y < h.order.segments
      → Lawful (record { order = met h.order x y; arrows = arrows_to h.order.segments (Meet x y) ++ h.arrows })
  meet_lawful x y lx ly =
      let m = h.order in
      let n = m.segments in
      let K = arrow x n ∷ arrow y n ∷ [] in
      let past = λ (a : ℕ). upto m x a || upto m y a in
      let onto = onto_two n x y lx ly in
      record {
        inside = inside_more K h.arrows onto l.inside;
        stands = opened_stands (closed m x) past (closed_stands m x l.stands);
        told = told_more (closed m x) past K h.arrows onto l.inside l.told
            (λ a. leads_two n x y h.arrows (upto m x a) (upto m y a) a
            (reaches m h.arrows l.told x a) (reaches m h.arrows l.told y a));
      }

  -- A call is admitted, or refused and changes nothing.
  either : (limit wanted : ℕ) (good : Bool) (new : Meaning) (call : Call)
      → (good ≡ true → Lawful (record { order = new; arrows = arrows_to h.order.segments call ++ h.arrows }))
      → let r = admitted limit h.order.segments wanted good in
      Lawful (record { order = unless_refused r new h.order; arrows = drawn_by r call ++ h.arrows })
  either limit wanted true new call f = go (leb (h.order.segments + wanted) limit)
    where
      go : (fits : Bool) → let r = cond fits (Ok h.order.segments) (Err Ceiling) in
          Lawful (record { order = unless_refused r new h.order; arrows = drawn_by r call ++ h.arrows })
      go true = f refl
      go false = l
  either limit wanted false new call f = l

  called_lawful : (limit : ℕ) (call : Call) → Lawful (called limit h call)
  called_lawful limit (Fork x) = either limit 2 (h.order.ends x) (forked h.order x) (Fork x) (λ t. fork_lawful x (l.stands x t))
  called_lawful limit (Meet x y) =
      either limit 1 (not (eqb x y) && (h.order.ends x && h.order.ends y)) (met h.order x y) (Meet x y)
      (λ t. let p = and_parts _ _ (and_parts _ _ t).1 in meet_lawful x y (l.stands x p.0) (l.stands y p.1))

pub replayed_lawful : (limit : ℕ) (h : History) → Lawful h → (calls : List Call) → Lawful (replayed limit h calls)
replayed_lawful limit h l [] = l
replayed_lawful limit h l (call ∷ calls) = replayed_lawful limit (called limit h call) (called_lawful h l limit call) calls

pub start_lawful : Lawful start
start_lawful = record {
  inside = λ x y m. absurd (Memᴰ.not-nil m);
  stands = λ a t. omega (arith, eqb-true a 0 t);
  told = λ x y. ((λ f. absurd (false≢true f)), no_path);
}
  where
    no_path : {x y : ℕ} → Path⁺ [] x y → false ≡ true
    no_path (one m) = absurd (Memᴰ.not-nil m)
    no_path (more m p) = absurd (Memᴰ.not-nil m)

pub order_is_paths : (limit : ℕ) (calls : List Call) → Told (replayed limit start calls).order (replayed limit start calls).arrows
order_is_paths limit calls = (replayed_lawful limit start start_lawful calls).told
