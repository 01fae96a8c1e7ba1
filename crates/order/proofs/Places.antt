-- The two lists of numbered segments as one is closed and as one is added.
use Rattle.std.proofs.Common.{◌≡◌, ℕ, ◌+◌, Bool, true, false, cond, not, ◌&&◌, ◌||◌, eqb, ltb, List, [], ◌∷◌, ◌++◌, length, get_or, set, sym, ◌∙◌, inl, inr, arith}
use Rattle.std.proofs.lemmas.Bool.{cases_eq, cases_lt, cases_order, eq-eqb, ne_eqb}
use Rattle.std.proofs.lemmas.Bool.Decides.{nat_tests}
use Rattle.std.proofs.lemmas.List.{get_or-set_other, get_or_past, length-set, length-append, length-map}
use Rattle.std.proofs.Math.ListN.{get_or-append}
use Rattle.std.proofs.Math.Seq.{get_or-append_seam}
use Rattle.order.specs.declared.segments.Segment.{Segment}
use Rattle.order.specs.Segments.{ends_of, count_of}
use Rattle.order.proofs.Growing.{shut_test}
use Rattle.order.proofs.Words.{get_or_set}

pub ends_long : {T : Type 0} (places : List (Segment T)) → length (ends_of places) ≡ count_of places
ends_long places = length-map places (λ s. s.is_open) ∙ sym (length-map places (λ s. s.known))

pub length_push : {X : Type 0} (l : List X) (v : X) → length (l ++ v ∷ []) ≡ length l + 1
length_push l v = length-append l (v ∷ [])

pub get_or_push : {X : Type 0} (l : List X) (v d : X) (j : ℕ) → get_or (l ++ v ∷ []) j d ≡ cond (eqb j (length l)) v (get_or l j d)
get_or_push l v d j =
    let n = length l in
    elim (cases_order j n) [
      | inl e ↦ rw (eq-eqb j n e, e) (get_or-append_seam l v [] d)
      | inr (inl k) ↦ rw (ne_eqb j n (omega arith)) (get_or-append l (v ∷ []) d j k)
      | inr (inr k) ↦ rw (ne_eqb j n (omega arith))
          (get_or_past (l ++ v ∷ []) j d (omega (arith, length_push l v)) ∙ sym (get_or_past l j d (omega arith)))
    ]

pub get_or_shut : (ends : List Bool) (x a : ℕ) → get_or (set ends x false) a false ≡ cond (eqb a x) false (get_or ends a false)
get_or_shut ends x a =
    elim (cases_lt x (length ends)) [
      | inl l ↦ get_or_set ends x a false false l
      | inr g ↦ elim (cases_eq a x) [
        | inl e ↦ rw (eq-eqb a x e) (get_or_past (set ends x false) a false (omega (arith, length-set {A = Bool})))
        | inr ne ↦ rw (ne_eqb a x ne) (get_or-set_other ends x a false false ne)
      ]
    ]

pub closed_end : (ends : List Bool) (n x a : ℕ)
    → (ltb a n && get_or (set ends x false) a false) ≡ (not (eqb a x) && (ltb a n && get_or ends a false))
closed_end ends n x a = rw (get_or_shut ends x a) (shut_test (ltb a n) (eqb a x) (get_or ends a false))

pub opened_end : (ends : List Bool) (n a : ℕ) → length ends ≡ n
    → (ltb a (n + 1) && get_or (ends ++ true ∷ []) a false) ≡ (eqb a n || (ltb a n && get_or ends a false))
opened_end ends n a e = rw (get_or_push ends true false a, e) (grind (arith, nat_tests))
