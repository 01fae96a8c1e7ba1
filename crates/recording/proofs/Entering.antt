-- A list that has places for what is put in order refuses none of it, and holds it.
-- Assumes nothing.
use Rattle.std.proofs.Common.{◌≡◌, ℕ, ◌+◌, ◌-◌, ◌≤◌, Bool, true, false, cond, not, ◌&&◌, ◌||◌, ◌⊎◌, ◌↔◌, List, [], ◌∷◌, length, replicate, Ordering, Less, sym, refl, ap, ◌∙◌, subst, inl, inr, ⊎_elim, arith}
use mathlib.Core.List.Memᴰ
use mathlib.Core.List.{Memᴰ}
use Rattle.std.proofs.lemmas.List.{length-replicate}
use Rattle.std.proofs.lemmas.Bool.{cond-false, false≢true}
use Rattle.sorted_list.specs.Orders.{TotalOrder, Same}
use Rattle.sorted_list.specs.Lists.{Held, opened, place_for, present, none, entered, added, refused}
use Rattle.sorted_list.specs.Laws.{Ascending, Blank, filled, accepted}
use Rattle.sorted_list.proofs.Orders.{not_equal, equal_self}
use Rattle.sorted_list.proofs.Members.{all_member, unique}
use Rattle.sorted_list.proofs.Adding.{adds}
use Rattle.sorted_list.proofs.Filling.{fills, whole_keys}
use Rattle.recording.specs.Sorting.{sorted}
use Rattle.recording.proofs.Sorting.{sorted_ascends, sorted_only, sorted_all}

none_free : {X : Type 0} (ys : List X) → none ys ≡ true → length ys ≡ 0
none_free [] e = refl
none_free (y ∷ ys) e = absurd (false≢true e)

blank_is : {X : Type 0} (vacant : X) (ys : List X) → Blank vacant ys → ys ≡ replicate (length ys) vacant
blank_is vacant [] h = refl
blank_is vacant (y ∷ ys) h =
    let first = h.0 in
    let more = blank_is vacant ys h.1 in
    λ i. first i ∷ more i

module _ {X : Type 0} (rank : X → X → Ordering) (o : TotalOrder rank) where
  apart : (x z : X) → rank x z ≡ Less → z ≡ x → ⊥
  apart x z h e = not_equal h (ap (rank x) e ∙ equal_self o x)

  -- An ascending list with fewer members is no longer.
  shorter : (ys xs : List X) → Ascending rank xs → Ascending rank ys → ((z : X) → Memᴰ z xs → Memᴰ z ys)
      → length xs ≤ length ys
  shorter ys [] p q to = omega arith
  shorter [] (x ∷ xs) p q to = absurd (Memᴰ.not-nil (to x (Memᴰ.head refl)))
  shorter (y ∷ ys) (x ∷ xs) p q to =
      go (Memᴰ.cases_cons (to x (Memᴰ.head refl))) (shorter ys xs p.1 q.1) (shorter ys (x ∷ xs) p q.1)
    where
      above : (z : X) → Memᴰ z xs → rank x z ≡ Less
      above z m = all_member (λ w. rank x w ≡ Less) xs p.0 m

      but : (z : X) → Memᴰ z (x ∷ xs) → (z ≡ y → ⊥) → Memᴰ z ys
      but z m d = ⊎_elim (λ e. absurd (d e)) (λ n. n) (Memᴰ.cases_cons (to z m))

      go : (x ≡ y) ⊎ Memᴰ x ys → (((z : X) → Memᴰ z xs → Memᴰ z ys) → length xs ≤ length ys)
          → (((z : X) → Memᴰ z (x ∷ xs) → Memᴰ z ys) → length (x ∷ xs) ≤ length ys) → length (x ∷ xs) ≤ length (y ∷ ys)
      go (inl e) rest whole =
          let k = rest (λ z m. but z (Memᴰ.tail m) (λ f. apart x z (above z m) (f ∙ sym e))) in omega arith
      go (inr n) rest whole =
          let less = all_member (λ w. rank y w ≡ Less) ys q.0 n in
          let k = whole (λ z m. but z m (λ f. ⊎_elim
          (λ e. apart y x less (sym e ∙ f)) (λ i. apart y z (o.trans y x z less (above z i)) f) (Memᴰ.cases_cons m))) in
          omega arith

  module _ (all : List X) (up : Ascending rank all) where
    -- A member finds a place where there are places for all.
    room : (h : Held X) (r : X) → Ascending rank h.records → ((z : X) → Memᴰ z h.records → Memᴰ z all)
        → Memᴰ r all → length all ≤ length h.records + length h.free → refused rank h r ≡ false
    room h r a inside m n = by (present rank h.records r) (none h.free) refl refl
      where
        full : present rank h.records r ≡ false → length h.records + 1 ≤ length all
        full e =
            let one_more : Held X = record { records = h.records; free = r ∷ [] } in
            let step = adds rank o r one_more r in
            let gone : length (added rank one_more r).free ≡ 0 =
            subst (λ p. length (cond (p || none (r ∷ [])) one_more (entered one_more (place_for rank h.records r) r)).free ≡ 0)
            (sym e) refl in
            let within = shorter all (added rank one_more r).records (step.ascends a) up
            (λ z k. ⊎_elim (inside z) (λ w. Memᴰ.cast w.0 m) (step.only z k)) in
            omega (arith, step.size, gone, within)

        by : (p q : Bool) → present rank h.records r ≡ p → none h.free ≡ q → (not p && q) ≡ false
        by true q e f = refl
        by false true e f = absurd (omega (arith, full e, none_free h.free f))
        by false false e f = refl

    enters : (h : Held X) (rs : List X) → Ascending rank h.records → ((z : X) → Memᴰ z h.records → Memᴰ z all)
        → ((z : X) → Memᴰ z rs → Memᴰ z all) → length all ≤ length h.records + length h.free
        → accepted rank h rs ≡ rs
    enters h [] a inside of n = refl
    enters h (r ∷ rs) a inside of n =
        let step = adds rank o r h r in
        let rest = accepted rank (added rank h r) rs in
        let here = of r (Memᴰ.head refl) in
        cond-false (refused rank h r) rest (r ∷ rest) (room h r a inside here n)
        ∙ ap (λ l. r ∷ l) (enters (added rank h r) rs (step.ascends a)
        (λ z m. ⊎_elim (inside z) (λ w. Memᴰ.cast w.0 here) (step.only z m)) (λ z m. of z (Memᴰ.tail m))
        (omega (arith, step.size)))

  module _ (same : Same rank) (vacant : X) (rs : List X) (n : ℕ) where
    all_enter : length (sorted rank vacant rs) ≤ n → accepted rank (opened vacant n) rs ≡ rs
    all_enter h =
        enters (sorted rank vacant rs) (sorted_ascends rank o vacant rs) (opened vacant n) rs tt
        (λ z m. absurd (Memᴰ.not-nil m)) (sorted_all rank o vacant rs same) (omega (arith, length-replicate n vacant))

    records_are : accepted rank (opened vacant n) rs ≡ rs → (filled rank (opened vacant n) rs).records ≡ sorted rank vacant rs
    records_are e =
        unique o (filled rank (opened vacant n) rs).records (sorted rank vacant rs)
        (fills rank o vacant n rs).ascends (sorted_ascends rank o vacant rs)
        (λ x m. sorted_all rank o vacant rs same x (subst (λ l. Memᴰ x l) e ((fills rank o vacant n rs).only x m)))
        (λ x m. (whole_keys rank o vacant same).fills n rs x (subst (λ l. Memᴰ x l) (sym e) (sorted_only rank o vacant rs x m)))

    enter_all : accepted rank (opened vacant n) rs ≡ rs → length (sorted rank vacant rs) ≤ n
    enter_all e = omega (arith, ap length (records_are e), (fills rank o vacant n rs).size)

    pub refuses_none : (accepted rank (opened vacant n) rs ≡ rs) ↔ (length (sorted rank vacant rs) ≤ n)
    refuses_none = (enter_all, all_enter)

    pub holds_all : length (sorted rank vacant rs) ≤ n → filled rank (opened vacant n) rs
        ≡ record { records = sorted rank vacant rs; free = replicate (n - length (sorted rank vacant rs)) vacant }
    holds_all h =
        let a = records_are (all_enter h) in
        let left : length (filled rank (opened vacant n) rs).free ≡ n - length (sorted rank vacant rs) =
        omega (arith, ap length a, (fills rank o vacant n rs).size) in
        let b = blank_is vacant (filled rank (opened vacant n) rs).free (fills rank o vacant n rs).blanks ∙ ap
        (λ k. replicate k vacant) left in
        λ i. record { records = a i; free = b i }
