-- How a file splits into lines.
-- Assumes nothing.
use Rattle.std.proofs.Common.{◌≡◌, ℕ, suc, ◌+◌, ◌<◌, ◌≤◌, Bool, true, false, not, cond, eqb, ltb, ◌⊎◌, List, [], ◌∷◌, length, take, drop, Some, None, position, sym, refl, ap, ◌∙◌, inl, inr, ⊎_elim, arith}
use Rattle.std.specs.List.{position_or_len, before_first, after_first}
use Rattle.std.proofs.Math.Numerals.{one-add, add-one}
use Rattle.std.proofs.lemmas.List.{take_all, drop_all}
use Rattle.std.proofs.lemmas.List.Quantifiers.{position-Some}
use Rattle.std.proofs.lemmas.List.Sums.{position_or_len_is}
use Rattle.std.proofs.lemmas.Bool.{cond-true, cond-false, cond_both, cases_Bool, ltb-false}
use Rattle.feed.specs.Lines.{first_of, later_of, onto, lines}

-- a byte that ends a line
abbrev pub ends_line : ℕ → Bool
ends_line b = eqb b 10

first_is : (bs : List ℕ) → first_of bs ≡ before_first ends_line bs
first_is [] = refl
first_is (b ∷ bs) = go (eqb b 10) (first_is bs)
  where
    go : (t : Bool) → first_of bs ≡ before_first ends_line bs
        → cond t [] (b ∷ first_of bs) ≡ take (cond (not t) (1 + position_or_len ends_line bs) 0) (b ∷ bs)
    go true h = refl
    go false h = rw (one-add, h) refl

later_is : (bs : List ℕ) → later_of bs ≡ after_first ends_line bs
later_is [] = refl
later_is (b ∷ bs) = go (eqb b 10) (later_is bs)
  where
    go : (t : Bool) → later_of bs ≡ after_first ends_line bs
        → cond t bs (later_of bs) ≡ drop (cond (not t) (1 + position_or_len ends_line bs) 0 + 1) (b ∷ bs)
    go true h = refl
    go false h = rw (one-add, add-one) (rw add-one at h)

-- the first line ends at the newline that was found, or with the file
module _ (bs : List ℕ) where
  pub found_first : (end : ℕ) → Some end ≡ position ends_line bs → (take end bs ≡ first_of bs) × (drop (end + 1) bs ≡ later_of bs)
  found_first end e =
      let n = position-Some ends_line bs end 0 (sym e) in
      let is = position_or_len_is ends_line bs end 0 (omega (arith, n.0)) n.2 (λ _. n.1) in
      (rw (first_is bs, is) refl, rw (later_is bs, is) refl)

  pub found_none : None ≡ position ends_line bs → (bs ≡ first_of bs) × ([] ≡ later_of bs)
  found_none e = go (cases_Bool (ltb n (length bs)))
    where
      n : ℕ
      n = position_or_len ends_line bs

      go : (ltb n (length bs) ≡ true) ⊎ (ltb n (length bs) ≡ false) → (bs ≡ first_of bs) × ([] ≡ later_of bs)
      go (inl t) = let z = e ∙ cond-true _ _ _ t in absurd (cc)
      go (inr t) =
          let all = ltb-false n (length bs) t in
          (sym (first_is bs ∙ take_all n bs all), sym (later_is bs ∙ drop_all (n + 1) bs (omega (arith, all))))

-- the first line, and the others
pub lines_split : (bs : List ℕ) → 0 < length bs → lines bs ≡ first_of bs ∷ lines (later_of bs)
lines_split [] h = absurd (omega arith)
lines_split (b ∷ bs) h = go bs (lines_split bs)
  where
    go : (cs : List ℕ) → (0 < length cs → lines cs ≡ first_of cs ∷ lines (later_of cs)) →
        lines (b ∷ cs) ≡ first_of (b ∷ cs) ∷ lines (later_of (b ∷ cs))
    go cs ih =
        ⊎_elim
        (λ e. cond-true _ _ _ e ∙ sym (λ k. cond-true (eqb b 10) [] (b ∷ first_of cs) e k ∷ lines (cond-true (eqb b 10) cs (later_of cs) e k)))
        (λ e. cond-false _ _ _ e ∙ other cs ih ∙ sym (λ k. cond-false (eqb b 10) [] (b ∷ first_of cs) e k ∷ lines (cond-false (eqb b 10) cs (later_of cs) e k)))
        (cases_Bool (eqb b 10))
      where
        other : (ds : List ℕ) → (0 < length ds → lines ds ≡ first_of ds ∷ lines (later_of ds)) →
            onto b (lines ds) ≡ (b ∷ first_of ds) ∷ lines (later_of ds)
        other [] ih = refl
        other (d ∷ ds) ih = ap (onto b) (ih (omega arith))

later_within : (bs : List ℕ) → length (later_of bs) ≤ length bs
later_within [] = omega arith
later_within (b ∷ bs) = cond_both (eqb b 10) bs (later_of bs) (λ cs. length cs ≤ suc (length bs)) (λ _. omega arith) (λ _. omega (arith, later_within bs))

pub later_less : (bs : List ℕ) → 0 < length bs → length (later_of bs) < length bs
later_less [] h = absurd (omega arith)
later_less (b ∷ bs) h = cond_both (eqb b 10) bs (later_of bs) (λ cs. length cs < suc (length bs)) (λ _. omega arith) (λ _. omega (arith, later_within bs))

pub lines_bound : (bs : List ℕ) → length (lines bs) ≤ length bs
lines_bound [] = omega arith
lines_bound (b ∷ bs) = cond_both (eqb b 10) ([] ∷ lines bs) (onto b (lines bs)) (λ ls. length ls ≤ suc (length bs)) (λ _. omega (arith, lines_bound bs)) (λ _. omega (arith, onto_bound (lines bs), lines_bound bs))
  where
    onto_bound : (ls : List (List ℕ)) → length (onto b ls) ≤ suc (length ls)
    onto_bound [] = omega arith
    onto_bound (l ∷ ls) = omega arith
