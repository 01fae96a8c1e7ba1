-- What the walk, the shift and the blanking make of the places.
use Rattle.std.proofs.Common.{◌≡◌, ℕ, ◌+◌, ◌-◌, ◌<◌, ◌≤◌, eqb, List, [], ◌∷◌, ◌++◌, length, get_or, take, drop, set, replicate, Some, None, Option, sym, refl, ap, subst, ◌∙◌, append_assoc, arith, Bor, MatchOption}
use Rattle.std.specs.Option.{option_map}
use Rattle.std.specs.List.{insert, HoldsAt, slice_get, FoldsTo, copy_within}
use Rattle.std.proofs.lemmas.List.Edits.{length-insert}
use Rattle.std.proofs.lemmas.List.{take_more, take-take, drop-take, take_at, drop_at, drop-drop, set_at, length-take-le, length-drop}
use Rattle.std.proofs.lemmas.Option.{slice_get-get_or, slice_get_past}
use Rattle.std.proofs.lemmas.Bool.{eq-eqb, ne_eqb}
use Rattle.sorted_list.specs.Lists.{Held, memory, cut, none, entered}

module _ {X : Type 0} where
  both : {xs ys zs ws : List X} → xs ≡ ys → zs ≡ ws
      → ◌≡◌ {A = Held X} (record { records = xs; free = zs }) (record { records = ys; free = ws })
  both p q = cc

  -- what `get` lends is the record at the place
  pub nth_item : (xs : List X) (i : ℕ) (o : Option (Bor X))
      → MatchOption o (length xs ≤ i) (λ x. (i < length xs) × HoldsAt (λ y. x.now ≡ y) xs i) → option_map (λ x. x.now) o ≡ slice_get xs i
  nth_item xs i None h = sym (slice_get_past xs i h)
  nth_item xs i (Some x) h = ap Some (h.1 x.now) ∙ sym (slice_get-get_or xs i x.now h.0)

  -- no place is free exactly where all are counted
  pub none_free : (m : List X) (n : ℕ) → n ≤ length m → eqb n (length m) ≡ none (drop n m)
  none_free m n h = by (drop n m) (length-drop n m)
    where
      by : (ys : List X) → length ys ≡ length m - n → eqb n (length m) ≡ none ys
      by [] e = eq-eqb n (length m) (omega arith)
      by (y ∷ ys) e = ne_eqb n (length m) (λ q. omega arith)

  -- where each call gives x and leaves the closure as it was, all that it gave are x
  pub filled_same : {F : Type 0} (R : F → X → F → Type 0) (f : F) (x : X) → ((y : X) (q : F) → R f y q → (y ≡ x) × (q ≡ f))
      → (xs : List X) (q : F) → FoldsTo R f xs q → xs ≡ replicate (length xs) x
  filled_same R f x one [] q h = refl
  filled_same R f x one (y ∷ xs) q h =
      let t = one y h.0 h.1 in
      let rest = filled_same R f x one xs q (subst (λ k. FoldsTo R k xs q) t.1 h.2) in
      ap (λ z. z ∷ xs) t.0 ∙ ap (λ l. x ∷ l) rest

  -- the memory with x put in at the place i, and what stood from there up to n one place on
  put_in : (m : List X) (n i : ℕ) (x : X) → i ≤ n → n < length m
      → set (copy_within m i n (i + 1)) i x ≡ memory (entered (cut m n) i x)
  put_in m n i x low room =
      let moved = take (n - i) (drop i m) in
      let rest = drop (i + 1 + (n - i)) m in
      let fore : take i (take n m) ≡ take i m = take-take i n m low in
      let e : i + (n - i) ≡ n = omega arith in
      let back : drop i (take n m) ≡ moved = ap (λ k. drop i (take k m)) (sym e) ∙ drop-take i (n - i) m in
      let f : i + 1 + (n - i) ≡ n + 1 = omega arith in
      let behind : drop 1 (drop n m) ≡ rest = drop-drop 1 n m ∙ ap (λ k. drop k m) (sym f) in
      rw (fore, back, behind, take_more m i x (omega arith))
      (simp append_assoc (set_at (take i m) (get_or m i x) (moved ++ rest) x i (length-take-le i m (omega arith))))

  pub put_held : (l m : List X) (n i : ℕ) (x : X) → l ≡ copy_within m i n (i + 1) → i ≤ length (take n m) → n < length m
      → cut (set l i x) (n + 1) ≡ entered (cut m n) i x
  put_held l m n i x after low room =
      let xs = take n m in
      let counted : length xs ≡ n = length-take-le n m (omega arith) in
      let whole = ap (λ k. set k i x) after ∙ put_in m n i x (omega arith) room in
      let long : length (insert xs i x) ≡ n + 1 = omega (arith, length-insert xs i x low) in
      both (ap (take (n + 1)) whole ∙ take_at (insert xs i x) (drop 1 (drop n m)) (n + 1) long)
      (ap (drop (n + 1)) whole ∙ drop_at (insert xs i x) (drop 1 (drop n m)) (n + 1) long)
