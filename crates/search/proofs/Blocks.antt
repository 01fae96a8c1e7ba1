-- Marks of blocks.
-- Assumes nothing.
use Rattle.std.proofs.Common.{◌≡◌, ℕ, zero, suc, ◌+◌, ◌-◌, ◌*◌, ◌/◌, ◌%◌, ◌^◌, ◌<◌, ◌≤◌, min, Bool, true, false, ◌&&◌, ◌||◌, eqb, ltb, ◌⊎◌, List, length, get_or, set, replicate, Some, None, Option, MatchOption, sym, refl, ap, ◌∙◌, subst, inl, inr, ⊎_elim, add-mul, arith}
use native.Mathlib.Nat.{zero-div}
use lib.Bits.{bit_or}
use lib.Count.{count_trailing_zeros, under}
use Rattle.std.proofs.lemmas.Nat.{shr-shr, div-add-mod', mod_below, div_below, le-div, mul-le}
use Rattle.std.proofs.lemmas.List.{get_or_past, get_or-replicate, length-replicate, get_or_default}
use Rattle.std.proofs.lemmas.Bool.{lt-ltb, le-ltb, cases_eq, cases_lt, eq-eqb, ne_eqb, and_cases, or_parts}
use Rattle.std.specs.Bool.{then_some}
use Rattle.order.proofs.Words.{get_or_set, or_bit, power_bit}
use Rattle.rows.specs.Edges.{in_set, blank_edge}
use Rattle.rows.specs.declared.edge.Edge.{Edge}
use Rattle.recording.specs.Enumeration.{row_at}
use Rattle.recording.specs.Walks.{first_from}
use Rattle.recording.proofs.Bitsets.{in_half, in_zero}
use Rattle.recording.proofs.Firsts.{first_past, first_here, first_skip}
use Rattle.search.specs.declared.index.Index.{Index}
use Rattle.search.specs.Indexes.{holding, mark, held_in, Indexes}

-- Bit b of a lock's word once bit k of the word of lock h was set.
pub marked : (ws : List ℕ) (h k lock b : ℕ) → h < length ws
    → in_set b (get_or (set ws h (bit_or (get_or ws h 0) (2 ^ k))) lock 0)
    ≡ ((eqb lock h && eqb b k) || in_set b (get_or ws lock 0))
marked ws h k lock b l =
    rw (get_or_set ws h lock (bit_or (get_or ws h 0) (2 ^ k)) 0 l)
    (elim (cases_eq lock h) [
      | inl e ↦
          rw (eq-eqb lock h e, e, or_bit (get_or ws h 0) (2 ^ k) b, power_bit k b)
          (or_flip (in_set b (get_or ws h 0)) (eqb b k))
      | inr ne ↦ rw (ne_eqb lock h ne)
    ])
  where
    or_flip : (x y : Bool) → (x || y) ≡ (y || x)
    or_flip true true = refl
    or_flip true false = refl
    or_flip false true = refl
    or_flip false false = refl

-- A row of a block that is not marked does not hold the lock.
pub not_held : (rows : List Edge) (size lock b n : ℕ) → held_in rows size lock b n ≡ false → (x : ℕ) → x < n → b ≡ x / size
    → holding lock (row_at rows x) ≡ false
not_held rows size lock b zero e x h at = absurd (omega arith)
not_held rows size lock b (suc n) e x h at =
    let (here, below) = or_parts (holding lock (row_at rows n) && eqb b (n / size)) (held_in rows size lock b n) e in
    elim (cases_lt x n) [
      | inl l ↦ not_held rows size lock b n below x l at
      | inr l ↦
          let s : n ≡ x = omega arith in
          ⊎_elim (λ k. ap (λ y. holding lock (row_at rows y)) (sym s) ∙ k)
          (λ k. absurd (let t = eq-eqb b (n / size) (at ∙ ap (λ y. y / size) (sym s)) in
          let z : true ≡ false = sym t ∙ k in let o : ◌≡◌ {A = ℕ} 0 1 = cc in omega arith))
          (and_cases (holding lock (row_at rows n)) (eqb b (n / size)) here)
    ]

-- The bits below the lowest one are not set.
clear_zero : (n t : ℕ) → 0 < under (n % 2) t → n % 2 ≡ 0
clear_zero n t h = go (n % 2) h
  where
    go : (d : ℕ) → 0 < under d t → d ≡ 0
    go zero l = refl
    go (suc d) l = absurd (omega arith)

clear_more : (n t j : ℕ) → suc j < under (n % 2) t → j < t
clear_more n t j h = go (n % 2) h
  where
    go : (d : ℕ) → suc j < under d t → j < t
    go zero l = omega arith
    go (suc d) l = absurd (omega arith)

pub trailing_clear : (k n j : ℕ) → j < count_trailing_zeros k n → in_set j n ≡ false
unfolding count_trailing_zeros
trailing_clear zero n j h = absurd (omega arith)
trailing_clear (suc k) n zero h = ap (λ x. eqb x 1) (in_zero n ∙ clear_zero n (count_trailing_zeros k (n / 2)) h)
trailing_clear (suc k) n (suc j) h =
    ap (λ x. eqb x 1) (in_half j n) ∙ trailing_clear k (n / 2) j (clear_more n (count_trailing_zeros k (n / 2)) j h)

-- The bits of a word from a bit on, below the lowest one there.
pub skipped : (w k b : ℕ) → k ≤ b → b < k + count_trailing_zeros 64 (w / 2 ^ k) → in_set b w ≡ false
skipped w k b l h =
    let e : k + (b - k) ≡ b = omega arith in
    ap (λ x. in_set x w) (sym e) ∙ ap (λ x. eqb (x % 2) 1) (sym (shr-shr w k (b - k)))
    ∙ trailing_clear 64 (w / 2 ^ k) (b - k) (omega arith)

-- The lowest bit of a word from bit k on, if it is below 64.
abbrev pub IsNextBit : ℕ → ℕ → Option ℕ → Type 0
IsNextBit w k o =
    MatchOption o ((b : ℕ) → k ≤ b → b < 64 → in_set b w ≡ false)
    (λ n. (k ≤ n) × (n < 64) × ((b : ℕ) → k ≤ b → b < n → in_set b w ≡ false))

pub next_bit : (w k later : ℕ) (r : Option ℕ) → later ≡ w / 2 ^ k
    → r ≡ then_some (ltb (k + count_trailing_zeros 64 later) 64) (k + count_trailing_zeros 64 later) → IsNextBit w k r
next_bit w k later r is e = go (cases_lt (k + count_trailing_zeros 64 later) 64)
  where
    clear : (b : ℕ) → k ≤ b → b < k + count_trailing_zeros 64 later → in_set b w ≡ false
    clear b l h = skipped w k b l (omega (arith, ap (count_trailing_zeros 64) is))

    so : (t : Bool) → ltb (k + count_trailing_zeros 64 later) 64 ≡ t → r ≡ then_some t (k + count_trailing_zeros 64 later)
    so t z = e ∙ ap (λ x. then_some x (k + count_trailing_zeros 64 later)) z

    go : (k + count_trailing_zeros 64 later < 64) ⊎ (64 ≤ k + count_trailing_zeros 64 later) → IsNextBit w k r
    go (inl h) = subst (IsNextBit w k) (sym (so true (lt-ltb _ 64 h))) (omega arith, h, clear)
    go (inr h) = subst (IsNextBit w k) (sym (so false (le-ltb _ 64 h))) (λ b l m. clear b l (omega arith))

pub and_true : (x y : Bool) → y ≡ true → (x && y) ≡ x
and_true true y e = e
and_true false y e = refl

pub no_mark : (lock b : ℕ) → in_set b (get_or {A = ℕ} (replicate 64 0) lock 0) ≡ false
no_mark lock b = ap (in_set b) (none (cases_lt lock 64)) ∙ ap (λ x. eqb (x % 2) 1) (zero-div (2 ^ b))
  where
    none : (lock < 64) ⊎ (64 ≤ lock) → ◌≡◌ {A = ℕ} (get_or (replicate 64 0) lock 0) 0
    none (inl h) = get_or-replicate 64 lock 0 0 h
    none (inr h) = get_or_past (replicate 64 0) lock 0 (omega (arith, length-replicate {A = ℕ} 64 0))

-- A place stands in one of 64 blocks.
pub block_small : (n i : ℕ) → i < n → i / (n / 64 + 1) < 64
block_small n i h = div_below i (n / 64 + 1) 64 (omega arith) (omega arith)

-- One row more.
pub mark_more : (rows : List Edge) (size lock b i : ℕ) (e : Edge) (m : Bool) → e ≡ row_at rows i
    → m ≡ held_in rows size lock b i → ((holding lock e && eqb b (i / size)) || m) ≡ held_in rows size lock b (i + 1)
mark_more rows size lock b i e m is so =
    let next : suc i ≡ i + 1 = omega arith in
    (λ j. (holding lock (is j) && eqb b (i / size)) || so j) ∙ ap (held_in rows size lock b) next

-- What is read where no row stands.
abbrev pub zero_edge : Edge
zero_edge = record { thread = 0; held = 0; wanted = 0; guards = 0; segment = 0 }

-- None of the places passes, or the one at x is the first that does.
abbrev pub NonePasses : (Edge → Bool) → List Edge → ℕ → ℕ → Type 0
NonePasses test rows from «end» = (k : ℕ) → from ≤ k → k < «end» → test (get_or rows k zero_edge) ≡ false

abbrev pub FirstPasses : (Edge → Bool) → List Edge → ℕ → ℕ → ℕ → Type 0
FirstPasses test rows from «end» x =
    (from ≤ x) × (x < «end») × (test (get_or rows x zero_edge) ≡ true) × NonePasses test rows from x

-- The rows before some end.
module _ (test : Edge → Bool) (rows : List Edge) (from «end» : ℕ) (within : «end» ≤ length rows) where
  none_at : NonePasses test rows from «end» → (k : ℕ) → from ≤ k → k < «end» → test (row_at rows k) ≡ false
  none_at fails k l h =
      let s : k < length rows = omega arith in ap test (get_or_default rows k blank_edge zero_edge s) ∙ fails k l h

  pub found_before : (r : Option ℕ) → MatchOption r (NonePasses test rows from «end») (FirstPasses test rows from «end»)
      → MatchOption r ((k : ℕ) → from ≤ k → k < «end» → test (row_at rows k) ≡ false) (λ x. first_from test rows from ≡ Some x)
  found_before None fails = none_at fails
  found_before (Some x) (l, h, found, before) =
      let e : from + (x - from) ≡ x = omega arith in
      let s : x < length rows = omega arith in
      first_skip test rows (x - from) from
      (λ k m n o. ap test (get_or_default rows k blank_edge zero_edge o) ∙ before k m (omega arith)) ∙ ap (first_from test rows) e
      ∙ first_here test rows x s (ap test (get_or_default rows x blank_edge zero_edge s) ∙ found)

-- Over all the rows.
pub found_first : (test : Edge → Bool) (rows : List Edge) (from : ℕ) (r : Option ℕ)
    → MatchOption r (NonePasses test rows from (length rows)) (FirstPasses test rows from (length rows)) → r ≡ first_from test rows from
found_first test rows from None fails =
    sym (first_skip test rows (length rows) from (λ k l _ h. none_at test rows from (length rows) (omega arith) fails k l h)
    ∙ first_past test rows (from + length rows) (omega arith))
found_first test rows from (Some x) found = sym (found_before test rows from (length rows) (omega arith) (Some x) found)

-- ---- from the end of a block to the next that is marked

pub block_ends : (at size : ℕ) → 0 < size → at < (at / size + 1) * size
block_ends at size h = omega (arith, add-mul (at / size) 1 size, div-add-mod' at size, mod_below at size h)

pub blocks_on : (at size b : ℕ) → 0 < size → at / size + 1 ≤ b → at < b * size
blocks_on at size b h l = omega (arith, block_ends at size h, mul-le (at / size + 1) size b size l (omega arith))

module _ (rows : List Edge) (index : Index) (is : Indexes rows index) (lock at : ℕ) where
  abbrev long : ℕ
  long = index.size

  some : 0 < long
  some = omega (arith, is.size)

  pub in_block : at < length rows → at / long + 1 ≤ 64
  in_block h = let e = is.size in omega (arith, subst (λ n. at / n < 64) (sym e) (block_small (length rows) at h))

  -- What the scan of the block and the marks of the blocks up to b leave out.
  module _ («end» : ℕ) (known : lock < 64) (b : ℕ) (within : at < length rows) (ends : «end» ≡ min ((at / long + 1) * long) (length rows))
      (scanned : (k : ℕ) → at ≤ k → k < «end» → holding lock (row_at rows k) ≡ false) (later : at / long + 1 ≤ b)
      (clear : (k : ℕ) → at / long + 1 ≤ k → k < b → k < 64 → mark index lock k ≡ false) where
    pub gap : (x : ℕ) → at ≤ x → x < b * long → x < length rows → holding lock (row_at rows x) ≡ false
    gap x l h k =
        elim (cases_lt x «end») [
          | inl s ↦ scanned x l s
          | inr s ↦
              let low = le-div (at / long + 1) x long some (omega arith) in
              let high = div_below x long b some h in
              let small : x / long < 64 = subst (λ n. x / n < 64) (sym is.size) (block_small (length rows) x k) in
              not_held rows long lock (x / long) (length rows)
              (sym (is.marks lock (x / long) known small) ∙ clear (x / long) low high small) x k refl
        ]

    pub gap_on : first_from (holding lock) rows at ≡ first_from (holding lock) rows (b * long)
    gap_on =
        let far = blocks_on at long b some later in
        let e : at + (b * long - at) ≡ b * long = omega arith in
        first_skip (holding lock) rows (b * long - at) at (λ x l h k. gap x l (omega arith) k) ∙ ap (first_from (holding lock) rows) e

    pub gap_none : 64 ≤ b → first_from (holding lock) rows at ≡ None
    gap_none h =
        let far = mul-le 64 long b long h (omega arith) in
        gap_on ∙ first_past (holding lock) rows (b * long) (omega (arith, far, is.size))
