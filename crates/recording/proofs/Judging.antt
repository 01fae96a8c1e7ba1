-- A report that adds the circles of the chains one by one, and remembers whether one found no place, comes to the answer.
-- Assumes nothing.
use Rattle.std.proofs.Common.{◌≡◌, ℕ, suc, ◌+◌, ◌-◌, ◌<◌, ◌≤◌, Bool, true, false, cond, ◌&&◌, ◌||◌, ltb, List, [], ◌∷◌, ◌++◌, length, get_or, take, replicate, Ok, Err, Ordering, sym, refl, ap, ◌∙◌, ⊎_elim, arith}
use Rattle.std.proofs.lemmas.List.{take_more, take_all, append-nil}
use Rattle.std.proofs.lemmas.Bool.{cond-true, cond-false, or_parts, lt-ltb, le-ltb, cases_lt}
use Rattle.sorted_list.specs.Lists.{Held, opened, added, refused}
use Rattle.sorted_list.specs.Laws.{filled, accepted}
use Rattle.sorted_list.proofs.Filling.{fills}
use Rattle.rows.specs.Circles.{blank_row}
use Rattle.rows.specs.Orders.{rank_row}
use Rattle.rows.specs.declared.edge.Edge.{Edge}
use Rattle.rows.specs.declared.row.CircleRow.{CircleRow}
use Rattle.rows.specs.declared.step.Step.{Step}
use Rattle.rows.specs.OrderLaws.{row_order}
use Rattle.recording.specs.declared.cause.SearchCause.TheVariants.{Budget, Places}
use Rattle.recording.specs.Enumeration.{chains}
use Rattle.recording.specs.Answers.{steps_at, closed, circle_row, circles_given, circles}
use Rattle.recording.specs.Replies.{reply, listed, reported}
use Rattle.recording.proofs.Reporting.{reports}

-- ---- records added in turn

module _ {X : Type 0} (rank : X → X → Ordering) where
  -- One of them finds no place.
  abbrev pub refused_any : Held X → List X → Bool
  refused_any h [] = false
  refused_any h (r ∷ rs) = refused rank h r || refused_any (added rank h r) rs

  pub filled_more : (h : Held X) (rs : List X) (r : X) → filled rank h (rs ++ r ∷ []) ≡ added rank (filled rank h rs) r
  filled_more h [] r = refl
  filled_more h (x ∷ rs) r = filled_more (added rank h x) rs r

  pub refused_more : (h : Held X) (rs : List X) (r : X)
      → refused_any h (rs ++ r ∷ []) ≡ (refused_any h rs || refused rank (filled rank h rs) r)
  refused_more h [] r = or_none (refused rank h r)
    where
      or_none : (b : Bool) → (b || false) ≡ b
      or_none true = refl
      or_none false = refl
  refused_more h (x ∷ rs) r =
      ap (λ b. refused rank h x || b) (refused_more (added rank h x) rs r)
      ∙ or_assoc (refused rank h x) (refused_any (added rank h x) rs) (refused rank (filled rank (added rank h x) rs) r)
    where
      or_assoc : (a b c : Bool) → (a || (b || c)) ≡ ((a || b) || c)
      or_assoc true b c = refl
      or_assoc false b c = refl

  none_refused : (h : Held X) (rs : List X) → refused_any h rs ≡ false → accepted rank h rs ≡ rs
  none_refused h [] e = refl
  none_refused h (r ∷ rs) e =
      let (here, more) = or_parts (refused rank h r) (refused_any (added rank h r) rs) e in
      let rest = accepted rank (added rank h r) rs in
      cond-false (refused rank h r) rest (r ∷ rest) here ∙ ap (λ l. r ∷ l) (none_refused (added rank h r) rs more)

  accepted_short : (h : Held X) (rs : List X) → length (accepted rank h rs) + cond (refused_any h rs) 1 0 ≤ length rs
  accepted_short h [] = omega arith
  accepted_short h (r ∷ rs) = go (refused rank h r) (refused_any (added rank h r) rs) (accepted_short (added rank h r) rs)
    where
      go : (a b : Bool) → length (accepted rank (added rank h r) rs) + cond b 1 0 ≤ length rs
          → length (cond a (accepted rank (added rank h r) rs) (r ∷ accepted rank (added rank h r) rs)) + cond (a || b) 1 0 ≤ suc (length rs)
      go true true k = omega arith
      go true false k = omega arith
      go false true k = omega arith
      go false false k = omega arith

  some_refused : (h : Held X) (rs : List X) → refused_any h rs ≡ true → accepted rank h rs ≡ rs → ⊥
  some_refused h rs e k =
      let one : ◌≡◌ {A = ℕ} (cond (refused_any h rs) 1 0) 1 = ap {B = ℕ} (λ b. cond b 1 0) e in
      omega (arith, accepted_short h rs, ap length k, one)

-- ---- the circles that chains give in turn

module _ (rows : List Edge) where
  given_append : (xs ys : List (List ℕ)) → circles_given rows (xs ++ ys) ≡ circles_given rows xs ++ circles_given rows ys
  given_append [] ys = refl
  given_append (x ∷ xs) ys = go (closed (steps_at rows x)) (given_append xs ys)
    where
      go : (b : Bool) → circles_given rows (xs ++ ys) ≡ circles_given rows xs ++ circles_given rows ys
          → cond b (circle_row (steps_at rows x) ∷ circles_given rows (xs ++ ys)) (circles_given rows (xs ++ ys))
          ≡ cond b (circle_row (steps_at rows x) ∷ circles_given rows xs) (circles_given rows xs) ++ circles_given rows ys
      go true e = ap (λ l. circle_row (steps_at rows x) ∷ l) e
      go false e = e

  given_few : (xs : List (List ℕ)) → length (circles_given rows xs) ≤ length xs
  given_few [] = omega arith
  given_few (x ∷ xs) = go (closed (steps_at rows x)) (given_few xs)
    where
      go : (b : Bool) → length (circles_given rows xs) ≤ length xs
          → length (cond b (circle_row (steps_at rows x) ∷ circles_given rows xs) (circles_given rows xs)) ≤ suc (length xs)
      go true k = omega arith
      go false k = omega arith

-- ---- after the first chains, and after all

module _ (rows : List Edge) (precedes : ℕ → ℕ → Bool) (places : ℕ) where
  abbrev all : List (List ℕ)
  all = chains rows precedes

  abbrev given_to : ℕ → List CircleRow
  given_to k = circles_given rows (take k all)

  -- What the list holds after k chains, and whether a circle found no place there.
  abbrev pub held_to : ℕ → Held CircleRow
  held_to k = filled rank_row (opened blank_row places) (given_to k)

  abbrev pub full_to : ℕ → Bool
  full_to k = refused_any rank_row (opened blank_row places) (given_to k)

  given_next : (k : ℕ) → k < length all
      → given_to (k + 1) ≡ given_to k ++ (let c = steps_at rows (get_or all k []) in cond (closed c) (circle_row c ∷ []) [])
  given_next k h = ap (circles_given rows) (take_more all k [] h) ∙ given_append rows (take k all) (get_or all k [] ∷ [])

  module _ (k : ℕ) (h : k < length all) where
    abbrev steps : List Step
    steps = steps_at rows (get_or all k [])

    pub held_next : held_to (k + 1) ≡ cond (closed steps) (added rank_row (held_to k) (circle_row steps)) (held_to k)
    held_next = ap (filled rank_row (opened blank_row places)) (given_next k h) ∙ go (closed steps)
      where
        go : (b : Bool) → filled rank_row (opened blank_row places) (given_to k ++ cond b (circle_row steps ∷ []) [])
            ≡ cond b (added rank_row (held_to k) (circle_row steps)) (held_to k)
        go true = filled_more rank_row (opened blank_row places) (given_to k) (circle_row steps)
        go false = ap (filled rank_row (opened blank_row places)) (append-nil (given_to k))

    pub full_next : full_to (k + 1) ≡ (full_to k || (closed steps && refused rank_row (held_to k) (circle_row steps)))
    full_next = ap (refused_any rank_row (opened blank_row places)) (given_next k h) ∙ go (closed steps)
      where
        or_none : (b : Bool) → b ≡ (b || false)
        or_none true = refl
        or_none false = refl

        go : (b : Bool) → refused_any rank_row (opened blank_row places) (given_to k ++ cond b (circle_row steps ∷ []) [])
            ≡ (full_to k || (b && refused rank_row (held_to k) (circle_row steps)))
        go true = refused_more rank_row (opened blank_row places) (given_to k) (circle_row steps)
        go false = ap (refused_any rank_row (opened blank_row places)) (append-nil (given_to k)) ∙ or_none (full_to k)

  -- ---- the end

  abbrev found : List CircleRow
  found = circles rows precedes

  given_all : given_to (length all) ≡ circles_given rows all
  given_all = ap (circles_given rows) (take_all (length all) all (omega arith))

  found_few : length found ≤ length all
  found_few =
      let given = circles_given rows all in
      omega (arith, (fills rank_row row_order blank_row (length given) given).size, given_few rows all)

  module _ (budget : ℕ) where
    pub over : budget < length all → reply rows precedes budget places ≡ Err Budget
    over h = cond-true (ltb budget (length all)) (Err Budget) _ (lt-ltb budget (length all) h)

    module _ (within : length all ≤ budget) where
      under : reply rows precedes budget places
          ≡ cond (ltb places (length found)) (Err Places) (Ok (record { circles = length found; chains = length all }))
      under = cond-false (ltb budget (length all)) (Err Budget) _ (le-ltb budget (length all) within)

      pub too_many : full_to (length all) ≡ true → reply rows precedes budget places ≡ Err Places
      too_many e =
          under ∙ cond-true (ltb places (length found)) (Err Places) _ (lt-ltb places (length found)
          (⊎_elim (λ h. h) (λ h. absurd (some_refused rank_row (opened blank_row places) (circles_given rows all)
          (ap (refused_any rank_row (opened blank_row places)) (sym given_all) ∙ e) (((reports rows precedes).refuses places).1 h)))
          (cases_lt places (length found))))

      module _ (e : full_to (length all) ≡ false) where
        fit : length found ≤ places
        fit =
            ((reports rows precedes).refuses places).0 (none_refused rank_row (opened blank_row places) (circles_given rows all)
            (ap (refused_any rank_row (opened blank_row places)) (sym given_all) ∙ e))

        final : held_to (length all) ≡ record { records = found; free = replicate (places - length found) blank_row }
        final = ap (filled rank_row (opened blank_row places)) given_all ∙ (reports rows precedes).holds places fit

        good : reply rows precedes budget places ≡ Ok (record { circles = length found; chains = length all })
        good = under ∙ cond-false (ltb places (length found)) (Err Places) _ (le-ltb places (length found) fit)

        pub count_is : length (held_to (length all)).records ≡ length found
        count_is = ap (λ h. length h.records) final

        pub count_few : length (held_to (length all)).records ≤ length all
        count_few = omega (arith, count_is, found_few)

        pub counted : reply rows precedes budget places
            ≡ Ok (record { circles = length (held_to (length all)).records; chains = length all })
        counted = good ∙ ap (λ n. Ok (record { circles = n; chains = length all })) (sym count_is)

        pub lists : held_to (length all) ≡ reported rows precedes budget places
        lists = final ∙ ap (λ r. listed r found places) (sym good)
