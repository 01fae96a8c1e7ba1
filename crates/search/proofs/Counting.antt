-- How far a report has come.
-- Assumes nothing.
use Rattle.std.proofs.Common.{◌≡◌, ℕ, ◌+◌, ◌-◌, ◌^◌, ◌<◌, ◌≤◌, Bool, true, false, cond, ◌||◌, eqb, ltb, List, [], map, length, get_or, take, drop, is_err, Ok, Err, Result, sym, refl, ap, ◌∙◌, subst, inl, inr, arith}
use Rattle.std.proofs.lemmas.List.{get_or-drop, length-drop, length-append, take-append-drop}
use Rattle.std.proofs.lemmas.Bool.{ltb-true, ltb-false, cases_Bool, cond-true, cond-false, false≢true}
use Rattle.std.specs.Result.{result_and}
use Rattle.sorted_list.specs.Lists.{Held, held, opened}
use Rattle.sorted_list.specs.declared.cause.ListCause.{ListCause}
use Rattle.sorted_list.specs.declared.cause.ListCause.TheVariants.{Full}
use Rattle.sorted_list.specs.declared.list.SortedList.{SortedList}
use Rattle.sorted_list.proofs.Filling.{fills}
use Rattle.rows.specs.Circles.{blank_row}
use Rattle.rows.specs.Orders.{rank_row}
use Rattle.rows.specs.declared.edge.Edge.{Edge}
use Rattle.rows.specs.declared.row.CircleRow.{CircleRow}
use Rattle.rows.specs.OrderLaws.{row_order}
use Rattle.recording.specs.declared.answer.Answer.{Answer}
use Rattle.recording.specs.declared.cause.SearchCause.{SearchCause}
use Rattle.recording.specs.declared.cause.SearchCause.TheVariants.{Budget, Places}
use Rattle.recording.specs.Chains.{step}
use Rattle.recording.specs.Enumeration.{row_at, chains, left}
use Rattle.recording.specs.Answers.{steps_at, circles_given}
use Rattle.recording.specs.Replies.{reply, reported}
use Rattle.recording.specs.Walks.{ChainOrNone}
use Rattle.recording.proofs.Walking.{left_none, left_at}
use Rattle.recording.proofs.Judging.{held_to, full_to, held_next, full_next, too_many, count_few, counted, lists}
use Rattle.search.specs.declared.stack.Stack.{Stack}
use Rattle.search.specs.declared.tally.Tally.{Tally}
use Rattle.search.specs.Stacks.{stacked, places, steps, Walks}
use Rattle.search.specs.Tallies.{no_place, entered, with_circle, taken, over_budget, tallied}

-- The first refusal stays.
refused_once : (r : Result (Unit {0}) ListCause) (b : Bool) → is_err (result_and {U = Unit {0}} r (cond b (Err Full) (Ok tt))) ≡ (is_err r || b)
refused_once (Ok u) true = refl
refused_once (Ok u) false = refl
refused_once (Err e) b = refl

-- The memory of a list is as long as what it holds.
memory_size : {X : Type 0} {r : _} (l : SortedList X r) (h : Held X) (n : ℕ) → held l ≡ h → length h.records + length h.free ≡ n
    → length l.places.now ≡ n
memory_size l h n is size =
    let m = l.places.now in
    ap length (sym (take-append-drop l.count m)) ∙ length-append (take l.count m) (drop l.count m)
    ∙ ap (λ k. length k.records + length k.free) is ∙ size

module _ (rows : List Edge) (precedes : ℕ → ℕ → Bool) where
  abbrev all : List (List ℕ)
  all = chains rows precedes

  -- An empty stack stands before all the chains.
  module _ (s : Stack) (nothing : stacked s ≡ []) where
    pub walks_empty : Walks rows precedes s
    walks_empty = record {
      rows_at = ap (map (λ l. l.edge)) nothing ∙ sym (ap (λ ls. map (row_at rows) (map (λ l. l.place) ls)) nothing);
      chain = subst (ChainOrNone rows precedes) (sym (ap (map (λ l. l.place)) nothing)) tt;
    }

    left_empty : left rows precedes (places s) ≡ drop 0 all
    left_empty = ap (left rows precedes) (ap (map (λ l. l.place)) nothing) ∙ left_none rows precedes

  -- The stack stands at the last of the chains that were counted, and the list holds the circles of these.
  pub record Progress (budget n : ℕ) (s : Stack) (t : Tally) {r : _} (list : SortedList CircleRow r) : Type 0 where
    pub walks : Walks rows precedes s
    pub left_is : left rows precedes (places s) ≡ drop t.chains all
    pub within : t.chains ≤ length all
    pub spent : t.chains ≤ budget
    pub full_is : is_err t.listed ≡ full_to rows precedes n t.chains
    pub held_is : held list ≡ held_to rows precedes n t.chains

  module _ (budget n : ℕ) where
    pub progress_starts : (s : Stack) (t : Tally) {r : _} (list : SortedList CircleRow r) → stacked s ≡ []
        → t ≡ record { chains = 0; listed = Ok tt } → held list ≡ opened blank_row n → Progress budget n s t list
    progress_starts s t list none is nothing =
        subst (λ u. Progress budget n s u list) (sym is) (record {
          walks = walks_empty s none;
          left_is = left_empty s none;
          within = omega arith;
          spent = omega arith;
          full_is = refl;
          held_is = nothing;
        })

    module _ (s : Stack) (t : Tally) {r : _} (list : SortedList CircleRow r) (p : Progress budget n s t list) where
      abbrev k : ℕ
      k = t.chains

      rest_size : length (left rows precedes (places s)) ≡ length all - k
      rest_size = ap length p.left_is ∙ length-drop k all

      pub memory_long : (list' : SortedList CircleRow r) → held list' ≡ held list → length list'.places.now ≡ n
      memory_long list' same =
          memory_size list' (held_to rows precedes n k) n (same ∙ p.held_is)
          (fills rank_row row_order blank_row n (circles_given rows (take k all))).size

      -- ---- one chain more

      module _ (s' : Stack) (some : true ≡ ltb 0 (length (left rows precedes (places s))))
          (next : places s' ≡ get_or (left rows precedes (places s)) 0 []) (walks : Walks rows precedes s') where
        pub more : k < length all
        more = omega (arith, ltb-true 0 (length (left rows precedes (places s))) (sym some), rest_size)

        here : places s' ≡ get_or all k []
        here =
            let e : k + 0 ≡ k = omega arith in
            next ∙ ap (λ l. get_or l 0 []) p.left_is ∙ get_or-drop k all 0 [] ∙ ap (λ i. get_or all i []) e

        steps_are : steps s' ≡ steps_at rows (get_or all k [])
        steps_are = ap (map step) walks.rows_at ∙ ap (steps_at rows) here

        pub progresses : (t' : Tally) (list' : SortedList CircleRow r) → k < budget
            → t' ≡ taken t (entered (held list) (steps s')) → held list' ≡ with_circle (held list) (steps s')
            → Progress budget n s' t' list'
        progresses t' list' room counts holds =
            subst (λ u. Progress budget n s' u list') (sym counts) (record {
              walks = walks;
              left_is = ap (left rows precedes) here ∙ left_at rows precedes k more;
              within = omega (arith, more);
              spent = omega arith;
              full_is = refused_once t.listed (no_place (held list) (steps s')) ∙ (λ i. p.full_is i || no_place (p.held_is i) (steps_are i)) ∙ sym (full_next rows precedes n k more);
              held_is = holds ∙ (λ i. with_circle (p.held_is i) (steps_are i)) ∙ sym (held_next rows precedes n k more);
            })

      -- ---- no chain more

      module _ (none : false ≡ ltb 0 (length (left rows precedes (places s)))) where
        done : k ≡ length all
        done = omega (arith, ltb-false 0 (length (left rows precedes (places s))) (sym none), rest_size, p.within)

        inside : length all ≤ budget
        inside = omega (arith, done, p.spent)

        ends_full : is_err t.listed ≡ true → reply rows precedes budget n ≡ Err Places
        ends_full e = too_many rows precedes n budget inside (ap (full_to rows precedes n) (sym done) ∙ sym p.full_is ∙ e)

        module _ (e : is_err t.listed ≡ false) where
          not_full : full_to rows precedes n (length all) ≡ false
          not_full = ap (full_to rows precedes n) (sym done) ∙ sym p.full_is ∙ e

          final : held list ≡ held_to rows precedes n (length all)
          final = p.held_is ∙ ap (held_to rows precedes n) done

          ends_few : length (held list).records ≤ budget
          ends_few =
              omega (arith, ap (λ h. length h.records) final, count_few rows precedes n budget inside not_full, inside)

          ends_well : reply rows precedes budget n ≡ Ok (record { circles = length (held list).records; chains = k })
          ends_well =
              counted rows precedes n budget inside not_full
              ∙ sym (λ i. Ok (record { circles = length (final i).records; chains = done i }))

          ends_listed : held list ≡ reported rows precedes budget n
          ends_listed = final ∙ lists rows precedes n budget inside not_full

        pub ends_small : budget < 2 ^ 32 → is_err t.listed ≡ false → length (held list).records < 2 ^ 32
        ends_small h e = omega (arith, ends_few e)

        pub ends_answer : tallied t (length (held list).records) ≡ reply rows precedes budget n
        ends_answer =
            elim (cases_Bool (is_err t.listed)) [
              | inl e ↦ cond-true (is_err t.listed) _ _ e ∙ sym (ends_full e)
              | inr e ↦ cond-false (is_err t.listed) _ _ e ∙ sym (ends_well e)
            ]

        pub ends_held : (r : Result Answer SearchCause) → r ≡ tallied t (length (held list).records) → is_err r ≡ false
            → held list ≡ reported rows precedes budget n
        ends_held r is good =
            elim (cases_Bool (is_err t.listed)) [
              | inl e ↦ absurd (false≢true (sym good ∙ ap is_err (is ∙ cond-true (is_err t.listed) _ _ e)))
              | inr e ↦ ends_listed e
            ]

-- ---- the budget

pub not_over : (t : Tally) (budget : ℕ) → over_budget t budget ≡ Ok tt → eqb t.chains budget ≡ false
not_over t budget e = go (eqb t.chains budget) e
  where
    go : (b : Bool) → ◌≡◌ {A = Result (Unit {0}) SearchCause} (cond b (Err Budget) (Ok tt)) (Ok tt) → b ≡ false
    go true d = let z : ◌≡◌ {A = ℕ} 0 1 = cc in absurd (omega arith)
    go false d = refl

pub is_over : (t : Tally) (budget : ℕ) (y : SearchCause) → over_budget t budget ≡ Err y → (eqb t.chains budget ≡ true) × (y ≡ Budget)
is_over t budget y e = go (eqb t.chains budget) e
  where
    go : (b : Bool) → ◌≡◌ {A = Result (Unit {0}) SearchCause} (cond b (Err Budget) (Ok tt)) (Err y) → (b ≡ true) × (y ≡ Budget)
    go true d = (refl, cc)
    go false d = let z : ◌≡◌ {A = ℕ} 0 1 = cc in absurd (omega arith)
