-- The walk over the chains: what comes after a chain is what goes on from it, and then what has a larger place at its last level,
-- and so on for the levels before.
-- Assumes nothing.
use Rattle.std.proofs.Common.{◌≡◌, ℕ, ◌+◌, ◌<◌, ◌≤◌, Bool, true, false, not, List, [], ◌∷◌, ◌++◌, map, length, get_or, drop, Less, sym, refl, ap, ◌∙◌, subst, inl, inr, ⊎_elim, arith}
use Rattle.std.specs.Ordering.{is_lt}
use Rattle.std.specs.List.{AllByRecursion}
use Rattle.std.proofs.lemmas.List.{drop_more}
use Rattle.std.proofs.lemmas.Bool.{false≢true, cases_Bool, cases_lt}
use Rattle.std.proofs.lemmas.Bool.Decides.{same_from_decides, Decides-like}
use Rattle.sorted_list.proofs.Orders.{equal_self, flipped}
use Rattle.sorted_list.proofs.Members.{ascending_at}
use Rattle.rows.specs.declared.edge.Edge.{Edge}
use Rattle.recording.specs.Chains.{step, Apart, wanted_at_last}
use Rattle.recording.specs.Enumeration.{Unordered, row_at, EdgeAt, IsChainAt, chains, rank_places, left}
use Rattle.recording.specs.Walks.{may_follow, ChainOrNone, left_from}
use Rattle.recording.proofs.Members.{place_of}
use Rattle.recording.proofs.Enumerating.{places_order, Fits, fits_decides, GoesOn, begun_chain, chain_begins, enumerates}
use Rattle.recording.proofs.Reaching.{Reached, Past, On, reached_decides, after_decides, reached_cases, past_reached, past_last, last_past, on_reached, kept_same, kept_all, kept_none, kept_from}

module _ (rows : List Edge) (precedes : ℕ → ℕ → Bool) where
  abbrev edges : List ℕ → List Edge
  edges = map (row_at rows)

  abbrev ApartFrom : Edge → Edge → Type 0
  ApartFrom f e = Apart (Unordered precedes) e f

  -- ---- one edge more

  abbrev last_wanted : ℕ → List ℕ → ℕ
  last_wanted wanted ps = wanted_at_last wanted (map step (edges ps))

  -- What goes on beyond ps has an edge there that fits.
  next_fits : (least wanted : ℕ) (path : List Edge) (ps : List ℕ) (x : ℕ) (rest : List ℕ)
      → GoesOn rows precedes least wanted path (ps ++ x ∷ rest)
      → (x < length rows) × Fits rows precedes least (last_wanted wanted ps) path (row_at rows x) × AllByRecursion (ApartFrom (row_at rows x)) (edges ps)
  next_fits least wanted path [] x rest (within, fit, g) = (within, fit, tt)
  next_fits least wanted path (q ∷ qs) x rest (within, fit, g) =
      let (inside, (is, (link, (far, less))), others) =
      next_fits least (row_at rows q).wanted (row_at rows q ∷ path) qs x rest g in
      (inside, (is, (link, (far.1, less))), (far.0, others))

  fit_next : (least wanted : ℕ) (path : List Edge) (ps : List ℕ) (x : ℕ) → GoesOn rows precedes least wanted path ps
      → x < length rows → Fits rows precedes least (last_wanted wanted ps) path (row_at rows x)
      → AllByRecursion (ApartFrom (row_at rows x)) (edges ps) → GoesOn rows precedes least wanted path (ps ++ x ∷ [])
  fit_next least wanted path [] x g within fit others = (within, fit, tt)
  fit_next least wanted path (q ∷ qs) x (inside, first, g) within (is, (link, (far, less))) others = (
    inside,
    first,
    fit_next least (row_at rows q).wanted (row_at rows q ∷ path) qs x g within (is, (link, ((others.0, far), less))) others.1,
  )

  pub chain_follows : (ps : List ℕ) (x : ℕ) (rest : List ℕ) → IsChainAt rows precedes (ps ++ x ∷ rest)
      → (x < length rows) × (may_follow precedes (edges ps) (row_at rows x) ≡ true)
  chain_follows [] x rest (valid, c) = (valid.0.0, valid.0.1)
  chain_follows (p ∷ ps) x rest c =
      let e = row_at rows p in
      let (here, g) = chain_begins rows precedes p (ps ++ x ∷ rest) c in
      let (within, (is, (link, (far, less))), others) = next_fits e.thread e.wanted (e ∷ []) ps x rest g in (
        within,
        (fits_decides rows precedes e.thread (last_wanted e.wanted ps) (e ∷ edges ps) (row_at rows x)).1
            (is, (link, ((far.0, others), less))),
      )

  pub follows_chain : (ps : List ℕ) (x : ℕ) → ChainOrNone rows precedes ps → x < length rows
      → may_follow precedes (edges ps) (row_at rows x) ≡ true → IsChainAt rows precedes (ps ++ x ∷ [])
  follows_chain [] x c within follows = begun_chain rows precedes x [] ((within, follows), tt)
  follows_chain (p ∷ ps) x c within follows =
      let e = row_at rows p in
      let (here, g) = chain_begins rows precedes p ps c in
      let (is, (link, (far, less))) =
      (fits_decides rows precedes e.thread (last_wanted e.wanted ps) (e ∷ edges ps) (row_at rows x)).0 follows in
      begun_chain rows precedes p (ps ++ x ∷ [])
      (here, fit_next e.thread e.wanted (e ∷ []) ps x g within (is, (link, ((far.0, tt), less))) far.1)

  -- A chain without its last edges is one.
  pub chain_before : (ps : List ℕ) (x : ℕ) → IsChainAt rows precedes (ps ++ x ∷ []) → ChainOrNone rows precedes ps
  chain_before [] x c = tt
  chain_before (p ∷ ps) x c =
      let (here, g) = chain_begins rows precedes p (ps ++ x ∷ []) c in
      begun_chain rows precedes p ps (here, front (row_at rows p).thread (row_at rows p).wanted (row_at rows p ∷ []) ps g)
    where
      front : (least wanted : ℕ) (path : List Edge) (qs : List ℕ) → GoesOn rows precedes least wanted path (qs ++ x ∷ [])
          → GoesOn rows precedes least wanted path qs
      front least wanted path [] g = tt
      front least wanted path (q ∷ qs) (inside, first, g) =
          (inside, first, front least (row_at rows q).wanted (row_at rows q ∷ path) qs g)

  -- At its last place stands an edge.
  pub last_edge : (ps : List ℕ) (x : ℕ) → IsChainAt rows precedes (ps ++ x ∷ []) → EdgeAt rows x
  last_edge [] x c = c.0.0
  last_edge (p ∷ ps) x c = behind ps c.0.1
    where
      behind : (qs : List ℕ) → AllByRecursion (EdgeAt rows) (qs ++ x ∷ []) → EdgeAt rows x
      behind [] a = a.0
      behind (q ∷ qs) a = behind qs a.1

  -- ---- what is left

  abbrev all : List (List ℕ)
  all = chains rows precedes

  pub left_is : (ps : List ℕ) → left rows precedes ps ≡ left_from rows precedes (ps ++ 0 ∷ [])
  left_is ps =
      kept_same _ _ all (λ qs m. same_from_decides _ _ (after_decides ps qs) (reached_decides (ps ++ 0 ∷ []) qs))

  pub left_none : left rows precedes [] ≡ all
  left_none = kept_all _ all (λ qs m. some qs ((enumerates rows precedes).only qs m))
    where
      some : (qs : List ℕ) → IsChainAt rows precedes qs → is_lt (rank_places [] qs) ≡ true
      some [] c = absurd c
      some (q ∷ qs) c = refl

  -- ---- at a place of the enumeration

  earlier : (i n : ℕ) → i < n → n < length all → rank_places (get_or all i []) (get_or all n []) ≡ Less
  earlier i n l h = ascending_at places_order all i n [] (enumerates rows precedes).ascends l h

  not_later : (i n : ℕ) → i ≤ n → n < length all → is_lt (rank_places (get_or all n []) (get_or all i [])) ≡ false
  not_later i n l h =
      elim (cases_lt i n) [
        | inl k ↦ ap is_lt (flipped places_order {x = get_or all i []} {y = get_or all n []} (earlier i n k h))
        | inr k ↦
            let e : i ≡ n = omega arith in
            ap (λ j. is_lt (rank_places (get_or all n []) (get_or all j []))) e ∙ ap is_lt (equal_self places_order (get_or all n []))
      ]

  pub left_at : (n : ℕ) → n < length all → left rows precedes (get_or all n []) ≡ drop (n + 1) all
  left_at n h =
      kept_from _ all (n + 1) [] (λ i l k. not_later i n (omega arith) h) (λ i l k. ap is_lt (earlier n i (omega arith) k))

  from_at : (n : ℕ) → n < length all → left_from rows precedes (get_or all n []) ≡ drop n all
  from_at n h =
      kept_from _ all n [] (λ i l k. ap (λ o. not (is_lt o)) (earlier i n l h)) (λ i l k. ap not (not_later n i l k))

  from_chain : (ps : List ℕ) → IsChainAt rows precedes ps → left_from rows precedes ps ≡ ps ∷ left rows precedes ps
  from_chain ps c =
      let (n, h, e) = place_of [] ((enumerates rows precedes).all ps c) in
      subst (λ qs. left_from rows precedes qs ≡ qs ∷ left rows precedes qs) e
      (from_at n h ∙ drop_more all n [] h ∙ ap (λ l. get_or all n [] ∷ l) (sym (left_at n h)))

  -- ---- the steps of the walk

  -- No row from a place on may follow.
  abbrev pub NoneFrom : List ℕ → ℕ → Type 0
  NoneFrom ps from = (x : ℕ) → from ≤ x → x < length rows → may_follow precedes (edges ps) (row_at rows x) ≡ false

  same_kept : (ks ms : List ℕ)
      → ((qs : List ℕ) → IsChainAt rows precedes qs → Reached ks qs → Reached ms qs)
      → ((qs : List ℕ) → IsChainAt rows precedes qs → Reached ms qs → Reached ks qs)
      → left_from rows precedes ks ≡ left_from rows precedes ms
  same_kept ks ms to back =
      kept_same _ _ all (λ qs m.
      let c = (enumerates rows precedes).only qs m in
      same_from_decides {P = Reached ms qs} _ _
      (Decides-like _ (to qs c) (back qs c) (reached_decides ks qs)) (reached_decides ms qs))

  -- what goes on from ps at a place or a later one has a row there that may follow
  on_follows : (ps : List ℕ) (from : ℕ) (qs : List ℕ) → IsChainAt rows precedes qs → (w : On ps from qs)
      → (w.0 < length rows) × (may_follow precedes (edges ps) (row_at rows w.0) ≡ true)
  on_follows ps from qs c (x, rest, e, h) = chain_follows ps x rest (subst (IsChainAt rows precedes) e c)

  none_on : (ps : List ℕ) (from : ℕ) → NoneFrom ps from → (qs : List ℕ) → IsChainAt rows precedes qs
      → Reached (ps ++ from ∷ []) qs → Past ps qs
  none_on ps from none qs c h =
      ⊎_elim (λ w. let (within, follows) = on_follows ps from qs c w in
      absurd (false≢true (sym (none w.0 w.3 within) ∙ follows))) (λ w. w) (reached_cases ps from qs h)

  -- Where nothing may follow the walk goes back one level.
  pub walk_back : (ps : List ℕ) (last from : ℕ) → NoneFrom (ps ++ last ∷ []) from
      → left_from rows precedes ((ps ++ last ∷ []) ++ from ∷ []) ≡ left_from rows precedes (ps ++ (last + 1) ∷ [])
  walk_back ps last from none =
      same_kept ((ps ++ last ∷ []) ++ from ∷ []) (ps ++ (last + 1) ∷ [])
      (λ qs c h. past_last ps last qs (none_on (ps ++ last ∷ []) from none qs c h))
      (λ qs c h. past_reached (ps ++ last ∷ []) from qs (last_past ps last qs h))

  -- And at the first level it ends.
  pub walk_ends : (from : ℕ) → NoneFrom [] from → left_from rows precedes (from ∷ []) ≡ []
  walk_ends from none =
      kept_none _ all (λ qs m.
      let c = (enumerates rows precedes).only qs m in
      ⊎_elim (λ e. absurd (none_on [] from none qs c ((reached_decides (from ∷ []) qs).0 e))) (λ e. e) (cases_Bool _))

  -- The first row that may follow makes the next chain.
  pub walk_on : (ps : List ℕ) (from x : ℕ) → ChainOrNone rows precedes ps → from ≤ x → x < length rows
      → may_follow precedes (edges ps) (row_at rows x) ≡ true
      → ((y : ℕ) → from ≤ y → y < x → may_follow precedes (edges ps) (row_at rows y) ≡ false)
      → left_from rows precedes (ps ++ from ∷ []) ≡ (ps ++ x ∷ []) ∷ left rows precedes (ps ++ x ∷ [])
  walk_on ps from x c least within follows none =
      same_kept (ps ++ from ∷ []) (ps ++ x ∷ []) to back ∙ from_chain (ps ++ x ∷ []) (follows_chain ps x c within follows)
    where
      to : (qs : List ℕ) → IsChainAt rows precedes qs → Reached (ps ++ from ∷ []) qs → Reached (ps ++ x ∷ []) qs
      to qs d h =
          ⊎_elim (λ w. on w.0 w.1 w.2 w.3 (on_follows ps from qs d w)) (past_reached ps x qs) (reached_cases ps from qs h)
        where
          on : (y : ℕ) (rest : List ℕ) → qs ≡ ps ++ y ∷ rest → from ≤ y
              → (y < length rows) × (may_follow precedes (edges ps) (row_at rows y) ≡ true) → Reached (ps ++ x ∷ []) qs
          on y rest e l (inside, f) =
              ⊎_elim (λ k. absurd (false≢true (sym (none y l k) ∙ f)))
              (λ k. subst (Reached (ps ++ x ∷ [])) (sym e) (on_reached ps x y rest k)) (cases_lt y x)

      back : (qs : List ℕ) → IsChainAt rows precedes qs → Reached (ps ++ x ∷ []) qs → Reached (ps ++ from ∷ []) qs
      back qs d h =
          ⊎_elim (λ w. subst (Reached (ps ++ from ∷ [])) (sym w.2) (on_reached ps from w.0 w.1 (omega (arith, w.3))))
          (past_reached ps from qs) (reached_cases ps x qs h)
