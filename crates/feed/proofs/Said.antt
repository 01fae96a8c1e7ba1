-- A file is fed to its end exactly when it says its events.
-- Assumes nothing.
use Rattle.std.proofs.Common.{◌≡◌, ℕ, ◌+◌, ◌<◌, eqb, ◌↔◌, List, [], ◌∷◌, ◌++◌, map, length, Ok, Err, Result, sym, refl, ap, ◌∙◌, subst, inl, inr, ⊎_elim, arith}
use Rattle.std.proofs.lemmas.Bool.{cond-true, cond-false, cases_Bool, eqb-true}
use Rattle.rows.specs.declared.event.Event.{Event}
use Rattle.text.specs.declared.fault.LineFault.{LineFault}
use Rattle.text.specs.Lines.{text_of, reading}
use Rattle.text.specs.Pieces.{and_then}
use Rattle.text.proofs.Readings.{reading_says}
use Rattle.text.proofs.Results.{ok_or_err, ok_same}
use Rattle.feed.specs.declared.fault.Fault.{Fault}
use Rattle.feed.specs.Files.{fault, events_from, file_of, AllSayable}
use Rattle.feed.specs.Lines.{onto, lines}
use Rattle.feed.proofs.Splitting.{lines_split}
use Rattle.feed.proofs.Texts.{Ended, lines_of_ended}

-- the lines, each with its newline
abbrev pub unlines : List (List ℕ) → List ℕ
unlines [] = []
unlines (l ∷ ls) = l ++ (10 ∷ unlines ls)

ended_on : (b : ℕ) {file whole : List ℕ} → Ended file whole → Ended (b ∷ file) (b ∷ whole)
ended_on b (inl e) = inl (ap (λ t. b ∷ t) e)
ended_on b (inr e) = inr (ap (λ t. b ∷ t) e)

unlines_onto : (b : ℕ) (ls : List (List ℕ)) → 0 < length ls → unlines (onto b ls) ≡ b ∷ unlines ls
unlines_onto b [] h = absurd (omega arith)
unlines_onto b (l ∷ ls) h = refl

pub lines_joined : (file : List ℕ) → Ended file (unlines (lines file))
lines_joined [] = inl refl
lines_joined (b ∷ []) =
    ⊎_elim
    (λ e. inl (ap (λ x. x ∷ []) (eqb-true b 10 e) ∙ sym (ap unlines (cond-true _ _ _ e))))
    (λ e. inr (sym (ap unlines (cond-false _ _ _ e))))
    (cases_Bool (eqb b 10))
lines_joined (b ∷ c ∷ cs) = go (lines_joined (c ∷ cs))
  where
    go : Ended (c ∷ cs) (unlines (lines (c ∷ cs))) → Ended (b ∷ c ∷ cs) (unlines (lines (b ∷ c ∷ cs)))
    go ih =
        let more : 0 < length (lines (c ∷ cs)) = omega (arith, ap length (lines_split (c ∷ cs) (omega arith))) in
        ⊎_elim
        (λ e. rw (cond-true (eqb b 10) ([] ∷ lines (c ∷ cs)) (onto b (lines (c ∷ cs))) e, eqb-true b 10 e) (ended_on 10 ih))
        (λ e. rw (cond-false (eqb b 10) ([] ∷ lines (c ∷ cs)) (onto b (lines (c ∷ cs))) e, unlines_onto b (lines (c ∷ cs)) more) (ended_on b ih))
        (cases_Bool (eqb b 10))

-- what the first line is read as, and then the others
abbrev pub go_on : Result (List Event) Fault → Event → Result (List Event) Fault
go_on r e = and_then r (λ es. Ok (e ∷ es))

pub events_more : (n : ℕ) (l : List ℕ) (ls : List (List ℕ)) (e : Event) → reading l ≡ Ok e →
    events_from n (l ∷ ls) ≡ go_on (events_from (n + 1) ls) e
events_more n l ls e h = rw h

pub events_fault : (n : ℕ) (l : List ℕ) (ls : List (List ℕ)) (f : LineFault) → reading l ≡ Err f → events_from n (l ∷ ls) ≡ Err (fault n f)
events_fault n l ls f h = rw h

-- the lines of events are their texts
lines_said : (ls : List (List ℕ)) (n : ℕ) (es : List Event) → events_from n ls ≡ Ok es → AllSayable es × (ls ≡ map text_of es)
lines_said [] n es h = subst (λ es. AllSayable es × ([] ≡ map text_of es)) (ok_same h) (tt, refl)
lines_said (l ∷ ls) n es h = go (reading l) refl (lines_said ls (n + 1))
  where
    After : Type 0
    After = (es : List Event) → events_from (n + 1) ls ≡ Ok es → AllSayable es × (ls ≡ map text_of es)

    more : (e : Event) → reading l ≡ Ok e → After → (r : Result (List Event) Fault) → events_from (n + 1) ls ≡ r → AllSayable es ×
        (l ∷ ls ≡ map text_of es)
    more e f ih (Ok later) g =
        let told = (reading_says l e).0 f in
        let whole : e ∷ later ≡ es = ok_same (sym (events_more n l ls e f ∙ ap (λ r. go_on r e) g) ∙ h) in
        subst (λ es. AllSayable es × (l ∷ ls ≡ map text_of es)) whole ((told.0, (ih later g).0), (λ k. told.1 k ∷ (ih later g).1 k))
    more e f ih (Err x) g = absurd (ok_or_err h (events_more n l ls e f ∙ ap (λ r. go_on r e) g))

    go : (r : Result Event LineFault) → reading l ≡ r → After → AllSayable es × (l ∷ ls ≡ map text_of es)
    go (Ok e) f ih = more e f ih _ refl
    go (Err x) f ih = absurd (ok_or_err h (events_fault n l ls x f))

said_lines : (es : List Event) (n : ℕ) → AllSayable es → events_from n (map text_of es) ≡ Ok es
said_lines [] n s = refl
said_lines (e ∷ es) n s =
    events_more n (text_of e) (map text_of es) e ((reading_says (text_of e) e).1 (s.0, refl))
    ∙ ap (λ r. go_on r e) (said_lines es (n + 1) s.1)

-- the texts, each with its newline, are the file of the events
pub unlines_texts : (es : List Event) → unlines (map text_of es) ≡ file_of es
unlines_texts [] = refl
unlines_texts (e ∷ es) = ap (λ t. text_of e ++ (10 ∷ t)) (unlines_texts es)

-- the events are read exactly where the file says them
pub events_said : (file : List ℕ) (es : List Event) → (events_from 1 (lines file) ≡ Ok es) ↔ (AllSayable es × Ended file (file_of es))
events_said file es = (
  (λ h. let told = lines_said (lines file) 1 es h in (told.0, subst (Ended file) (ap unlines told.1 ∙ unlines_texts es) (lines_joined file))),
  λ h. ap (events_from 1) (lines_of_ended file es h.0 h.1) ∙ said_lines es 1 h.0,
)
