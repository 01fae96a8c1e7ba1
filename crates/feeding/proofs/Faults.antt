-- Where the feeding of a file stops.
-- Assumes nothing.
use Rattle.std.proofs.Common.{◌≡◌, ℕ, zero, suc, ◌+◌, ◌<◌, ◌≤◌, List, [], ◌∷◌, ◌++◌, length, Ok, Err, Result, sym, refl, ap, ◌∙◌, append_assoc, arith}
use Rattle.rows.specs.declared.event.Event.{Event}
use Rattle.text.specs.Lines.{text_of}
use Rattle.text.proofs.Readings.{reading_says}
use Rattle.text.proofs.Results.{ok_or_err, err_same}
use Rattle.rules.specs.States.{State, after, after_all}
use Rattle.feed.specs.declared.fault.Fault.{Fault}
use Rattle.feeding.specs.declared.fault.Stop.{Stop}
use Rattle.feed.specs.Files.{file_of, AllSayable}
use Rattle.feeding.specs.Files.{fed, taken, AllAccepted, Bad}
use Rattle.feed.specs.Lines.{first_of, later_of, lines}
use Rattle.feeding.specs.Stops.{at_line, line_answer}
use Rattle.feeding.proofs.Feeding.{fed_more, fed_stop, taken_more, taken_stop}
use Rattle.feeding.proofs.Said.{line_taken, line_bad}
use Rattle.feed.proofs.Faults.{line_split}
use Rattle.feed.proofs.Splitting.{lines_split, later_less}

module _ (limit : ℕ) where
  some_line : (s : State) (n : ℕ) (bs : List ℕ) (f : Fault) → fed limit s n (lines bs) ≡ Err f → 0 < length bs
  some_line s n [] f e = absurd (ok_or_err refl e)
  some_line s n (b ∷ bs) f e = omega arith

  -- after n lines the next ones stop at the fault f
  pub record Stops (s : State) (n : ℕ) (file : List ℕ) (f : Fault) : Type 0 where
    pub before : List Event
    pub rest : List ℕ
    pub sayable : AllSayable before
    pub accepted : AllAccepted limit s before
    pub split : file ≡ file_of before ++ rest
    pub next : 0 < length rest
    pub stop : Stop
    pub bad : Bad limit (after_all limit s before) (first_of rest) stop
    pub is : f ≡ at_line (length before + n + 1) stop
    pub stays : taken limit s (lines file) ≡ before

  -- k bounds the length of the file
  pub stops : (k : ℕ) (s : State) (n : ℕ) (file : List ℕ) (f : Fault) → length file ≤ k → fed limit s n (lines file) ≡ Err f
      → Stops s n file f
  stops k s n [] f h e = absurd (ok_or_err refl e)
  stops zero s n (b ∷ bs) f h e = absurd (omega arith)
  stops (suc k) s n (b ∷ bs) f h e = go (line_answer limit s l) refl (λ t. stops k t (n + 1))
    where
      l : List ℕ
      l = first_of (b ∷ bs)

      ls : List (List ℕ)
      ls = lines (later_of (b ∷ bs))

      lines_are : lines (b ∷ bs) ≡ l ∷ ls
      lines_are = lines_split (b ∷ bs) (omega arith)

      whole : fed limit s n (l ∷ ls) ≡ Err f
      whole = ap (fed limit s n) (sym lines_are) ∙ e

      Later : Type 0
      Later = (t : State) (file : List ℕ) (f : Fault) → length file ≤ k → fed limit t (n + 1) (lines file) ≡ Err f
          → Stops t (n + 1) file f

      go : (r : Result Event Stop) → line_answer limit s l ≡ r → Later → Stops s n (b ∷ bs) f
      go (Err stop) g ih = record {
        before = [];
        rest = b ∷ bs;
        sayable = tt;
        accepted = tt;
        split = refl;
        next = omega arith;
        stop = stop;
        bad = line_bad limit s l stop g;
        is = err_same (sym whole ∙ fed_stop limit s l ls stop g n) ∙ ap (λ m. at_line m stop) (omega arith);
        stays = ap (taken limit s) lines_are ∙ taken_stop limit s l ls stop g;
      }
      go (Ok a) g ih =
          let t = after limit s a in
          let fault_later = sym (fed_more limit s l ls a g n) ∙ whole in
          let later = ih t (later_of (b ∷ bs)) f (omega (arith, later_less (b ∷ bs) (omega arith))) fault_later in
          let was = line_taken limit s l a g in
          let told = (reading_says l a).0 was.0 in
          record {
            before = a ∷ later.before;
            rest = later.rest;
            sayable = (told.0, later.sayable);
            accepted = (was.1, later.accepted);
            split = line_split (b ∷ bs) (some_line t (n + 1) (later_of (b ∷ bs)) f fault_later) ∙ (λ j. told.1 j ++ (10 ∷ later.split j))
                ∙ sym (append_assoc (text_of a) (10 ∷ file_of later.before) later.rest);
            next = later.next;
            stop = later.stop;
            bad = later.bad;
            is = later.is ∙ ap (λ m. at_line m later.stop) (omega arith);
            stays = ap (taken limit s) lines_are ∙ taken_more limit s l ls a g ∙ ap (λ es. a ∷ es) later.stays;
          }
