use Rattle.std.proofs.lemmas.Slice.Eq.{slice_eq-Decides}
use Rattle.search.proofs.Sameness.{rows_equal, rows_same}
use Rattle.search.proofs.calls.agree.Goals as goal

pub returns-then-both_answered : goal.returns-then-both_answered
returns-then-both_answered c =
    let same = slice_eq-Decides {E = rows_equal} rows_same c.args.old_circles.now c.args.new_circles.now c.eq.result c.eq.ensures in
    (λ e. (c.both_answered.ensures.0 c.if-both_answered.true, same.0 e), λ h. same.1 h.1)
