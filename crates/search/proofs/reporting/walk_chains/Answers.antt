use Rattle.std.proofs.Common.{◌≡◌, ◌<◌, false, eqb, length, sym, refl, ◌∙◌, arith}
use Rattle.std.proofs.lemmas.Bool.{eqb-false, cond-true, cond-false}
use Rattle.recording.specs.Replies.{reply, reported}
use Rattle.search.proofs.Counting.{progress_starts, progresses, memory_long, ends_small, ends_answer, ends_held, not_over, is_over}
use Rattle.search.proofs.reporting.walk_chains.Goals as goal

pub loop-graph-init : goal.loop-graph-init
loop-graph-init g c = (
  progress_starts c.build-graph.result.rows.now (g.O.SegmentOrder.meaning c.build-graph.result.order.now).before c.args.budget
      (length c.args.circles.now.places.now) c.empty-stack.result c.start-tally.result c.clear.new.self
      c.empty-stack.ensures c.start-tally.ensures c.clear.ensures.holds,
  c.clear.ensures.lent,
)

pub loop-graph-preserved : goal.loop-graph-preserved
loop-graph-preserved g c =
    let rows = c.build-graph.result.rows.now in
    let before = (g.O.SegmentOrder.meaning c.build-graph.result.order.now).before in
    let n = length c.args.circles.now.places.now in
    let t = c.loop-graph.tally in
    let p = c.loop-graph.invariant.0 in
    let next = c.loop-graph-test.ensures in
    let take = c.take.ensures in
    let under : eqb t.chains c.args.budget ≡ false =
    not_over t c.args.budget (sym take.answers ∙ c.in_ok-take.was) in
    let room : t.chains < c.args.budget = omega (arith, eqb-false t.chains c.args.budget under, p.spent) in (
      progresses rows before c.args.budget n c.loop-graph.stack t c.loop-graph.circles p c.next_chain.new.self
          next.more next.next next.walks c.take.new.self c.take.new.circles room
          (take.counts ∙ cond-false (eqb t.chains c.args.budget) _ _ under)
          (take.holds ∙ cond-false (eqb t.chains c.args.budget) _ _ under),
      take.lent ∙ c.loop-graph.invariant.1,
    )

pub answer-requires : goal.answer-requires
answer-requires g c =
    let before = (g.O.SegmentOrder.meaning c.build-graph.result.order.now).before in
    let n = length c.args.circles.now.places.now in
    ends_small c.build-graph.result.rows.now before c.args.budget n c.loop-graph.stack c.loop-graph.tally c.loop-graph.circles
    c.loop-graph.invariant.0 c.loop-graph-test.ensures.more (omega arith)

pub returns-in_err-take-clause-size : goal.returns-in_err-take-clause-size
returns-in_err-take-clause-size g c =
    let t = c.loop-graph.tally in
    let (spent, _) = is_over t c.args.budget c.in_err-take.field-0.0 (sym c.take.ensures.answers ∙ c.in_err-take.was) in
    memory_long c.build-graph.result.rows.now (g.O.SegmentOrder.meaning c.build-graph.result.order.now).before c.args.budget
    (length c.args.circles.now.places.now) c.loop-graph.stack t c.loop-graph.circles c.loop-graph.invariant.0 c.take.new.circles
    (c.take.ensures.holds ∙ cond-true (eqb t.chains c.args.budget) _ _ spent)

pub returns-clause-answers : goal.returns-clause-answers
returns-clause-answers g c =
    c.answer.ensures ∙ ends_answer c.build-graph.result.rows.now (g.O.SegmentOrder.meaning c.build-graph.result.order.now).before
    c.args.budget (length c.args.circles.now.places.now) c.loop-graph.stack c.loop-graph.tally c.loop-graph.circles
    c.loop-graph.invariant.0 c.loop-graph-test.ensures.more
    ∙ (λ i. reply (c.build-graph.ensures.rows i) (g.O.SegmentOrder.meaning (c.build-graph.ensures.order i)).before c.args.budget
    (length c.args.circles.now.places.now))

pub returns-clause-holds : goal.returns-clause-holds
returns-clause-holds g c e =
    ends_held c.build-graph.result.rows.now (g.O.SegmentOrder.meaning c.build-graph.result.order.now).before
    c.args.budget (length c.args.circles.now.places.now) c.loop-graph.stack c.loop-graph.tally c.loop-graph.circles
    c.loop-graph.invariant.0 c.loop-graph-test.ensures.more c.answer.result c.answer.ensures e
    ∙ (λ i. reported (c.build-graph.ensures.rows i) (g.O.SegmentOrder.meaning (c.build-graph.ensures.order i)).before c.args.budget
    (length c.args.circles.now.places.now))

pub returns-clause-size : goal.returns-clause-size
returns-clause-size g c =
    memory_long c.build-graph.result.rows.now (g.O.SegmentOrder.meaning c.build-graph.result.order.now).before c.args.budget
    (length c.args.circles.now.places.now) c.loop-graph.stack c.loop-graph.tally c.loop-graph.circles c.loop-graph.invariant.0
    c.loop-graph.circles refl
