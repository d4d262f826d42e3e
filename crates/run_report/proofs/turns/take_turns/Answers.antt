use Rattle.std.proofs.Common.{◌≡◌, ◌∙◌, sym, subst, ap, ℕ, ◌-◌, List, take, get_or, slice_get, arith}
use Rattle.std.specs.Prelude.{Some}
use Rattle.std.proofs.lemmas.List.{length-set}
use Rattle.std.proofs.lemmas.Option.{slice_get-get_or}
use Rattle.std.proofs.Math.Seq.{take-length}
use Rattle.report_lines.specs.Allotments.{turns_of}
use Rattle.run_report.specs.Starts.{run_allotments, course_of}
use Rattle.run_report.specs.Turns.{IsTurned}
use Rattle.run_report.proofs.Turning.{turn_within, no_turn, turning, turned_set, turned_spent}
use Rattle.run_report.proofs.turns.take_turns.Goals as goal

pub index_mut-requires : goal.index_mut-requires
index_mut-requires g c =
    let within =
    turn_within c.turns-turn-items.result.now c.args.script.now.turns _ c.loop-turn.turn-index
    c.loop-turn.invariant.turns c.loop-turn-test.true c.callers.ensures.plan.turns in
    omega (arith, within, c.loop-turn.invariant.all, c.callers.ensures.count)

pub loop-turn-init : goal.loop-turn-init
loop-turn-init g c =
    record {
      all = c.requires.workers.all;
      last = omega (arith, c.callers.ensures.count, c.callers.ensures.plan.some);
      turns = c.turns-turn-items.ensures;
      workers = λ i j w at there. no_turn _ _ _ _ _ _ _ i w (c.requires.workers.each i j w at
          there);
    }

pub take_turn-requires-clause-turning : goal.take_turn-requires-clause-turning
take_turn-requires-clause-turning g c =
    let turn = get_or c.turns-turn-items.result.now c.loop-turn.turn-index 0 in
    let place = c.callers.result - 1 - turn in
    let within =
    turn_within c.turns-turn-items.result.now c.args.script.now.turns _ c.loop-turn.turn-index
    c.loop-turn.invariant.turns c.loop-turn-test.true c.callers.ensures.plan.turns in
    let there : slice_get c.loop-turn.workers.items place ≡ Some c.index_mut.result.now =
    slice_get-get_or c.loop-turn.workers.items place _
    (omega (arith, within, c.loop-turn.invariant.all, c.callers.ensures.count))
    ∙ ap (λ w. Some w) (sym c.index_mut.ensures.value) in
    turning _ _ _ _ _ _ _ turn
    (turns_of (take c.loop-turn.turn-index c.turns-turn-items.result.now) turn)
    c.index_mut.result.now
    (c.loop-turn.invariant.workers turn place c.index_mut.result.now
    (omega (arith, within, c.callers.ensures.count)) there)

pub loop-turn-preserved : goal.loop-turn-preserved
loop-turn-preserved g c =
    let turn = get_or c.turns-turn-items.result.now c.loop-turn.turn-index 0 in
    let place = c.callers.result - 1 - turn in
    let within =
    turn_within c.turns-turn-items.result.now c.args.script.now.turns _ c.loop-turn.turn-index
    c.loop-turn.invariant.turns c.loop-turn-test.true c.callers.ensures.plan.turns in
    let there : slice_get c.loop-turn.workers.items place ≡ Some c.index_mut.result.now =
    slice_get-get_or c.loop-turn.workers.items place _
    (omega (arith, within, c.loop-turn.invariant.all, c.callers.ensures.count))
    ∙ ap (λ w. Some w) (sym c.index_mut.ensures.value) in
    record {
      all = length-set c.loop-turn.workers.items place c.take_turn.new.self
          ∙ c.loop-turn.invariant.all;
      last = c.loop-turn.invariant.last;
      turns = c.loop-turn.invariant.turns;
      workers =
          turned_set _ _ _ _ _ _ _ _ c.loop-turn.turn-index place c.turns-turn-items.result.now
          c.loop-turn.workers.items c.index_mut.result.now c.take_turn.new.self
          c.loop-turn-test.true (omega (arith, within, c.callers.ensures.count)) there
          (c.take_turn.ensures _) c.loop-turn.invariant.workers;
    }

pub returns : goal.returns
returns g c = record {
  workers = record {
    all = c.loop-turn.invariant.all;
    each = λ i j w at there.
        let plan = c.args.script.now in
        let all : take c.loop-turn.turn-index c.turns-turn-items.result.now ≡ plan.turns =
        ap (λ (k : ℕ). take k c.turns-turn-items.result.now)
        (omega (arith, c.loop-turn-test.false, c.loop-turn.auto.turn-index-end))
        ∙ take-length c.turns-turn-items.result.now ∙ c.turns-turn-items.ensures in
        turned_spent _ _ _ _ _ _ plan (g.E.Ending.object c.args._ending.now) i w (omega (arith, at))
        (subst
        (λ (turns : List ℕ). IsTurned g.P.Program.meaning c.args.shared.now.rows.now g.E.Ending.says
        g.E.Ending.object (g.A.Asks.fits c.args.shared.now.asks.now) g.A.Asks.count (course_of plan
        (run_allotments plan) (g.E.Ending.object c.args._ending.now)) i (turns_of turns i) w) all
        (c.loop-turn.invariant.workers i j w at there));
  };
}
