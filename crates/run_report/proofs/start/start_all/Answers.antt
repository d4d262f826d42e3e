use Rattle.std.proofs.Common.{◌≡◌, ◌∙◌, sym, subst, refl, ℕ, ◌+◌, ◌-◌, [], ◌∷◌, length, arith}
use Rattle.std.proofs.lemmas.Slice.{pushed}
use Rattle.row_table.specs.Callers.{who_of}
use Rattle.run_report.specs.Starts.{IsUnused, HoldsBelow}
use Rattle.run_report.proofs.Places.{none_down, one_more_down, one_less_in_order, last_in_order, popped, one_longer}
use Rattle.run_report.proofs.Starts.{fresh_from_bench, one_less_held}
use Rattle.run_report.proofs.start.start_all.Goals as goal

pub loop-left-init : goal.loop-left-init
loop-left-init g c =
    let count = c.callers-left.ensures.count in
    record {
      few = omega (arith, count);
      bench = c.requires.starts.bench_of;
      held = record {
        below = λ i low. (refl, refl);
        gone = λ i high within. absurd (omega (arith, high, within, count));
        others = λ i high. (refl, refl);
      };
      all_passes = omega (arith, c.requires.passes.as_many, count);
      passes_capacity = refl;
      passes = c.requires.passes.each;
      all_capacities = omega (arith, c.in_ok-lines.ensures.all, count);
      lines_capacity = c.in_ok-lines.ensures.capacity;
      rooms = c.in_ok-lines.ensures.room;
      workers_count = omega (arith, c.in_ok-workers.ensures.len, count);
      workers_capacity = omega (arith, c.in_ok-workers.ensures.capacity, count);
      workers = none_down _ _ _ c.in_ok-workers.ensures.items;
    }

pub part-caller-requires-clause-held : goal.part-caller-requires-clause-held
part-caller-requires-clause-held g c =
    let i = c.loop-left.left - 1 in
    let unused : IsUnused c.args.bench.now i =
    c.requires.starts.unused i
    (omega (arith, c.loop-left.invariant.few, c.loop-left-test.true)) in (
      unused.local,
      (c.loop-left.invariant.held.below i (omega (arith, c.loop-left-test.true))).0 ∙ unused.here,
    )

pub begin-worker-requires : goal.begin-worker-requires
begin-worker-requires g c =
    let i = c.loop-left.left - 1 in
    let inv = c.loop-left.invariant in
    let who : who_of c.part-caller.result ≡ i = c.part-caller.ensures.caller.1 in
    let pass_items = popped _ _ _ _ c.pop.ensures.items c.unwrap-pass.ensures in
    let own_items = popped _ _ _ _ c.pop-in-loop-left.ensures.items c.unwrap-own.ensures in
    let pass = last_in_order _ _ _ (who_of c.part-caller.result) c.unwrap-pass.result pass_items
    (omega (arith, who, inv.all_passes, one_longer _ _ _ pass_items)) inv.passes in
    let own = last_in_order _ _ _ (who_of c.part-caller.result) c.unwrap-own.result own_items
    (omega (arith, who, inv.all_capacities, one_longer _ _ _ own_items)) inv.rooms in
    let below = inv.held.below i (omega (arith, c.loop-left-test.true)) in
    let unused : IsUnused c.args.bench.now i =
    c.requires.starts.unused i (omega (arith, inv.few, c.loop-left-test.true)) in
    let fresh = fresh_from_bench c.args.bench.now i c.part-caller.result unused
    (sym below.0 ∙ c.part-caller.ensures.local) (sym below.1 ∙ c.part-caller.ensures.stance) in
    record {
      plan = c.callers-left.ensures.plan;
      rows = c.requires.starts.rows_for;
      caller = c.part-caller.ensures.caller.0;
      fresh = fresh;
      pass = pass;
      room = own;
      below = omega (arith, who, inv.few, c.loop-left-test.true);
    }

pub loop-left-preserved : goal.loop-left-preserved
loop-left-preserved g c =
    let i = c.loop-left.left - 1 in
    let n = length c.args.script.now.operations in
    let inv = c.loop-left.invariant in
    let who : who_of c.part-caller.result ≡ i = c.part-caller.ensures.caller.1 in
    let pass_items = popped _ _ _ _ c.pop.ensures.items c.unwrap-pass.ensures in
    let own_items = popped _ _ _ _ c.pop-in-loop-left.ensures.items c.unwrap-own.ensures in
    let put = pushed (c.begin-worker.result ∷ []) refl c.unwrap.ensures c.push.ensures.items in
    let left : c.loop-left.left ≡ i + 1 = omega (arith, c.loop-left-test.true) in
    record {
      few = omega (arith, inv.few);
      bench = c.part-caller.ensures.bench;
      held = one_less_held n i c.args.bench.now c.loop-left.bench c.part-caller.new.bench
          (omega (arith, inv.few, left))
          (subst (λ (m : ℕ). HoldsBelow n m c.args.bench.now c.loop-left.bench) left inv.held)
          c.part-caller.ensures.gone c.part-caller.ensures.others;
      all_passes = omega (arith, inv.all_passes, one_longer _ _ _ pass_items);
      passes_capacity = c.pop.ensures.capacity ∙ inv.passes_capacity;
      passes = one_less_in_order _ _ _ c.unwrap-pass.result pass_items inv.passes;
      all_capacities = omega (arith, inv.all_capacities, one_longer _ _ _ own_items);
      lines_capacity = omega (arith, inv.lines_capacity, c.pop-in-loop-left.ensures.capacity);
      rooms = one_less_in_order _ _ _ c.unwrap-own.result own_items inv.rooms;
      workers_count = omega (arith, inv.workers_count, one_longer _ _ _ put, left);
      workers_capacity = omega (arith, inv.workers_capacity, c.push.ensures.lower_bound);
      workers = one_more_down n _ _ _ (who_of c.part-caller.result) c.begin-worker.result put
          (omega (arith, who, inv.workers_count, left)) c.begin-worker.ensures inv.workers;
    }

pub returns-clause-gone : goal.returns-clause-gone
returns-clause-gone g c i low =
    c.loop-left.invariant.held.gone i (omega (arith, c.loop-left-test.false)) low
