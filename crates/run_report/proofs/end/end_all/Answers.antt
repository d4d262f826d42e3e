use Rattle.std.proofs.Common.{rules, ◌≡◌, ◌∙◌, ap, refl, ◌||◌, List, length, arith}
use Rattle.std.specs.Prelude.{vec_len}
use Rattle.std.proofs.lemmas.Bool.{or_parts}
use Rattle.std.proofs.lemmas.List.{length-map}
use Rattle.reports.specs.declared.report.Own.{Own}
use Rattle.run_report.proofs.Places.{one_less_down, last_down, one_longer}
use Rattle.run_report.proofs.Returns.{spent_client, one_more_back, all_back}
use Rattle.run_report.proofs.end.end_all.Goals as goal

pub unwrap-client-requires : goal.unwrap-client-requires
unwrap-client-requires g c =
    let k = vec_len c.loop-worker.passes in
    let spent = last_down _ _ _ _ k c.in-Some.worker c.in-Some.ensures.items
    (omega (arith, c.loop-worker.invariant.count, c.in-Some.ensures.len))
    c.loop-worker.invariant.workers in
    rw spent.here refl

pub bring_back-wants_memory-requires : goal.bring_back-wants_memory-requires
bring_back-wants_memory-requires g c =
    let k = vec_len c.loop-worker.passes in
    let inv = c.loop-worker.invariant in
    let spent = last_down _ _ _ _ k c.in-Some.worker c.in-Some.ensures.items
    (omega (arith, inv.count, c.in-Some.ensures.len)) inv.workers in
    let h = spent_client _ _ _ _ _ _ _ k c.in-Some.worker c.unwrap-client.result spent
    c.unwrap-client.ensures in
    let long = length-map c.loop-worker.lines.items (λ (o : Own). o.lines.items) in
    record {
      client = h.0;
      spent = h.1;
      bench = inv.bench;
      gone = inv.back.gone c.unwrap-client.result.sheet.who (omega (arith, h.2))
          (omega (arith, h.2, inv.count, c.in-Some.ensures.len));
      next_pass = omega (arith, h.2);
      next_lines = omega (arith, h.2, inv.lines_count, long);
      passes = omega
          (arith, inv.count, c.in-Some.ensures.len, inv.passes_capacity, c.requires.passes);
      lines = omega
          (arith, inv.count, c.in-Some.ensures.len, inv.lines_count, inv.lines_capacity);
    }

pub loop-worker-init : goal.loop-worker-init
loop-worker-init g c =
    let passes : length c.args.passes.now.items ≡ 0 =
    ap (λ (xs : List _). length xs) c.requires.no_passes in
    let lines : length c.args.lines.items ≡ 0 =
    ap (λ (xs : List _). length xs) c.requires.no_lines in
    record {
      workers = c.requires.workers.each;
      bench = c.requires.bench;
      count = omega (arith, c.requires.workers.all, passes);
      lines_count = omega (arith, lines, passes);
      passes_capacity = omega arith;
      lines_capacity = c.requires.lines;
      others = λ i high. (refl, refl);
      back = record {
        back = λ i low. absurd (omega (arith, low, passes));
        gone = λ i high within. c.requires.gone i within;
      };
    }

pub loop-worker-preserved : goal.loop-worker-preserved
loop-worker-preserved g c =
    let k = vec_len c.loop-worker.passes in
    let inv = c.loop-worker.invariant in
    let spent = last_down _ _ _ _ k c.in-Some.worker c.in-Some.ensures.items
    (omega (arith, inv.count, c.in-Some.ensures.len)) inv.workers in
    let h = spent_client _ _ _ _ _ _ _ k c.in-Some.worker c.unwrap-client.result spent
    c.unwrap-client.ensures in
    let done = c.bring_back-wants_memory in
    let passes_longer = one_longer _ _ _ done.ensures.passes in
    let lines_longer = one_longer _ _ _ done.ensures.lines.1 in
    let long_old = length-map c.loop-worker.lines.items (λ (o : Own). o.lines.items) in
    let long_new = length-map done.new.lines.items (λ (o : Own). o.lines.items) in
    record {
      workers = one_less_down _ _ _ _ c.in-Some.worker c.in-Some.ensures.items inv.workers;
      bench = done.ensures.bench;
      count = omega (arith, inv.count, c.in-Some.ensures.len, passes_longer);
      lines_count = omega (arith, inv.lines_count, lines_longer, long_old, long_new, passes_longer);
      passes_capacity = omega (arith, inv.passes_capacity, done.ensures.capacity.0);
      lines_capacity = omega (arith, inv.lines_capacity, done.ensures.capacity.1);
      others = λ i high.
          let other = done.ensures.others i
          (λ same. omega (arith, high, same ∙ h.2, inv.count, c.in-Some.ensures.len)) in
          let before = inv.others i high in
          (other.0 ∙ before.0, other.1 ∙ before.1);
      back = one_more_back _ _ _ _ _ _ _ c.loop-worker.bench done.new.bench _ _ _ _
          c.loop-worker.wants_memory (c.loop-worker.wants_memory || done.result) done.result k
          c.unwrap-client.result.sheet.who (vec_len done.new.passes) _ _
          h.2 (omega (arith, passes_longer)) (or_parts c.loop-worker.wants_memory done.result)
          done.ensures.passes done.ensures.lines.1 inv.back done.ensures.back done.ensures.others;
    }

pub returns-then-wants_memory-clause-back : goal.returns-then-wants_memory-clause-back
returns-then-wants_memory-clause-back g c i low =
    let all : vec_len c.loop-worker.passes ≡ length c.args.script.now.operations = search rules in
    (c.loop-worker.invariant.back.back i (omega (arith, low, all))).on

pub returns-clause-back : goal.returns-clause-back
returns-clause-back g c i low =
    let all : vec_len c.loop-worker.passes ≡ length c.args.script.now.operations = search rules in
    (c.loop-worker.invariant.back.back i (omega (arith, low, all))).on

pub returns-clause-lines : goal.returns-clause-lines
returns-clause-lines g c =
    let all : vec_len c.loop-worker.passes ≡ length c.args.script.now.operations = search rules in
    all_back _ _ _ _ _ _ _ _ _ _ _ _ all c.if-wants_memory.false c.loop-worker.invariant.back
