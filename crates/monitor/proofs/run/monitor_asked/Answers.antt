use Rattle.std.proofs.Common.{◌≡◌, ◌⊎◌, subst, false, Option, Some, arith}
use Rattle.std.specs.Prelude.{IfSome, IfNone}
use Rattle.monitor.specs.declared.witness.Witness.{Witness}
use Rattle.run_report.proofs.Workers.{if_ok_as}
use Rattle.monitor.proofs.Monitoring.{made_all, free_again, counted_all, of_a_book, within_the_book, judged, all_monitored, found_monitored, found_by}
use Rattle.monitor.proofs.run.monitor_asked.Goals as goal

pub returns-in-Some-clause-watched : goal.returns-in-Some-clause-watched
returns-in-Some-clause-watched g c =
    let d = c.in_ok-lines.ensures in
    let begins = c.requires.begins.begins in
    let bench = d.returns.bench.0 in
    let by = subst (λ (o : Option Witness). IfSome o (λ w. (c.in_ok-lines.one.own ≡ Some w)
    ⊎ (c.in_ok-lines.other.own ≡ Some w))) c.in-Some.is c.in_ok-found.ensures.found in
    record {
      made = made_all _ _ _ _ c.args.script.now _ _ _ _ begins bench d.lines
          (omega (arith, d.all_lines)) d.monitors;
      free = free_again _ _ _ _ c.args.script.now _ _ _ _ begins bench d.lines
          (omega (arith, d.all_lines)) d.monitors;
      counted = counted_all _ _ _ _ c.args.script.now _ _ _ _ begins bench d.lines
          (omega (arith, d.all_lines)) d.monitors d.returns.all_passes;
      rounds = found_monitored _ _ _ _ c.args.script.now _ _ _ _ begins bench d.lines
          (omega (arith, d.all_lines)) d.monitors
          (g.S.SeqObject.spec c.args.sequential.now) _ c.most_rounds-most.ensures.rounds _ _
          d.one d.other c.in-Some.witness by;
    }

pub returns-in-Some-clause-answer : goal.returns-in-Some-clause-answer
returns-in-Some-clause-answer g c =
    let d = c.in_ok-lines.ensures in
    let by = subst (λ (o : Option Witness). IfSome o (λ w. (c.in_ok-lines.one.own ≡ Some w)
    ⊎ (c.in_ok-lines.other.own ≡ Some w))) c.in-Some.is c.in_ok-found.ensures.found in
    found_by _ _ _ _ c.args.script.now _ _ _ _ c.requires.begins.begins d.returns.bench.0 d.lines
    (omega (arith, d.all_lines)) d.monitors (g.S.SeqObject.spec c.args.sequential.now) _
    c.most_rounds-most.ensures.rounds _ _ d.one d.other c.in-Some.witness by

pub judge_lines-requires-clause-lines : goal.judge_lines-requires-clause-lines
judge_lines-requires-clause-lines g c =
    let d = c.in_ok-lines.ensures in
    of_a_book _ _ _ _ c.args.script.now _ _ _ _ c.requires.begins.begins d.returns.bench.0 d.lines
    (omega (arith, d.all_lines)) d.monitors

pub judge_lines-requires-clause-within : goal.judge_lines-requires-clause-within
judge_lines-requires-clause-within g c =
    let d = c.in_ok-lines.ensures in
    within_the_book _ _ _ _ c.args.script.now _ _ _ _ c.requires.begins.begins d.returns.bench.0
    d.lines (omega (arith, d.all_lines)) d.monitors

pub returns-in-None-clause-watched : goal.returns-in-None-clause-watched
returns-in-None-clause-watched g c =
    let d = c.in_ok-lines.ensures in
    let begins = c.requires.begins.begins in
    let bench = d.returns.bench.0 in
    let (none, none_too) = subst (λ (o : Option Witness). IfNone o
    ((c.in_ok-lines.one.wants_memory ≡ false) × (c.in_ok-lines.other.wants_memory ≡ false)))
    c.in-None.is c.in_ok-found.ensures.ends in
    if_ok_as c.judge_lines.result _ _ (λ answer h. record {
      made = made_all _ _ _ _ c.args.script.now _ _ _ _ begins bench d.lines
          (omega (arith, d.all_lines)) d.monitors;
      free = free_again _ _ _ _ c.args.script.now _ _ _ _ begins bench d.lines
          (omega (arith, d.all_lines)) d.monitors;
      counted = counted_all _ _ _ _ c.args.script.now _ _ _ _ begins bench d.lines
          (omega (arith, d.all_lines)) d.monitors d.returns.all_passes;
      rounds = all_monitored _ _ _ _ c.args.script.now _ _ _ _ begins bench d.lines
          (omega (arith, d.all_lines)) d.monitors (g.S.SeqObject.spec c.args.sequential.now) _
          c.most_rounds-most.ensures.rounds _ _ d.one d.other none none_too;
    }) c.judge_lines.ensures

pub returns-in-None-clause-answer : goal.returns-in-None-clause-answer
returns-in-None-clause-answer g c =
    let d = c.in_ok-lines.ensures in
    if_ok_as c.judge_lines.result _ _
    (judged _ _ _ _ c.args.script.now _ _ _ _ c.requires.begins.begins d.returns.bench.0 d.lines
    (omega (arith, d.all_lines)) d.monitors (g.S.SeqObject.spec c.args.sequential.now))
    c.judge_lines.ensures
