use Rattle.std.proofs.Common.{List, Option, refl, ap, subst}
use Rattle.std.specs.Prelude.{IfSome}
use Rattle.book_base.specs.Book.{Page}
use Rattle.book_base.specs.Order.{HasLegalOrder}
use Rattle.seq_objects.specs.declared.kind.Kind.{Kind}
use Rattle.seq_objects.specs.Objects.{kind_spec}
use Rattle.client_scripts.specs.Plans.{Plan}
use Rattle.reports.specs.Findings.{IsWitness}
use Rattle.hunts.specs.Hunting.{IsRun}
use Rattle.hunts.proofs.Heard.{hears_run}
use Rattle.hunts.proofs.Made.{made_no_order}
use Rattle.hunts.proofs.trial.run_seed.Goals as goal

pub returns-in-Some-clause-caught : goal.returns-in-Some-clause-caught
returns-in-Some-clause-caught g c =
    let made = g.B.Pass.ObjectPass.made in
    let told = g.B.Pass.ObjectPass.told in
    let script = c.in_ok-script.script in
    let report = c.in_ok-report.report in
    let book = c.in-Some.witness in
    let passes = c.run_once.new.passes.items in
    let ran : IsRun made told script passes report = c.in_ok-report.ensures in
    let witness : IsWitness report.lines book =
    subst (λ (found : Option (List Page)). IfSome found (IsWitness report.lines)) c.in-Some.is
    c.in_ok-witness.ensures.found in
    record {
      seed_is = refl;
      script = c.in_ok-script.ensures;
      ran = ran;
      witness = witness;
      no_order = subst (λ (k : Kind). ¬ HasLegalOrder (kind_spec k) book)
          (ap (λ (p : Plan). p.kind) c.in_ok-script.ensures)
          (made_no_order made told script report book (passes, ran) witness);
    }

pub returns-in-Some-clause-heard : goal.returns-in-Some-clause-heard
returns-in-Some-clause-heard g c =
    hears_run c.args.workload.now c.args.seed c.in_ok-script.script
    (g.W.Onlooker.heard c.args.watch.now) (g.W.Onlooker.heard c.begins.new.self)
    (g.W.Onlooker.heard c.ran.new.self) c.in_ok-script.ensures c.begins.ensures c.ran.ensures

pub returns-in-None-clause-heard : goal.returns-in-None-clause-heard
returns-in-None-clause-heard g c =
    hears_run c.args.workload.now c.args.seed c.in_ok-script.script
    (g.W.Onlooker.heard c.args.watch.now) (g.W.Onlooker.heard c.begins.new.self)
    (g.W.Onlooker.heard c.ran.new.self) c.in_ok-script.ensures c.begins.ensures c.ran.ensures
