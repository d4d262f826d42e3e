use Rattle.std.proofs.Common.{subst}
use Rattle.seq_objects.specs.declared.kind.Kind.{Kind}
use Rattle.seq_objects.specs.Objects.{kind_spec}
use Rattle.client_calls.specs.Asking.{own_count}
use Rattle.monitor.specs.Monitoring.{HaveBeenWatched}
use Rattle.monitor.proofs.AnswerLemmas.{ends_of_run, found_of_run, fine_of_run}
use Rattle.monitor.proofs.written_run.monitor_and_write.Goals as goal

pub returns-in-Ok-clause-watched : goal.returns-in-Ok-clause-watched
returns-in-Ok-clause-watched g c some =
    let done = c.monitor_over in
    let pass = g.B.Pass.ObjectPass in
    subst (λ (kind : Kind). HaveBeenWatched (kind_spec kind)
    (own_count pass.made pass.cap pass.told) c.args.script.now c.args.bench.now done.new.bench
    done.new.passes.items) c.kind.ensures c.in-Ok.ensures.watched

pub returns-in-Ok-clause-ends : goal.returns-in-Ok-clause-ends
returns-in-Ok-clause-ends g c =
    ends_of_run _ _ _ _ _ _ _ c.kind.ensures c.in-Ok.ensures.answer c.write_answer.ensures.ends

pub returns-in-Ok-clause-found : goal.returns-in-Ok-clause-found
returns-in-Ok-clause-found g c illegal = found_of_run _ _ _ _ _ c.kind.ensures
    c.in-Ok.ensures.answer c.write_answer.ensures.status illegal

pub returns-in-Ok-clause-fine : goal.returns-in-Ok-clause-fine
returns-in-Ok-clause-fine g c legal = fine_of_run _ _ _ _ _ c.kind.ensures
    c.in-Ok.ensures.answer c.write_answer.ensures.status legal
