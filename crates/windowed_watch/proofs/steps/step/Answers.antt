use Rattle.std.proofs.Common.{[], ◌∷◌, ◌++◌}
use Rattle.std.proofs.lemmas.Result.{err_from_is_err_and}
use Rattle.watch_core.specs.Event.{event_of}
use Rattle.windowed_watch.specs.Ahead.{events_of}
use Rattle.windowed_watch.proofs.Refusing.{refused_never}
use Rattle.windowed_watch.proofs.steps.step.Goals as goal

pub returns-in_err-take-clause-refused : goal.returns-in_err-take-clause-refused
returns-in_err-take-clause-refused c =
    let p = err_from_is_err_and c.from_residual.result c.from_residual.ensures.1 in
    rw (p.1, p.2) (λ stream later has takable. refused_never stream (event_of c.args.event)
    c.args.watch.now.calls c.in_err-take.field-0.0 takable.valid takable.narrow takable.short
    has.table (c.in_err-take.ensures.refused stream later has))

pub returns-in-Call-clause-taken : goal.returns-in-Call-clause-taken
returns-in-Call-clause-taken c stream has =
    c.foretell.ensures.taken (stream ++ event_of c.args.event ∷ [])
    (c.in_ok-take.ensures.taken stream (events_of c.args.coming.now) has)

pub returns-in_default : goal.returns-in_default
returns-in_default c = record {
  taken = λ stream has. c.in_ok-take.ensures.taken stream (events_of c.args.coming.now) has;
  refused = tt;
  same = tt;
  kind = c.in_ok-take.ensures.kind;
}
