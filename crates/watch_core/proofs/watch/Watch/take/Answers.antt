use Rattle.std.proofs.Common.{List, length, IfErr, sym, subst}
use Rattle.streams.specs.Stream.{StreamEvent}
use Rattle.watch_core.specs.declared.event.Event.{Event}
use Rattle.watch_core.specs.Event.{event_of}
use Rattle.watch_core.specs.Verdict.{IsRefusal}
use Rattle.watch_core.specs.Watch.{HasTaken}
use Rattle.watch_core.proofs.watch.Watch.take.Goals as goal

pub returns-in-Call-clause-refused : goal.returns-in-Call-clause-refused
returns-in-Call-clause-refused c = subst (λ (e : Event). IfErr c.take_call.result
    (λ refused. (stream later : List StreamEvent) → HasTaken c.args.self.now stream later
    → IsRefusal stream (length c.args.self.now.calls) (event_of e) refused)) (sym c.in-Call.is)
    c.take_call.ensures.refused

pub returns-in-Return-clause-refused : goal.returns-in-Return-clause-refused
returns-in-Return-clause-refused c = subst (λ (e : Event). IfErr c.take_return.result
    (λ refused. (stream later : List StreamEvent) → HasTaken c.args.self.now stream later
    → IsRefusal stream (length c.args.self.now.calls) (event_of e) refused)) (sym c.in-Return.is)
    c.take_return.ensures.refused

pub returns-in-Lost-clause-refused : goal.returns-in-Lost-clause-refused
returns-in-Lost-clause-refused c = subst (λ (e : Event). IfErr c.take_loss.result
    (λ refused. (stream later : List StreamEvent) → HasTaken c.args.self.now stream later
    → IsRefusal stream (length c.args.self.now.calls) (event_of e) refused)) (sym c.in-Lost.is)
    c.take_loss.ensures.refused
