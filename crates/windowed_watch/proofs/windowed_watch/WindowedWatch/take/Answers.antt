use Rattle.std.proofs.Common.{◌∙◌, ◌≤◌, [], ◌∷◌, length, sym, ap, subst}
use Rattle.std.proofs.lemmas.Option.{IfSome_then}
use Rattle.std.proofs.lemmas.Result.{IfErr-weaker, on_err_weaker}
use Rattle.watch_core.specs.declared.TheConstants.{MAX_OPEN}
use Rattle.watch_core.specs.Event.{event_of}
use Rattle.watch_core.specs.Verdict.{IsRefusal}
use Rattle.watch_core.specs.Watch.{Watched, HasTaken}
use Rattle.windowed_watch.specs.Windowed.{Windowed, HasReceived}
use Rattle.windowed_watch.proofs.Further.{final_further}
use Rattle.windowed_watch.proofs.Refusing.{front_more, on_ok_both, if_none, some_not}
use Rattle.windowed_watch.proofs.windowed_watch.WindowedWatch.take.Goals as goal

pub returns-then-is_some-clause-received : goal.returns-then-is_some-clause-received
returns-then-is_some-clause-received c = on_ok_both c.take.result c.take.ensures.taken
    c.take.ensures.count (λ takes count stream has.
    let i = c.self.inside in
    let event = event_of c.args.event in
    let now = subst (λ (w : Windowed). HasReceived w stream) (sym c.self.view_is)
    (c.let_go-2.ensures.same stream has) in
    let both = front_more i.front c.take.new.self stream event now.front now.takable now.few takes
    count.1 c.take.ensures.few in
    record {
      front = both.0;
      takable = both.1;
      few = c.take.ensures.few now.few;
      running = λ none. some_not i.last (sym c.is_some.ensures ∙ c.if-is_some.true) none;
      final = IfSome_then i.last now.final (λ verdict final. final_further
          i.ahead.watch.kind i.ahead.watch.limit stream (event ∷ []) verdict final);
    })

pub returns-then-is_some-clause-refused : goal.returns-then-is_some-clause-refused
returns-then-is_some-clause-refused c = IfErr-weaker c.take.result _ _ (λ why refused stream has.
    let now = subst (λ (w : Windowed). HasReceived w stream) (sym c.self.view_is)
    (c.let_go-2.ensures.same stream has) in
    subst (λ (f : Watched). IsRefusal stream (length f.calls) (event_of c.args.event) why)
    (ap (λ (w : Windowed). w.front) c.self.view_is ∙ c.let_go-2.ensures.front)
    (refused stream [] now.front)) c.take.ensures.refused

pub returns-clause-received : goal.returns-clause-received
returns-clause-received c = on_ok_both c.receive.result c.receive.ensures.front
    c.receive.ensures.running (λ front running stream has.
    let i = c.self.inside in
    let now = subst (λ (w : Windowed). HasReceived w stream) (sym c.self.view_is)
    (c.let_go-2.ensures.same stream has) in
    let both = front stream now.front now.takable now.few in
    record {
      front = both.0;
      takable = both.1;
      few = c.receive.ensures.calls now.few;
      running = λ none. running stream (now.running none);
      final = if_none _ i.last (sym c.is_some.ensures ∙ c.if-is_some.false);
    })

pub returns-clause-same : goal.returns-clause-same
returns-clause-same c = on_err_weaker c.receive.result (λ same stream has.
    let i = c.self.inside in
    let now = subst (λ (w : Windowed). HasReceived w stream) (sym c.self.view_is)
    (c.let_go-2.ensures.same stream has) in
    record {
      front = subst (λ (f : Watched). HasTaken f stream []) (sym same.0) now.front;
      takable = now.takable;
      few = subst (λ (f : Watched). length f.calls ≤ MAX_OPEN) (sym same.0) now.few;
      running = λ none. same.1 stream (now.running none);
      final = if_none _ i.last (sym c.is_some.ensures ∙ c.if-is_some.false);
    }) c.receive.ensures.same
