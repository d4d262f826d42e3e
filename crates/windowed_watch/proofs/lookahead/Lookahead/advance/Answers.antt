use Rattle.std.proofs.Common.{◌∙◌, ◌+◌, List, [], ◌∷◌, ◌++◌, take, drop, sym, ap, subst}
use Rattle.std.proofs.lemmas.List.{take_rest}
use Rattle.std.proofs.lemmas.Result.{err_from_is_err_and}
use Rattle.seq_objects.specs.declared.kind.Kind.{Kind}
use Rattle.seq_objects.specs.Objects.{kind_spec}
use Rattle.streams.specs.Stream.{StreamEvent}
use Rattle.streams.specs.StreamOrder.{HasLegalStreamOrder}
use Rattle.watch_core.specs.declared.event.Event.{Event}
use Rattle.watch_core.specs.Event.{event_of}
use Rattle.windowed_watch.specs.Ahead.{events_of, IsTakable}
use Rattle.windowed_watch.proofs.Logs.{stepped, takable_next}
use Rattle.windowed_watch.proofs.lookahead.Lookahead.advance.Goals as goal

pub returns-in_err-step-clause-refused : goal.returns-in_err-step-clause-refused
returns-in_err-step-clause-refused c =
    let a = c.args.self.now in
    let p = err_from_is_err_and c.from_residual.result c.from_residual.ensures.1 in
    rw (p.1, p.2) (λ stream runs takable.
    let events = events_of a.log.items in
    let front = runs.before ++ take a.taken events in
    c.in_err-step.ensures.refused front (drop a.taken events) runs.watch
    (subst (λ (e : Event). IsTakable (front ++ event_of e ∷ [])) (sym c.index.ensures)
    (takable_next runs.before a.log.items a.taken _ c.requires.some
    (subst (λ (s : List StreamEvent). IsTakable s) runs.whole takable))))

pub returns-clause-running : goal.returns-clause-running
returns-clause-running c stream runs =
    let a = c.args.self.now in
    let events = events_of a.log.items in
    let kind = c.step.ensures.kind in record {
      before = runs.before;
      whole = runs.whole;
      legal = subst (λ (k : Kind).
          HasLegalStreamOrder (kind_spec k) (runs.before ++ take a.legal events)) (sym kind.0)
          runs.legal;
      base_kind = runs.base_kind ∙ sym kind.0;
      base_limit = runs.base_limit ∙ sym kind.1;
      base = runs.base;
      next_kind = runs.next_kind ∙ sym kind.0;
      next_limit = runs.next_limit ∙ sym kind.1;
      next_seen = runs.next_seen;
      next = runs.next;
      watch = stepped runs.before a.log.items _ a.taken _ c.index.result.now a.watch
          c.step.new.watch c.requires.some c.index.ensures
          (take_rest c.deref.result.now (a.taken + 1)
          ∙ ap (λ (l : List Event). drop (a.taken + 1) l) c.deref.ensures.value)
          c.in_ok-step.ensures.taken runs.watch;
    }
