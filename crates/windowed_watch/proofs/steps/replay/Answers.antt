use Rattle.std.proofs.Common.{◌∙◌, ◌+◌, ◌≤◌, ℕ, List, [], ◌++◌, length, take, drop, refl, subst, arith}
use Rattle.std.proofs.lemmas.List.{take_rest, take_all, drop_all, length-map}
use Rattle.std.proofs.lemmas.Result.{err_from_is_err_and}
use Rattle.seq_objects.specs.declared.kind.Kind.{Kind}
use Rattle.streams.specs.Stream.{StreamEvent}
use Rattle.watch_core.specs.Event.{event_of}
use Rattle.watch_core.specs.Verdict.{IsVerdict}
use Rattle.windowed_watch.specs.Ahead.{events_of}
use Rattle.windowed_watch.proofs.Logs.{stepped, takable_next}
use Rattle.windowed_watch.proofs.steps.replay.Goals as goal

pub loop-event-init : goal.loop-event-init
loop-event-init c = record {
  taken = λ stream has. c.in_ok-copy.ensures.taken stream (events_of c.args.coming.now) has;
  kind = c.in_ok-copy.ensures.kind;
}

pub returns-in_err-step-clause-refused : goal.returns-in_err-step-clause-refused
returns-in_err-step-clause-refused c =
    let coming = c.args.coming.now in
    let p = err_from_is_err_and c.from_residual-in_err-step.result
    c.from_residual-in_err-step.ensures.1 in
    rw (p.1, p.2) (λ stream has takable.
    c.in_err-step.ensures.refused (stream ++ take c.loop-k.k (events_of coming))
    (drop c.loop-k.k (events_of coming)) (c.loop-k.invariant.taken stream has)
    (takable_next stream coming c.loop-k.k _ c.loop-k-test.true takable))

pub loop-k-preserved : goal.loop-k-preserved
loop-k-preserved c =
    let coming = c.args.coming.now in record {
      taken = λ stream has. stepped stream coming _ c.loop-k.k _ _ c.loop-k.copy c.step.new.watch
          c.loop-k-test.true refl (take_rest coming (c.loop-k.k + 1)) c.in_ok-step.ensures.taken
          (c.loop-k.invariant.taken stream has);
      kind = (
        c.step.ensures.kind.0 ∙ c.loop-k.invariant.kind.0,
        c.step.ensures.kind.1 ∙ c.loop-k.invariant.kind.1,
      );
    }

pub returns-clause-verdict : goal.returns-clause-verdict
returns-clause-verdict c stream has =
    let w = c.args.watch.now in
    let copy = c.loop-k.copy in
    let events = events_of c.args.coming.now in
    let k = c.loop-k.k in
    let said = c.verdict.result in
    let less : length events ≤ k =
    omega (arith, length-map c.args.coming.now event_of, c.loop-k-test.false) in
    subst (λ (l : List StreamEvent). IsVerdict w.kind w.limit (stream ++ l) [] said)
    (take_all k events less)
    (subst (λ (l : List StreamEvent). IsVerdict w.kind w.limit
    (stream ++ take k events) l said) (drop_all k events less)
    (subst (λ (n : ℕ). IsVerdict w.kind n (stream ++ take k events)
    (drop k events) said) c.loop-k.invariant.kind.1
    (subst (λ (t : Kind). IsVerdict t copy.limit (stream ++ take k events)
    (drop k events) said) c.loop-k.invariant.kind.0
    (c.verdict.ensures (stream ++ take k events) (drop k events)
    (c.loop-k.invariant.taken stream has)))))
