use Rattle.std.proofs.Common.{◌∙◌, ℕ, subst, ap}
use Rattle.std.proofs.lemmas.Option.{IfSome_then}
use Rattle.std.proofs.lemmas.Result.{err_from_is_err_and}
use Rattle.seq_objects.specs.declared.kind.Kind.{Kind}
use Rattle.watch_core.specs.Watch.{Watched}
use Rattle.windowed_watch.specs.Ahead.{IsFinal}
use Rattle.windowed_watch.proofs.lookahead.Lookahead.let_go.Goals as goal

pub returns-in_err-advance-clause-running : goal.returns-in_err-advance-clause-running
returns-in_err-advance-clause-running c stream runs =
    c.advance.ensures.running stream (c.loop-self.invariant.running stream runs)

pub returns-in_err-advance-clause-refused : goal.returns-in_err-advance-clause-refused
returns-in_err-advance-clause-refused c =
    let p = err_from_is_err_and c.from_residual-in_err-advance.result
    c.from_residual-in_err-advance.ensures.1 in
    rw (p.1, p.2) (λ stream runs takable. c.in_err-advance.ensures.refused stream
    (c.loop-self.invariant.running stream runs) takable)

pub returns-in_err-found-2-clause-running : goal.returns-in_err-found-2-clause-running
returns-in_err-found-2-clause-running c stream runs =
    c.settle-in-loop-self.ensures.running stream
    (c.advance.ensures.running stream (c.loop-self.invariant.running stream runs))

pub returns-in_err-found-2-clause-refused : goal.returns-in_err-found-2-clause-refused
returns-in_err-found-2-clause-refused c =
    let p = err_from_is_err_and c.from_residual-in_err-found-2.result
    c.from_residual-in_err-found-2.ensures.1 in
    rw (p.1, p.2) (λ stream runs takable. c.in_err-found-2.ensures.refused stream
    (c.advance.ensures.running stream (c.loop-self.invariant.running stream runs)) takable)

pub loop-self-preserved : goal.loop-self-preserved
loop-self-preserved c =
    let kind = c.advance.ensures.kind.0 ∙ c.loop-self.invariant.kind.0 in
    let limit = c.advance.ensures.kind.1 ∙ c.loop-self.invariant.kind.1 in record {
      within = c.settle-in-loop-self.ensures.within;
      count = c.settle-in-loop-self.ensures.count;
      running = λ stream runs. c.settle-in-loop-self.ensures.running stream
          (c.advance.ensures.running stream (c.loop-self.invariant.running stream runs));
      last = IfSome_then c.in_ok-found-2.found c.in_ok-found-2.ensures.last
          (λ verdict final stream runs count.
          subst (λ (n : ℕ). IsFinal c.args.self.now.watch.kind n stream verdict) limit
          (subst (λ (k : Kind). IsFinal k c.advance.new.self.watch.limit stream verdict)
          kind (final stream
          (c.advance.ensures.running stream (c.loop-self.invariant.running stream runs)) count)));
      legal = c.in_ok-found-2.ensures.legal;
      kind = (
        ap (λ (w : Watched). w.kind) c.settle-in-loop-self.ensures.watch ∙ kind,
        ap (λ (w : Watched). w.limit) c.settle-in-loop-self.ensures.watch ∙ limit,
      );
    }
