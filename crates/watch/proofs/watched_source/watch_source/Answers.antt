use Rattle.std.proofs.Common.{ap}
use Rattle.watch.proofs.Running.{runs_first, runs_nothing, runs_on, runs_to}
use Rattle.watch.proofs.watched_source.watch_source.Goals as goal

pub returns-in_default : goal.returns-in_default
returns-in_default g c = record {
  run = runs_nothing c.args.settings (g.S.Source.left c.args.source.now)
      (g.K.Sink.taken c.args.sink.now);
}

pub loop-init : goal.loop-init
loop-init g c =
    runs_first c.args.settings c.new-watching.result (g.S.Source.left c.args.source.now)
    (g.K.Sink.taken c.args.sink.now) c.in-Ok.lines.bytes (ap (λ h. h.bytes) c.in-Ok.ensures)
    c.new-watching.ensures.out c.new-watching.ensures.holds

pub returns-in-Some : goal.returns-in-Some
returns-in-Some g c = record {
  run =
      let r = c.loop.invariant in
      let last = c.in-Some.ensures.ends c.args.settings r.lines r.due r.said r.output r.holds r.none in
      runs_to c.args.settings c.loop.watching (g.S.Source.left c.args.source.now)
      (g.S.Source.left c.loop.source) (g.S.Source.left c.advance.new.source)
      (g.K.Sink.taken c.args.sink.now) (g.K.Sink.taken c.loop.sink)
      (g.K.Sink.taken c.advance.new.sink) c.loop.lines.bytes r last.0 last.1 c.in-Some.ending last.2
      last.3 last.4;
}

pub loop-preserved : goal.loop-preserved
loop-preserved g c =
    let r = c.loop.invariant in
    let l = c.in_default-advance.ensures.goes_on c.args.settings r.lines r.due r.said r.output
    r.holds r.none in
    runs_on c.args.settings c.loop.watching c.advance.new.watching
    (g.S.Source.left c.args.source.now) (g.S.Source.left c.loop.source)
    (g.S.Source.left c.advance.new.source) (g.K.Sink.taken c.args.sink.now)
    (g.K.Sink.taken c.loop.sink) (g.K.Sink.taken c.advance.new.sink) c.loop.lines.bytes
    c.advance.new.lines.bytes r l.0 l.1 l.2 l.3 l.4 l.5 l.6 l.7 l.8 l.9 l.10
