use Rattle.std.proofs.Common.{◌≡◌, ◌++◌, List, ℕ, Some, None, subst, take}
use Rattle.watch.specs.declared.ending.Ending.TheVariants as endings
use Rattle.watch.proofs.Advancing.{StepsOn, StepsTo, writes_on, writes_to, writes_part, goes_where, ends_where}
use Rattle.watch.proofs.watched_source.advance.Goals as goal

pub returns-in-None-clause-goes_on : goal.returns-in-None-clause-goes_on
returns-in-None-clause-goes_on g c =
    let n = c.in-Ok.ensures.next in
    let a = c.args.watching.now in
    let b = c.step.new.self in
    let taken = g.K.Sink.taken c.args.sink.now in
    let taken' = g.K.Sink.taken c.write_out.new.sink in
    goes_where c.write_out.result b.out.items c.write_out.new.watching.out.items taken taken' _
    c.write_out.ensures.written
    (λ none writes asked before due said output h empty.
    let w = writes_on asked a b c.write_out.new.watching c.in-Ok.next c.next.new.self
    (c.args.lines.now.bytes ++ n.0) taken taken' n.2
    (subst (StepsOn asked a b c.in-Ok.next) c.line.ensures (c.in-None.ensures.goes_on asked))
    c.write_out.ensures.same none writes before due said output h empty in
    (n.0, w.0, w.1, w.2, w.3, n.1, w.4, w.5, w.6, w.7, w.8))

pub returns-in-None-clause-ends : goal.returns-in-None-clause-ends
returns-in-None-clause-ends g c =
    let n = c.in-Ok.ensures.next in
    let a = c.args.watching.now in
    let b = c.step.new.self in
    let taken = g.K.Sink.taken c.args.sink.now in
    let taken' = g.K.Sink.taken c.write_out.new.sink in
    ends_where None c.write_out.result b.out.items c.write_out.new.watching.out.items taken taken' _
    c.write_out.ensures.written (λ x is writes. absurd cc)
    (λ part asked before due said output h empty. (
      n.0,
      take part.0 b.out.items,
      n.1,
      part.2,
      writes_part asked a b c.in-Ok.next c.next.new.self (c.args.lines.now.bytes ++ n.0)
          (g.S.Source.left c.next.new.source) None part.0 n.2 c.in-Ok.ensures.end
          (subst (StepsOn asked a b c.in-Ok.next) c.line.ensures (c.in-None.ensures.goes_on asked)) tt
          (λ e. absurd cc) before due said output h empty,
    ))

pub returns-else-is_no_memory-clause-ends : goal.returns-else-is_no_memory-clause-ends
returns-else-is_no_memory-clause-ends g c =
    let n = c.in-Ok.ensures.next in
    let a = c.args.watching.now in
    let b = c.step.new.self in
    let taken = g.K.Sink.taken c.args.sink.now in
    let taken' = g.K.Sink.taken c.write_out-in-Some.new.sink in
    let ended = c.in-Some.ending in
    let ok = c.is_no_memory.ensures c.if-is_no_memory.false in
    ends_where (Some ended) c.write_out-in-Some.result b.out.items c.write_out-in-Some.new.watching.out.items taken
    taken' _ c.write_out-in-Some.ensures.written
    (λ x is writes asked before due said output h empty.
    let same : ended ≡ x = cc in (
      n.0,
      b.out.items,
      n.1,
      writes,
      writes_to asked a b c.in-Ok.next c.next.new.self (c.args.lines.now.bytes ++ n.0)
          (g.S.Source.left c.next.new.source) x n.2 c.in-Ok.ensures.end
          (subst (StepsTo asked a b c.in-Ok.next c.next.new.self.line) same
          (subst (λ (l : List ℕ). StepsTo asked a b c.in-Ok.next l ended) c.line.ensures
          (c.in-Some.ensures.ends asked)))
          (λ e. ok (let is : ended ≡ endings.NoMemory = cc in is)) before due said output h empty,
    ))
    (λ part asked before due said output h empty. (
      n.0,
      take part.0 b.out.items,
      n.1,
      part.2,
      writes_part asked a b c.in-Ok.next c.next.new.self (c.args.lines.now.bytes ++ n.0)
          (g.S.Source.left c.next.new.source) (Some ended) part.0 n.2 c.in-Ok.ensures.end tt
          (subst (λ (l : List ℕ). StepsTo asked a b c.in-Ok.next l ended) c.line.ensures
          (c.in-Some.ensures.ends asked))
          (λ e. ok (let is : ended ≡ endings.NoMemory = cc in is)) before due said output h empty,
    ))
