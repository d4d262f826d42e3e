use Rattle.std.proofs.Common.{◌≡◌, ◌∙◌, ◌+◌, ◌<◌, List, [], ◌∷◌, ◌++◌, Vec, Global, length, map, sym, ap, arith}
use Rattle.std.proofs.lemmas.List.{length-map, map_push}
use Rattle.book_base.specs.declared.call.Record.{Record}
use Rattle.book_base.specs.Book.{Page, answered}
use Rattle.book_base.proofs.ViewLemmas.{answered_at}
use Rattle.row_table.specs.Callers.{local_with}
use Rattle.row_gather.proofs.Peeking.{all_stay, alone_then}
use Rattle.row_gather.proofs.Reading.{lists_more}
use Rattle.row_gather.proofs.Ticking.{ticks_more}
use Rattle.row_gather.proofs.records.peek_records.Goals as goal

pub returns-in_err-peek_records_of-clause-peeks : goal.returns-in_err-peek_records_of-clause-peeks
returns-in_err-peek_records_of-clause-peeks g c = alone_then g.P.Program.meaning c.args.rows.now _ _
    _ _ _ _ c.loop-j.invariant.alone c.peek_records_of.ensures.peeks

pub returns-in_err-push-clause-peeks : goal.returns-in_err-push-clause-peeks
returns-in_err-push-clause-peeks g c = alone_then g.P.Program.meaning c.args.rows.now _ _ _ _ _ _
    c.loop-j.invariant.alone c.peek_records_of.ensures.peeks

pub loop-j-preserved : goal.loop-j-preserved
loop-j-preserved g c =
    let was = c.loop-j.invariant in
    let step = c.peek_records_of.ensures.peeks in
    let read = c.in_ok-peek_records_of in
    let n = c.args.rows.now.callers in
    let book = c.args.book.now in
    let cut = c.args.cut.now in
    let items : Vec Record Global → List Record = λ v. v.items in
    let more : map items c.push.new.self.items
    ≡ map items c.loop-j.lists.items ++ read.field-0.items ∷ []
    = ap (map items) c.in_ok-push.ensures.items
    ∙ map_push items c.loop-j.lists.items read.field-0 in
    let low : c.loop-j.j < length (answered book) = omega (
      arith,
      length-map book (λ (p : Page). length p.records),
      c.requires.callers,
      c.requires.wide,
      c.n-j-end.ensures.count,
    ) in
    record {
      alone = alone_then g.P.Program.meaning c.args.rows.now _ _ _ _ _ _ was.alone step;
      ticks = ticks_more (1 + n) c.args.steps.now c.loop-j.steps c.peek_records_of.new.steps
          (answered book) cut c.loop-j.j c.answers-from.result c.get-count.result low
          (omega (arith, c.n-j-end.ensures.count))
          (c.answers-from.ensures ∙ sym (answered_at book c.loop-j.j)) c.get-count.ensures was.ticks
          read.ensures.ticks;
      lists =
          lists_more n (local_with c.loop-j.caller) (local_with c.peek_records_of.new.caller) book
          cut c.loop-j.j c.answers-from.result c.get-count.result (map items c.loop-j.lists.items)
          (map items c.push.new.self.items) read.field-0.items
          (all_stay (local_with c.loop-j.caller)
          (local_with c.peek_records_of.new.caller) _ _ step.peeks) was.lists c.answers-from.ensures
          c.get-count.ensures read.ensures.records more;
    }
