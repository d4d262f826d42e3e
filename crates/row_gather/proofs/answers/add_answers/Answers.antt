use Rattle.std.proofs.Common.{◌<◌, ◌∙◌, List, Vec, Global, length, map, sym, arith}
use Rattle.std.proofs.lemmas.List.{length-map}
use Rattle.book_base.specs.declared.call.Record.{Record}
use Rattle.row_gather.proofs.Counting.{records_at-map}
use Rattle.row_gather.proofs.Filling.{valid_next}
use Rattle.row_gather.proofs.answers.add_answers.Goals as goal

pub add_answers_of-requires-clause-valid : goal.add_answers_of-requires-clause-valid
add_answers_of-requires-clause-valid c =
    let items : Vec Record Global → List Record = λ v. v.items in
    let lists = c.args.lists.now in
    let low : c.loop-j.j < length c.args.book.now = omega (arith, c.callers-j-end.ensures.count) in
    let at = records_at-map items lists c.loop-j.j c.index-lists-j.result
    (omega (arith, low, c.requires.callers)) c.index-lists-j.is in
    valid_next c.args.book.now c.loop-j.book
    (map items lists) c.loop-j.j c.deref.result.now c.loop-j.invariant
    (length-map lists items ∙ c.requires.callers) low (at ∙ sym c.deref.ensures.value)
    c.requires.valid
