use Rattle.std.proofs.Common.{List, ap, ◌∙◌, arith}
use Rattle.row_gather.proofs.Filling.{with_records_none, with_records_more, may_next, wide_next}
use Rattle.book_base.specs.Book.{Page, with_answer}
use Rattle.row_gather.proofs.answers.add_answers_of.Goals as goal

pub loop-answer-init : goal.loop-answer-init
loop-answer-init c = with_records_none c.args.book.now c.args.j c.args.records.now

pub put_answer-requires-clause-wide : goal.put_answer-requires-clause-wide
put_answer-requires-clause-wide c =
    wide_next c.args.book.now c.loop-answer.book c.args.j c.loop-answer.answer-index
    c.args.records.now c.answer-item.result c.loop-answer.invariant c.requires.caller
    (omega arith) c.answer-item.is
    c.requires.valid

pub put_answer-requires-clause-may : goal.put_answer-requires-clause-may
put_answer-requires-clause-may c =
    may_next c.args.book.now c.loop-answer.book c.args.j c.loop-answer.answer-index
    c.args.records.now c.answer-item.result c.loop-answer.invariant c.requires.caller
    (omega arith) c.answer-item.is
    c.requires.valid

pub loop-answer-preserved : goal.loop-answer-preserved
loop-answer-preserved c =
    c.in_ok-put_answer.ensures.ok
    ∙ ap (λ (b : List Page). with_answer b c.args.j c.answer-item.result) c.loop-answer.invariant
    ∙ with_records_more c.args.book.now c.args.j c.loop-answer.answer-index c.args.records.now
    c.answer-item.result c.requires.caller (omega arith) c.answer-item.is
