use Rattle.std.proofs.Common.{◌<◌, ◌∙◌, List, refl, sym, ap, subst, arith}
use Rattle.book_base.specs.declared.call.Record.{Record}
use Rattle.book_base.specs.Book.{Page, answers_of, calls_of, with_answer}
use Rattle.book_base.proofs.PageLemmas.{caller_from_call}
use Rattle.smaller_book.specs.Part.{IsPart}
use Rattle.smaller_book.specs.Numbers.{numbers_in}
use Rattle.smaller_book.proofs.Building.{OnOk_then, answers_of-with_answer, answers_of-with_answer_other, due, may_answer, part-with_answer}
use Rattle.smaller_book.proofs.numbered.put_answer.Goals as goal

pub put_answer-requires-clause-may : goal.put_answer-requires-clause-may
put_answer-requires-clause-may c =
    let book = c.args.book.now in
    let names = numbers_in c.args.numbers.now in
    let part = c.args.part.now in
    let i = c.args.caller in
    let whole : Record = c.record-record.result in
    let answer : Record = record { reply = whole.reply; view = c.renumbered-view.result } in
    may_answer book names part i whole answer c.callers-callers.ensures.valid c.requires.part
    c.requires.inside
    (due book names part i c.args.number whole c.requires.here c.record-record.ensures.record)
    (record { reply = refl; view = c.renumbered-view.ensures.counts })

pub returns-clause-part : goal.returns-clause-part
returns-clause-part c =
    let book = c.args.book.now in
    let names = numbers_in c.args.numbers.now in
    let part = c.args.part.now in
    let i = c.args.caller in
    let whole : Record = c.record-record.result in
    let answer : Record = record { reply = whole.reply; view = c.renumbered-view.result } in
    let room : answers_of part i < calls_of part i =
    omega (arith, c.requires.inside, c.requires.part.calls i) in
    let new : IsPart book names (with_answer part i answer)
    = part-with_answer book names part i whole answer c.requires.part
    (caller_from_call part i (answers_of part i) room) room
    (due book names part i c.args.number whole c.requires.here c.record-record.ensures.record)
    (record { reply = refl; view = c.renumbered-view.ensures.counts }) in
    OnOk_then c.put_answer.result c.put_answer.ensures.ok
    (λ same. subst (IsPart book names) (sym same) new)

pub returns-clause-answers : goal.returns-clause-answers
returns-clause-answers c =
    let part = c.args.part.now in
    let i = c.args.caller in
    let answer : Record =
    record { reply = c.record-record.result.reply; view = c.renumbered-view.result } in
    let room : answers_of part i < calls_of part i =
    omega (arith, c.requires.inside, c.requires.part.calls i) in
    OnOk_then c.put_answer.result c.put_answer.ensures.ok (λ same.
    ap (λ (b : List Page). answers_of b i) same
    ∙ answers_of-with_answer part i answer (caller_from_call part i (answers_of part i) room))

pub returns-clause-others : goal.returns-clause-others
returns-clause-others c =
    let part = c.args.part.now in
    let i = c.args.caller in
    let answer : Record =
    record { reply = c.record-record.result.reply; view = c.renumbered-view.result } in
    OnOk_then c.put_answer.result c.put_answer.ensures.ok (λ same j other.
    ap (λ (b : List Page). answers_of b j) same
    ∙ answers_of-with_answer_other part i answer j other)
