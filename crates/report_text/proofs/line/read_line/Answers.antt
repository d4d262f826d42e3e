use Rattle.std.proofs.Common.{◌≡◌, ◌<◌, List, length, ap, ◌∙◌, refl, arith, ◌∷◌}
use Rattle.std.proofs.lemmas.Result.{err_from_is_err_and}
use Rattle.book_base.specs.Book.{Page, calls_of, answers_of}
use Rattle.book_base.proofs.PageLemmas.{caller_from_call}
use Rattle.text_fields.proofs.Sharp.{stops_cut}
use Rattle.book_text.proofs.CallTexts.{calls_of-with_line, answers_of-with_line_own}
use Rattle.report_text.specs.ReportRules.{InLines, report_rules}
use Rattle.report_text.specs.Parts.{answer_in}
use Rattle.report_text.proofs.Pushing.{length-book_so_far}
use Rattle.report_text.proofs.LineSteps.{words_stop, misfit_stop, line_read}
use Rattle.report_text.proofs.line.read_line.Goals as goal

pub returns-in_err-text-clause-refused : goal.returns-in_err-text-clause-refused
returns-in_err-text-clause-refused c =
    let p = err_from_is_err_and c.from_residual.result c.from_residual.ensures.1 in
    rw (p.1, p.2)
    (λ counts told more draft stand. stops_cut report_rules (InLines c.args.kind counts told
    (c.args.call ∷ more)) c.args.lines.now c.in_err-text.field-0.0 refl c.in_err-text.ensures.cut.0)

pub returns-in_err-line-clause-refused : goal.returns-in_err-line-clause-refused
returns-in_err-line-clause-refused c =
    let p =
    err_from_is_err_and c.from_residual-in_err-line.result c.from_residual-in_err-line.ensures.1 in
    rw (p.1, p.2) (λ counts told more draft stand.
    words_stop c.args.kind counts told c.args.call more c.args.lines.now c.line.new.self
    c.in_ok-text.text.now c.in_ok-text.ensures.line c.args.draft.now draft c.number-number.result
    c.in_err-line.field-0.0 c.number-number.ensures c.in_err-line.ensures.refused)

pub returns-in-Some-clause-refused : goal.returns-in-Some-clause-refused
returns-in-Some-clause-refused c = λ counts told more draft stand.
    let size : length c.args.draft.now.book ≡ length counts =
    ap (length {A = Page}) draft.book ∙ length-book_so_far counts told in
    misfit_stop c.args.kind counts told c.args.call more c.args.lines.now c.line.new.self
    c.in_ok-text.text.now c.in_ok-text.ensures.line c.args.draft.now draft c.in_ok-line.line
    c.in_ok-line.ensures.found c.in_ok-line.ensures.may size
    c.number-number.result c.calls-count.result c.in-Some.what c.number-number.ensures
    c.calls-count.ensures c.in-Some.ensures.misfit

pub returns-clause-found : goal.returns-clause-found
returns-clause-found c = λ counts told more draft stand.
    let size : length c.args.draft.now.book ≡ length counts =
    ap (length {A = Page}) draft.book ∙ length-book_so_far counts told in
    let lt : c.args.call.number < c.calls-count.result =
    omega (arith, c.requires.call, c.calls-count.ensures) in
    line_read c.args.kind counts told c.args.call more c.args.lines.now c.line.new.self
    c.in_ok-text.text.now c.in_ok-text.ensures.line c.args.draft.now draft c.in_ok-line.line
    c.in_ok-line.ensures.found c.in_ok-line.ensures.may size
    c.note.new.self c.calls-count.result stand lt c.calls-count.ensures c.in_default.ensures.fits
    (c.note.ensures.book ∙ c.in_ok-line.ensures.book) c.note.ensures.limits c.note.ensures.seen

pub returns-clause-calls : goal.returns-clause-calls
returns-clause-calls c = λ j.
    ap (λ (b : List Page). calls_of b j) (c.note.ensures.book ∙ c.in_ok-line.ensures.book)
    ∙ calls_of-with_line c.args.draft.now.book c.args.call c.in_ok-line.line.op
    (answer_in c.in_ok-line.line.end) j
    (caller_from_call c.args.draft.now.book c.args.call.caller c.args.call.number c.requires.call)

pub returns-clause-own : goal.returns-clause-own
returns-clause-own c =
    omega (
      arith,
      ap (λ (b : List Page). answers_of b c.args.call.caller)
          (c.note.ensures.book ∙ c.in_ok-line.ensures.book),
      c.requires.unanswered,
      answers_of-with_line_own c.args.draft.now.book c.args.call c.in_ok-line.line.op
          (answer_in c.in_ok-line.line.end) (caller_from_call c.args.draft.now.book
          c.args.call.caller c.args.call.number c.requires.call),
    )
