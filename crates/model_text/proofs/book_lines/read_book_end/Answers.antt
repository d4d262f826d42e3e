use Rattle.std.proofs.Common.{◌≡◌, [], true, sym, ◌∙◌, refl}
use Rattle.std.proofs.lemmas.Result.{err_from_is_err_and}
use Rattle.book_base.specs.declared.fault.What.TheVariants.{End}
use Rattle.text_fields.specs.Lines.{words_of}
use Rattle.text_fields.proofs.Sharp.{goes_line, stops_cut, stops_line, only_test}
use Rattle.model_text.specs.ModelBookRules.{InCalls, AtEnd}
use Rattle.model_text.specs.ModelRules.{InBook, StepsDue, model_rules}
use Rattle.model_text.proofs.book_lines.read_book_end.Goals as goal

pub returns-in_err-line-clause-refused : goal.returns-in_err-line-clause-refused
returns-in_err-line-clause-refused c =
    let p = err_from_is_err_and c.from_residual.result c.from_residual.ensures.1 in
    rw (p.1, p.2) (λ pages. stops_cut model_rules (InBook (InCalls pages []))
    c.args.lines.now c.in_err-line.field-0.0 refl c.in_err-line.ensures.cut.0)

pub returns-then-is_end-clause-found : goal.returns-then-is_end-clause-found
returns-then-is_end-clause-found c = λ pages.
    goes_line model_rules (InBook (InCalls pages [])) (StepsDue pages)
    c.args.lines.now c.line.new.self c.in_ok-line.field-0.now c.in_ok-line.ensures.line
    (AtEnd pages, (sym c.new-words.ensures ∙ c.is_end.ensures.0 c.if-is_end.true, refl), refl)

pub returns-else-is_end-clause-refused : goal.returns-else-is_end-clause-refused
returns-else-is_end-clause-refused c = λ pages.
    rw c.number-line.ensures (stops_line model_rules (InBook (InCalls pages []))
    c.args.lines.now c.line.new.self c.in_ok-line.field-0.now End refl c.in_ok-line.ensures.line
    (only_test (model_rules.Fails (InBook (InCalls pages []))
    (words_of c.in_ok-line.field-0.now)) End (
      refl,
      λ e. let is : c.is_end.result ≡ true = c.is_end.ensures.1 (c.new-words.ensures ∙ e) in
          absurd (cc (is, c.if-is_end.false)),
    ) (λ other h. h.0)))
