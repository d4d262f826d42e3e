use Rattle.std.proofs.Common.{◌≡◌, [], true, sym, ◌∙◌, refl}
use Rattle.std.proofs.lemmas.Result.{err_from_is_err_and}
use Rattle.book_base.specs.declared.fault.What.TheVariants.{Head}
use Rattle.text_fields.specs.Lines.{words_of}
use Rattle.text_fields.proofs.Sharp.{goes_line, stops_cut, stops_line, only_test}
use Rattle.refutation_text.specs.RefutationRules.{InSteps, StepsDue, InBody, refutation_rules}
use Rattle.refutation_text.proofs.body.read_title.Goals as goal

pub returns-in_err-line-clause-refused : goal.returns-in_err-line-clause-refused
returns-in_err-line-clause-refused c =
    let p = err_from_is_err_and c.from_residual.result c.from_residual.ensures.1 in
    rw (p.1, p.2) (λ kind book. stops_cut refutation_rules
    (StepsDue kind book) c.args.lines.now c.in_err-line.field-0.0 refl c.in_err-line.ensures.cut.0)

pub returns-then-are_words-clause-found : goal.returns-then-are_words-clause-found
returns-then-are_words-clause-found c = λ kind book.
    goes_line refutation_rules (StepsDue kind book) (InBody kind book (InSteps []))
    c.args.lines.now c.line.new.self c.in_ok-line.field-0.now c.in_ok-line.ensures.line
    (sym c.new-words.ensures ∙ c.are_words.ensures.0 c.if-are_words.true, refl)

pub returns-else-are_words-clause-refused : goal.returns-else-are_words-clause-refused
returns-else-are_words-clause-refused c = λ kind book.
    rw c.number-line.ensures (stops_line refutation_rules (StepsDue kind book) c.args.lines.now
    c.line.new.self c.in_ok-line.field-0.now Head refl c.in_ok-line.ensures.line
    (only_test
    (refutation_rules.Fails (StepsDue kind book) (words_of c.in_ok-line.field-0.now)) Head (
      refl,
      λ e. let is : c.are_words.result ≡ true = c.are_words.ensures.1 (c.new-words.ensures ∙ e) in
          absurd (cc (is, c.if-are_words.false)),
    ) (λ other h. h.0)))
