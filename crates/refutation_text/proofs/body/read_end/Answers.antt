use Rattle.std.proofs.Common.{◌≡◌, true, sym, ◌∙◌, refl}
use Rattle.std.proofs.lemmas.Result.{err_from_is_err_and}
use Rattle.book_base.specs.declared.fault.What.TheVariants.{End}
use Rattle.text_fields.specs.Lines.{words_of}
use Rattle.text_fields.proofs.Sharp.{goes_line, stops_cut, stops_line}
use Rattle.refutation_text.specs.Said.{EndLine}
use Rattle.refutation_text.specs.RefutationRules.{EndDue, BodyRead, body_rules}
use Rattle.refutation_text.proofs.Parts.{no_end}
use Rattle.refutation_text.proofs.body.read_end.Goals as goal

pub returns-in_err-line-clause-refused : goal.returns-in_err-line-clause-refused
returns-in_err-line-clause-refused c =
    let p = err_from_is_err_and c.from_residual.result c.from_residual.ensures.1 in
    rw (p.1, p.2) (λ steps ending. stops_cut body_rules (EndDue steps ending) c.args.lines.now
    c.in_err-line.field-0.0 refl c.in_err-line.ensures.cut.0)

pub returns-then-is_end-clause-found : goal.returns-then-is_end-clause-found
returns-then-is_end-clause-found c = λ steps ending.
    goes_line body_rules (EndDue steps ending) (BodyRead steps ending) c.args.lines.now
    c.line.new.self c.in_ok-line.field-0.now c.in_ok-line.ensures.line (
      EndLine,
      record {
        may = tt;
        text = sym c.new-words.ensures ∙ c.is_end.ensures.0 c.if-is_end.true;
      },
      refl,
    )

pub returns-else-is_end-clause-refused : goal.returns-else-is_end-clause-refused
returns-else-is_end-clause-refused c = λ steps ending.
    rw c.number-line.ensures (stops_line body_rules (EndDue steps ending) c.args.lines.now
    c.line.new.self c.in_ok-line.field-0.now End refl c.in_ok-line.ensures.line
    (no_end steps ending (words_of c.in_ok-line.field-0.now) (λ e.
    let is : c.is_end.result ≡ true = c.is_end.ensures.1 (c.new-words.ensures ∙ e) in
    absurd (cc (is, c.if-is_end.false)))))
