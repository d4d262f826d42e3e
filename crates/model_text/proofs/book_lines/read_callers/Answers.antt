use Rattle.std.proofs.Common.{sym, ◌∙◌, refl}
use Rattle.std.proofs.lemmas.Result.{err_from_is_err_and}
use Rattle.book_base.specs.declared.fault.What.TheVariants.{Callers}
use Rattle.text_fields.specs.Lines.{words_of}
use Rattle.text_fields.proofs.Sharp.{goes_line, stops_cut, stops_line, only_test}
use Rattle.model_text.specs.ModelBookRules.{CallersDue, CountsDue}
use Rattle.model_text.specs.ModelRules.{InBook, model_rules}
use Rattle.model_text.proofs.book_lines.read_callers.Goals as goal

pub returns-in_err-line-clause-refused : goal.returns-in_err-line-clause-refused
returns-in_err-line-clause-refused c =
    let p = err_from_is_err_and c.from_residual.result c.from_residual.ensures.1 in
    rw (p.1, p.2) (stops_cut model_rules (InBook CallersDue) c.args.lines.now c.in_err-line.field-0.0 refl
    c.in_err-line.ensures.cut.0)

pub returns-in-Some-clause-found : goal.returns-in-Some-clause-found
returns-in-Some-clause-found c =
    goes_line model_rules (InBook CallersDue) (InBook (CountsDue c.in-Some.n)) c.args.lines.now c.line.new.self
    c.in_ok-line.field-0.now c.in_ok-line.ensures.line (
      CountsDue c.in-Some.n,
      (
        c.in-Some.n,
        c.in-Some.ensures.found.0,
        sym c.new-words.ensures ∙ c.in-Some.ensures.found.1,
        refl,
      ),
      refl,
    )

pub returns-in-None-clause-refused : goal.returns-in-None-clause-refused
returns-in-None-clause-refused c =
    rw c.number-line.ensures (stops_line model_rules (InBook CallersDue) c.args.lines.now c.line.new.self
    c.in_ok-line.field-0.now Callers refl c.in_ok-line.ensures.line
    (only_test (model_rules.Fails (InBook CallersDue) (words_of c.in_ok-line.field-0.now)) Callers
    (refl, λ n h e. c.in-None.ensures.none n h (c.new-words.ensures ∙ e)) (λ other h. h.0)))
