use Rattle.std.proofs.Common.{[], subst}
use Rattle.std.proofs.lemmas.Result.{err_from_is_err_and}
use Rattle.text_fields.specs.Lines.{Unread}
use Rattle.text_fields.specs.Faults.{GoesTo, StopsFor}
use Rattle.text_fields.specs.Head.{TitleDue}
use Rattle.text_fields.proofs.Sharp.{goes_then, stops_later}
use Rattle.text_fields.proofs.Within.{goes_within, stops_within}
use Rattle.book_text.specs.BookRules.{InHead, AtEnd, whole_text}
use Rattle.book_text.proofs.CallTexts.{stops_then}
use Rattle.refutation_text.specs.Said.{steps_said, ending_said}
use Rattle.refutation_text.specs.RefutationRules.{InSteps, BodyRead, StepsDue, InBody, nothing_read, refutation_rules}
use Rattle.refutation_text.proofs.Parts.{book_within, body_within}
use Rattle.refutation_text.proofs.reader.read_refutation.Goals as goal

pub returns-in_err-kind-clause-refused : goal.returns-in_err-kind-clause-refused
returns-in_err-kind-clause-refused c =
    let p = err_from_is_err_and c.from_residual.result c.from_residual.ensures.1 in
    rw (p.1, p.2)
    (subst (λ (t : Unread). StopsFor refutation_rules nothing_read t c.in_err-kind.field-0.0)
    c.new-lines.ensures (stops_within book_within (InHead TitleDue) _ c.in_err-kind.field-0.0
    c.in_err-kind.ensures.refused))

pub returns-in_err-read_title-clause-refused : goal.returns-in_err-read_title-clause-refused
returns-in_err-read_title-clause-refused c =
    let p = err_from_is_err_and c.from_residual-in_err-read_title.result
    c.from_residual-in_err-read_title.ensures.1 in
    let kind = c.in_ok-kind.kind in
    let book = c.in_ok-kind.book in
    let text : Unread = whole_text c.args.bytes.now in
    let prefix = subst (λ (t : Unread). GoesTo refutation_rules nothing_read t
    (StepsDue kind book) c.read_book_lines.new.lines) c.new-lines.ensures
    (goes_within book_within (InHead TitleDue) (AtEnd kind book) _ _ c.in_ok-kind.ensures.found) in
    rw (p.1, p.2) (stops_later refutation_rules nothing_read (StepsDue kind book) text
    c.read_book_lines.new.lines c.in_err-read_title.field-0.0 prefix
    (c.in_err-read_title.ensures.refused kind book))

pub returns-in_err-steps-clause-refused : goal.returns-in_err-steps-clause-refused
returns-in_err-steps-clause-refused c =
    let p = err_from_is_err_and c.from_residual-in_err-steps.result
    c.from_residual-in_err-steps.ensures.1 in
    let kind = c.in_ok-kind.kind in
    let book = c.in_ok-kind.book in
    let text : Unread = whole_text c.args.bytes.now in
    let prefix = subst (λ (t : Unread). GoesTo refutation_rules nothing_read t
    (StepsDue kind book) c.read_book_lines.new.lines) c.new-lines.ensures
    (goes_within book_within (InHead TitleDue) (AtEnd kind book) _ _ c.in_ok-kind.ensures.found) in
    let titled = goes_then refutation_rules nothing_read (StepsDue kind book)
    (InBody kind book (InSteps [])) text c.read_book_lines.new.lines c.read_title.new.lines prefix
    (c.in_ok-read_title.ensures.found kind book) in
    rw (p.1, p.2) (stops_then refutation_rules nothing_read (InBody kind book (InSteps [])) text
    c.read_title.new.lines c.in_err-steps.field-0.0 titled
    (stops_within (body_within kind book) (InSteps []) c.read_title.new.lines
    c.in_err-steps.field-0.0 c.in_err-steps.ensures.refused))

pub returns-in_err-no_more-clause-refused : goal.returns-in_err-no_more-clause-refused
returns-in_err-no_more-clause-refused c =
    let p = err_from_is_err_and c.from_residual-in_err-no_more.result
    c.from_residual-in_err-no_more.ensures.1 in
    let kind = c.in_ok-kind.kind in
    let book = c.in_ok-kind.book in
    let steps = steps_said c.in_ok-steps.steps.items in
    let ending = ending_said c.in_ok-steps.ending in
    let text : Unread = whole_text c.args.bytes.now in
    let prefix = subst (λ (t : Unread). GoesTo refutation_rules nothing_read t
    (StepsDue kind book) c.read_book_lines.new.lines) c.new-lines.ensures
    (goes_within book_within (InHead TitleDue) (AtEnd kind book) _ _ c.in_ok-kind.ensures.found) in
    let titled = goes_then refutation_rules nothing_read (StepsDue kind book)
    (InBody kind book (InSteps [])) text c.read_book_lines.new.lines c.read_title.new.lines prefix
    (c.in_ok-read_title.ensures.found kind book) in
    let all = goes_then refutation_rules nothing_read (InBody kind book (InSteps []))
    (InBody kind book (BodyRead steps ending)) text c.read_title.new.lines c.read_body.new.lines
    titled (goes_within (body_within kind book) (InSteps []) (BodyRead steps ending)
    c.read_title.new.lines c.read_body.new.lines c.in_ok-steps.ensures.found) in
    rw (p.1, p.2) (stops_later refutation_rules nothing_read
    (InBody kind book (BodyRead steps ending)) text c.read_body.new.lines
    c.in_err-no_more.field-0.0 all (c.in_err-no_more.ensures.refused kind book steps ending))

pub returns-clause-found : goal.returns-clause-found
returns-clause-found c =
    let kind = c.in_ok-kind.kind in
    let book = c.in_ok-kind.book in
    let steps = steps_said c.in_ok-steps.steps.items in
    let ending = ending_said c.in_ok-steps.ending in
    let text : Unread = whole_text c.args.bytes.now in
    let prefix = subst (λ (t : Unread). GoesTo refutation_rules nothing_read t
    (StepsDue kind book) c.read_book_lines.new.lines) c.new-lines.ensures
    (goes_within book_within (InHead TitleDue) (AtEnd kind book) _ _ c.in_ok-kind.ensures.found) in
    let titled = goes_then refutation_rules nothing_read (StepsDue kind book)
    (InBody kind book (InSteps [])) text c.read_book_lines.new.lines c.read_title.new.lines prefix
    (c.in_ok-read_title.ensures.found kind book) in
    let all = goes_then refutation_rules nothing_read (InBody kind book (InSteps []))
    (InBody kind book (BodyRead steps ending)) text c.read_title.new.lines c.read_body.new.lines
    titled (goes_within (body_within kind book) (InSteps []) (BodyRead steps ending)
    c.read_title.new.lines c.read_body.new.lines c.in_ok-steps.ensures.found) in
    (c.read_body.new.lines, record { goes = all; through = c.in_ok-no_more.ensures.whole })
