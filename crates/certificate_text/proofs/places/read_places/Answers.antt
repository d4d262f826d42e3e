use Rattle.std.proofs.Common.{[], ◌∷◌, ◌++◌, List, sym, subst, refl, inl, inr}
use Rattle.std.proofs.lemmas.Result.{err_from_is_err_and}
use Rattle.book_base.specs.declared.call.Place.{Place}
use Rattle.text_fields.specs.Faults.{GoesTo}
use Rattle.text_fields.proofs.Sharp.{goes_then, goes_line, stops_cut, stops_line, stops_later}
use Rattle.certificate_text.specs.CertificateRules.{InPlaces, AllRead, certificate_rules}
use Rattle.certificate_text.proofs.places.read_places.Goals as goal

pub returns-in_err-line-clause-refused : goal.returns-in_err-line-clause-refused
returns-in_err-line-clause-refused c =
    let p = err_from_is_err_and c.from_residual.result c.from_residual.ensures.1 in
    let l = c.loop-order in
    rw (p.1, p.2) (λ kind book.
    stops_later certificate_rules (InPlaces kind book []) (InPlaces kind book l.order.items)
    c.args.lines.now l.lines c.in_err-line.field-0.0 (l.invariant kind book)
    (stops_cut certificate_rules (InPlaces kind book l.order.items) l.lines c.in_err-line.field-0.0
    refl c.in_err-line.ensures.cut.0))

pub loop-order-preserved : goal.loop-order-preserved
loop-order-preserved c = λ kind book.
    let l = c.loop-order in
    let place : Place = c.in-Ok-Some.place in
    let found = rw c.in-Ok-Some.field-0-is at c.in-Ok-Some.ensures.found in
    let line = goes_line certificate_rules (InPlaces kind book l.order.items)
    (InPlaces kind book (l.order.items ++ place ∷ [])) l.lines c.line.new.self
    c.in_ok-line.field-0.now c.in_ok-line.ensures.line (inr (place, found, refl)) in
    let both = goes_then certificate_rules (InPlaces kind book [])
    (InPlaces kind book l.order.items) (InPlaces kind book (l.order.items ++ place ∷ []))
    c.args.lines.now l.lines c.line.new.self (l.invariant kind book) line in
    subst (λ (order : List Place). GoesTo certificate_rules (InPlaces kind book []) c.args.lines.now
    (InPlaces kind book order) c.line.new.self) (sym c.in_ok-push-in-Ok-Some.ensures.items) both

pub returns-in-Ok-None-clause-found : goal.returns-in-Ok-None-clause-found
returns-in-Ok-None-clause-found c = λ kind book.
    let l = c.loop-order in
    let found = rw c.in-Ok-None.field-0-is at c.in-Ok-None.ensures.found in
    let line = goes_line certificate_rules (InPlaces kind book l.order.items)
    (AllRead kind book l.order.items) l.lines c.line.new.self c.in_ok-line.field-0.now
    c.in_ok-line.ensures.line (inl (found, refl)) in
    goes_then certificate_rules (InPlaces kind book []) (InPlaces kind book l.order.items)
    (AllRead kind book l.order.items) c.args.lines.now l.lines c.line.new.self
    (l.invariant kind book) line

pub returns-in-Err-clause-refused : goal.returns-in-Err-clause-refused
returns-in-Err-clause-refused c = λ kind book.
    let l = c.loop-order in
    rw c.number-line.ensures (stops_later certificate_rules (InPlaces kind book [])
    (InPlaces kind book l.order.items) c.args.lines.now l.lines _ (l.invariant kind book)
    (stops_line certificate_rules (InPlaces kind book l.order.items) l.lines c.line.new.self
    c.in_ok-line.field-0.now c.in-Err.what refl c.in_ok-line.ensures.line c.in-Err.ensures.refused))
