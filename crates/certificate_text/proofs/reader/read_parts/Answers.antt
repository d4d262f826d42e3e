use Rattle.std.proofs.Common.{[], subst}
use Rattle.std.proofs.lemmas.Result.{err_from_is_err_and}
use Rattle.text_fields.specs.Lines.{Unread}
use Rattle.text_fields.proofs.Sharp.{goes_then, stops_later}
use Rattle.text_fields.specs.Head.{TitleDue}
use Rattle.text_fields.proofs.Within.{goes_within, stops_within}
use Rattle.book_text.specs.BookRules.{InHead, AtEnd, whole_text}
use Rattle.book_text.proofs.CallTexts.{stops_then}
use Rattle.certificate_text.specs.CertificateRules.{OrderDue, InPlaces, AllRead, nothing_read, certificate_rules}
use Rattle.certificate_text.specs.Reading.{Goes, Stops}
use Rattle.certificate_text.proofs.BookParts.{book_within}
use Rattle.certificate_text.proofs.reader.read_parts.Goals as goal

pub returns-in_err-kind-clause-refused : goal.returns-in_err-kind-clause-refused
returns-in_err-kind-clause-refused c =
    let p = err_from_is_err_and c.from_residual.result c.from_residual.ensures.1 in
    rw (p.1, p.2) (subst (λ (t : Unread). Stops nothing_read t c.in_err-kind.field-0.0)
    c.new-lines.ensures (stops_within book_within (InHead TitleDue) _ c.in_err-kind.field-0.0
    c.in_err-kind.ensures.refused))

pub returns-in_err-read_title-clause-refused : goal.returns-in_err-read_title-clause-refused
returns-in_err-read_title-clause-refused c =
    let p = err_from_is_err_and c.from_residual-in_err-read_title.result
    c.from_residual-in_err-read_title.ensures.1 in
    let kind = c.in_ok-kind.kind in
    let book = c.in_ok-kind.book in
    let text : Unread = whole_text c.args.bytes.now in
    let prefix =
    subst (λ (t : Unread). Goes nothing_read t (OrderDue kind book) c.read_book_lines.new.lines)
    c.new-lines.ensures (goes_within book_within (InHead TitleDue) (AtEnd kind book) _ _
    c.in_ok-kind.ensures.found) in
    rw (p.1, p.2) (stops_later certificate_rules nothing_read
    (OrderDue kind book) text c.read_book_lines.new.lines c.in_err-read_title.field-0.0 prefix
    (c.in_err-read_title.ensures.refused kind book))

pub returns-in_err-order-clause-refused : goal.returns-in_err-order-clause-refused
returns-in_err-order-clause-refused c =
    let p = err_from_is_err_and c.from_residual-in_err-order.result
    c.from_residual-in_err-order.ensures.1 in
    let kind = c.in_ok-kind.kind in
    let book = c.in_ok-kind.book in
    let text : Unread = whole_text c.args.bytes.now in
    let prefix =
    subst (λ (t : Unread). Goes nothing_read t (OrderDue kind book) c.read_book_lines.new.lines)
    c.new-lines.ensures (goes_within book_within (InHead TitleDue) (AtEnd kind book) _ _
    c.in_ok-kind.ensures.found) in
    let titled = goes_then certificate_rules nothing_read (OrderDue kind book)
    (InPlaces kind book []) text c.read_book_lines.new.lines c.read_title.new.lines prefix
    (c.in_ok-read_title.ensures.found kind book) in
    rw (p.1, p.2)
    (stops_then certificate_rules nothing_read (InPlaces kind book []) text c.read_title.new.lines
    c.in_err-order.field-0.0 titled (c.in_err-order.ensures.refused kind book))

pub returns-in_err-no_more-clause-refused : goal.returns-in_err-no_more-clause-refused
returns-in_err-no_more-clause-refused c =
    let p = err_from_is_err_and c.from_residual-in_err-no_more.result
    c.from_residual-in_err-no_more.ensures.1 in
    let kind = c.in_ok-kind.kind in
    let book = c.in_ok-kind.book in
    let order = c.in_ok-order.order.items in
    let text : Unread = whole_text c.args.bytes.now in
    let prefix =
    subst (λ (t : Unread). Goes nothing_read t (OrderDue kind book) c.read_book_lines.new.lines)
    c.new-lines.ensures (goes_within book_within (InHead TitleDue) (AtEnd kind book) _ _
    c.in_ok-kind.ensures.found) in
    let titled = goes_then certificate_rules nothing_read (OrderDue kind book)
    (InPlaces kind book []) text c.read_book_lines.new.lines c.read_title.new.lines prefix
    (c.in_ok-read_title.ensures.found kind book) in
    let all =
    goes_then certificate_rules nothing_read (InPlaces kind book []) (AllRead kind book order) text
    c.read_title.new.lines c.read_places.new.lines titled (c.in_ok-order.ensures.found kind book) in
    rw (p.1, p.2) (stops_later certificate_rules nothing_read
    (AllRead kind book order) text c.read_places.new.lines c.in_err-no_more.field-0.0 all
    (c.in_err-no_more.ensures.refused kind book order))

pub returns-clause-found : goal.returns-clause-found
returns-clause-found c =
    let kind = c.in_ok-kind.kind in
    let book = c.in_ok-kind.book in
    let order = c.in_ok-order.order.items in
    let text : Unread = whole_text c.args.bytes.now in
    let prefix =
    subst (λ (t : Unread). Goes nothing_read t (OrderDue kind book) c.read_book_lines.new.lines)
    c.new-lines.ensures (goes_within book_within (InHead TitleDue) (AtEnd kind book) _ _
    c.in_ok-kind.ensures.found) in
    let titled = goes_then certificate_rules nothing_read (OrderDue kind book)
    (InPlaces kind book []) text c.read_book_lines.new.lines c.read_title.new.lines prefix
    (c.in_ok-read_title.ensures.found kind book) in
    let all =
    goes_then certificate_rules nothing_read (InPlaces kind book []) (AllRead kind book order) text
    c.read_title.new.lines c.read_places.new.lines titled (c.in_ok-order.ensures.found kind book) in
    (c.read_places.new.lines, record { goes = all; through = c.in_ok-no_more.ensures.whole })
