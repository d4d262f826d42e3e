use Rattle.std.proofs.Common.{subst}
use Rattle.text_fields.specs.declared.version.Version.TheVariants.{First, Second}
use Rattle.given_book.specs.Given.{IsBookPart}
use Rattle.given_book.proofs.Parts.{told_by, stopped_by}
use Rattle.given_book.proofs.read.read_given.Goals as goal

pub returns-in-First-clause-only : goal.returns-in-First-clause-only
returns-in-First-clause-only c =
    let bytes = c.args.bytes.now in
    let part = c.book_part-part.result.bytes.now in
    let is : IsBookPart bytes First part =
    subst (λ v. IsBookPart bytes v part) c.in-First.is c.book_part-part.ensures in
    λ kind book given.
    c.read_book1.ensures.only kind book (told_by bytes First part kind book is given)

pub returns-in-First-clause-first : goal.returns-in-First-clause-first
returns-in-First-clause-first c =
    let bytes = c.args.bytes.now in
    let part = c.book_part-part.result.bytes.now in
    let is : IsBookPart bytes First part =
    subst (λ v. IsBookPart bytes v part) c.in-First.is c.book_part-part.ensures in
    λ fault first. c.read_book1.ensures.first fault (stopped_by bytes First part fault is first)

pub returns-in-Second-clause-only : goal.returns-in-Second-clause-only
returns-in-Second-clause-only c =
    let bytes = c.args.bytes.now in
    let part = c.book_part-part.result.bytes.now in
    let is : IsBookPart bytes Second part =
    subst (λ v. IsBookPart bytes v part) c.in-Second.is c.book_part-part.ensures in
    λ kind book given.
    c.read_book.ensures.only kind book (told_by bytes Second part kind book is given)

pub returns-in-Second-clause-first : goal.returns-in-Second-clause-first
returns-in-Second-clause-first c =
    let bytes = c.args.bytes.now in
    let part = c.book_part-part.result.bytes.now in
    let is : IsBookPart bytes Second part =
    subst (λ v. IsBookPart bytes v part) c.in-Second.is c.book_part-part.ensures in
    λ fault first. c.read_book.ensures.first fault (stopped_by bytes Second part fault is first)
