use Rattle.std.proofs.Common.{◌≡◌, false, IfOk, IsTrue, List, subst}
use Rattle.book_base.specs.Book.{Page}
use Rattle.book_base.specs.Order.{HasLegalOrder}
use Rattle.legal_orders.proofs.BookAtLaws.{is_the_only_one}
use Rattle.seq_objects.specs.Objects.{kind_spec}
use Rattle.smaller_book.proofs.judging.is_illegal_at.Goals as goal

pub returns-clause-illegal : goal.returns-clause-illegal
returns-clause-illegal c =
    let same = is_the_only_one c.args.book.now c.args.cut.now c.in_ok-part.part
    c.callers-callers.ensures.valid c.in_ok-part.ensures in
    let P : List Page → Type 0 = λ b. IfOk c.is_illegal.result
    (λ found. IsTrue found → ¬ HasLegalOrder (kind_spec c.args.kind) b) in
    subst P same c.is_illegal.ensures.illegal

pub returns-clause-legal : goal.returns-clause-legal
returns-clause-legal c =
    let same = is_the_only_one c.args.book.now c.args.cut.now c.in_ok-part.part
    c.callers-callers.ensures.valid c.in_ok-part.ensures in
    let P : List Page → Type 0 = λ b. IfOk c.is_illegal.result
    (λ found. found ≡ false → HasLegalOrder (kind_spec c.args.kind) b) in
    subst P same c.is_illegal.ensures.legal
