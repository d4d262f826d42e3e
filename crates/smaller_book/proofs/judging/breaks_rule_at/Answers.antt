use Rattle.std.proofs.Common.{IsTrue, List, subst}
use Rattle.book_base.specs.Book.{Page}
use Rattle.book_base.specs.Order.{HasLegalOrder}
use Rattle.legal_orders.proofs.BookAtLaws.{is_the_only_one}
use Rattle.seq_objects.specs.Objects.{kind_spec}
use Rattle.smaller_book.proofs.judging.breaks_rule_at.Goals as goal

pub returns : goal.returns
returns c =
    let same = is_the_only_one c.args.book.now c.args.cut.now c.in_ok-part.part
    c.callers-callers.ensures.valid c.in_ok-part.ensures in
    let P : List Page → Type 0 = λ b. IsTrue c.breaks_rule.result
    → ¬ HasLegalOrder (kind_spec c.args.kind) b in
    subst P same c.breaks_rule.ensures
