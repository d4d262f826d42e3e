use Rattle.std.proofs.Common.{sym, subst, arith}
use Rattle.book_base.proofs.ViewLemmas.{IsHeldTo, held_to_none, held_to_more, held_from_all, held_is_few}
use Rattle.book_base.proofs.book.Book.held_calls.Goals as goal

pub loop-other-init : goal.loop-other-init
loop-other-init c = held_to_none c.args.self.now c.args.cut.now c.args.caller

pub loop-other-preserved : goal.loop-other-preserved
loop-other-preserved c =
    subst (IsHeldTo c.args.self.now c.args.cut.now c.args.caller _) (sym c.max-held.ensures)
    (held_to_more c.args.self.now c.args.cut.now c.args.caller c.loop-other.other c.loop-other.held
    c.held_by_last.result c.loop-other.invariant c.held_by_last.ensures.held
    c.held_by_last.ensures.most)

pub returns-clause-held : goal.returns-clause-held
returns-clause-held c =
    held_from_all c.args.self.now c.args.cut.now c.args.caller c.loop-other.other c.loop-other.held
    (omega (arith, c.callers-other-end.ensures.count, c.loop-other-test.false))
    c.loop-other.invariant

pub returns-clause-few : goal.returns-clause-few
returns-clause-few c = held_is_few c.args.self.now c.args.cut.now c.args.caller c.loop-other.other
    c.loop-other.held c.callers-other-end.ensures.valid c.loop-other.invariant
