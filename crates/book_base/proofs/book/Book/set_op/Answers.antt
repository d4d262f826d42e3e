use Rattle.std.proofs.Common.{◌<◌, List, length, refl, sym, subst}
use Rattle.book_base.specs.Book.{Page, IsValid, IsSmall}
use Rattle.book_base.proofs.PageLemmas.{caller_from_call, pages-with_operation}
use Rattle.book_base.proofs.GrowthLemmas.{IsValid-with_operation, IsSmall-with_operation}
use Rattle.book_base.proofs.book.Book.set_op.Goals as goal

inside : (c : goal.After-self-1) → c.args.call.caller < length c.args.self.now
inside c = caller_from_call c.args.self.now c.args.call.caller c.args.call.number c.requires

pub returns : goal.returns
returns c = pages-with_operation c.self.inside.rows.items c.args.self.now c.args.call c.args.op
    c.index_mut.result.now _ c.self.view_is (inside c) c.index_mut.ensures.value refl refl

pub invariant_of-self : goal.invariant_of-self
invariant_of-self c =
    let before =
    subst (λ (book : List Page). IsValid book × IsSmall book) c.self.view_is c.self.invariant in
    subst (λ (book : List Page). IsValid book × IsSmall book) (sym (returns c)) (
      IsValid-with_operation c.args.self.now c.args.call c.args.op (inside c) before.0,
      IsSmall-with_operation c.args.self.now c.args.call c.args.op (inside c) before.1,
    )
