use Rattle.std.proofs.Common.{◌++◌, [], List, sym, subst}
use Rattle.book_base.specs.declared.call.Place.{Place}
use Rattle.book_base.specs.Order.{IsLegalOrder}
use Rattle.frontier_check.proofs.Following.{prefix-from_put}
use Rattle.frontier_check.proofs.verdict.rest_after.Goals as goal

pub places_after-requires : goal.places_after-requires
places_after-requires g c =
    let object = c.args.object.now in
    prefix-from_put (g.S.SeqObject.spec object) c.args.book.now
    c.args.prefix.now c.requires (c.leaves_open.ensures c.if-not-leaves_open.false)

pub returns-then-holds_answered : goal.returns-then-holds_answered
returns-then-holds_answered g c =
    let spec = g.S.SeqObject.spec c.args.object.now in
    let prefix = prefix-from_put spec c.args.book.now c.args.prefix.now c.requires
    (c.leaves_open.ensures c.if-not-leaves_open.false) in
    subst (λ (rest : List Place). IsLegalOrder spec c.args.book.now
    (c.args.prefix.now.places.items ++ rest)) (sym c.new.ensures.items)
    (prefix.legal [] (c.holds_answered.ensures c.if-holds_answered.true))
