use Rattle.std.proofs.Common.{◌∙◌, sym, ap}
use Rattle.legal_orders.specs.Deals.{deed_of, deal_by_deed, deal_by_operation}
use Rattle.broken_rules.specs.Deeds.{reading_of}
use Rattle.broken_rules.proofs.Acts.{same_takes}
use Rattle.broken_rules.proofs.act.act_by_reading.Goals as goal

pub returns-in-Put : goal.returns-in-Put
returns-in-Put c =
    let reading = reading_of c.args.kind in
    let book = c.args.book.now in
    let call = c.args.call in
    sym (ap (deal_by_operation reading book call) c.op.ensures
    ∙ ap (deal_by_deed reading book call) (sym c.role_of.ensures ∙ ap deed_of c.in-Put.is))

pub returns-in-Take : goal.returns-in-Take
returns-in-Take c =
    let reading = reading_of c.args.kind in
    let book = c.args.book.now in
    let call = c.args.call in
    c.take_of.ensures
    ∙ (same_takes c.args.kind book call
    ∙ sym (ap (deal_by_operation reading book call) c.op.ensures
    ∙ ap (deal_by_deed reading book call) (sym c.role_of.ensures ∙ ap deed_of c.in-Take.is)))

pub returns-in-Other : goal.returns-in-Other
returns-in-Other c =
    let reading = reading_of c.args.kind in
    let book = c.args.book.now in
    let call = c.args.call in
    sym (ap (deal_by_operation reading book call) c.op.ensures
    ∙ ap (deal_by_deed reading book call) (sym c.role_of.ensures ∙ ap deed_of c.in-Other.is))
