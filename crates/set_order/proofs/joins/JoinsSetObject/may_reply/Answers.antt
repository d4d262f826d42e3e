use Rattle.std.proofs.Common.{◌≡◌, ◌∙◌, ℕ, ap, sym, subst}
use Rattle.std.proofs.lemmas.Bool.{both_ways, eqb-false}
use Rattle.set_order.specs.Joins.{mask_of, with_join, HasMask}
use Rattle.set_order.proofs.Joining.{never_other, never_less}
use Rattle.set_order.proofs.joins.JoinsSetObject.may_reply.Goals as goal

pub returns-then-knows : goal.returns-then-knows
returns-then-knows c less =
    let list = c.args.state.now.words in
    let joined : c.with_join.result ≡ with_join (mask_of list) c.args.op =
    c.with_join.ensures ∙ ap (λ (n : ℕ). with_join n c.args.op) c.mask.ensures in
    never_less list c.args.op c.args.reply (sym c.knows.ensures ∙ c.if-knows.true)
    (λ (has : HasMask c.args.reply (with_join (mask_of list) c.args.op)).
    both_ways c.has_mask.result less
    (c.has_mask.ensures.1 (subst (λ (n : ℕ). HasMask c.args.reply n) (sym joined) has)))

pub returns-else-knows : goal.returns-else-knows
returns-else-knows c other =
    never_other c.args.state.now.words c.args.op c.args.reply
    (sym c.knows.ensures ∙ c.if-knows.false) (eqb-false c.args.reply 17179869184 other)
