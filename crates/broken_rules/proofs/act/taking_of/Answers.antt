use Rattle.std.proofs.Common.{◌∙◌, sym}
use Rattle.std.proofs.lemmas.Bool.{cond-true, cond-false}
use Rattle.broken_rules.specs.Deeds.{is_cas_register, did, expected_by}
use Rattle.broken_rules.proofs.act.taking_of.Goals as goal

pub returns-then-is_cas_register : goal.returns-then-is_cas_register
returns-then-is_cas_register c =
    c.act_by_expecting.ensures
    ∙ sym (cond-true (is_cas_register c.args.kind) (expected_by c.args.book.now c.args.call)
    (did c.args.kind c.args.book.now c.args.call)
    (sym c.is_cas_register.ensures ∙ c.if-is_cas_register.true))

pub returns-else-is_cas_register : goal.returns-else-is_cas_register
returns-else-is_cas_register c =
    c.act_of.ensures
    ∙ sym (cond-false (is_cas_register c.args.kind) (expected_by c.args.book.now c.args.call)
    (did c.args.kind c.args.book.now c.args.call)
    (sym c.is_cas_register.ensures ∙ c.if-is_cas_register.false))
