use Rattle.std.proofs.Common.{◌∙◌, sym, if◌then◌else◌}
use Rattle.std.proofs.lemmas.Bool.{cond-true, cond-false}
use Rattle.legal_orders.specs.Deals.{Deal, deal_of}
use Rattle.broken_rules.specs.Deeds.{is_keyed, is_cas_register, reading_of, deal_by_key, set_by}
use Rattle.broken_rules.proofs.act.act_of.Goals as goal

pub returns-then-is_keyed : goal.returns-then-is_keyed
returns-then-is_keyed c =
    let kind = c.args.kind in
    let book = c.args.book.now in
    let call = c.args.call in
    let other : Deal =
    if is_cas_register kind then set_by book call else deal_of (reading_of kind) book call in
    c.act_by_key.ensures
    ∙ sym (cond-true (is_keyed kind) (deal_by_key kind book call) other
    (sym c.is_keyed.ensures ∙ c.if-is_keyed.true))

pub returns-then-is_cas_register : goal.returns-then-is_cas_register
returns-then-is_cas_register c =
    let kind = c.args.kind in
    let book = c.args.book.now in
    let call = c.args.call in
    let read : Deal = deal_of (reading_of kind) book call in
    let other : Deal = if is_cas_register kind then set_by book call else read in
    c.act_by_setting.ensures
    ∙ (sym (cond-true (is_cas_register kind) (set_by book call) read
    (sym c.is_cas_register.ensures ∙ c.if-is_cas_register.true))
    ∙ sym (cond-false (is_keyed kind) (deal_by_key kind book call) other
    (sym c.is_keyed.ensures ∙ c.if-is_keyed.false)))

pub returns-else-is_cas_register : goal.returns-else-is_cas_register
returns-else-is_cas_register c =
    let kind = c.args.kind in
    let book = c.args.book.now in
    let call = c.args.call in
    let read : Deal = deal_of (reading_of kind) book call in
    let other : Deal = if is_cas_register kind then set_by book call else read in
    c.act_by_reading.ensures
    ∙ (sym (cond-false (is_cas_register kind) (set_by book call) read
    (sym c.is_cas_register.ensures ∙ c.if-is_cas_register.false))
    ∙ sym (cond-false (is_keyed kind) (deal_by_key kind book call) other
    (sym c.is_keyed.ensures ∙ c.if-is_keyed.false)))
