use Rattle.std.proofs.Common.{◌≡◌, ◌↔◌, ℕ, Option, Some, IsSomeAnd, IsTrue, not, unwrap_or, sym, subst}
use Rattle.list_laws.proofs.Options.{some_from_is_some_and}
use Rattle.book_base.specs.declared.call.Record.{Record}
use Rattle.book_base.specs.Book.{operation_of, record_of}
use Rattle.book_base.specs.Reaching.{MayReply}
use Rattle.seq_objects.specs.Objects.{kind_next}
use Rattle.broken_rules.proofs.Acts.{not_decides}
use Rattle.broken_rules.proofs.breaking.has_impossible_reply.Goals as goal

pub returns-then-call-answers : goal.returns-then-call-answers
returns-then-call-answers c =
    let next = kind_next c.args.kind in
    let book = c.args.book.now in
    let call = c.args.call in
    let denies : Option ℕ → ℕ → Type 0 = λ op reply. ¬ MayReply next (unwrap_or op 0) reply in
    let found = some_from_is_some_and (record_of book call) (λ r. c.reply.result ≡ r.reply)
    c.reply.ensures in
    let given : c.reply.result ≡ found.0.reply =
    subst (λ (o : Option Record). IsSomeAnd o (λ r. c.reply.result ≡ r.reply)) found.1
    c.reply.ensures in
    subst (λ (o : Option Record). IsTrue (not c.may_reply.result)
    ↔ IsSomeAnd o (λ r. denies (operation_of book call) r.reply)) (sym found.1)
    (subst (λ (o : Option ℕ). IsTrue (not c.may_reply.result) ↔ denies o found.0.reply)
    (sym c.op.ensures)
    (subst (λ (n : ℕ). IsTrue (not c.may_reply.result) ↔ denies (Some c.op.result) n) given
    (not_decides c.may_reply.ensures)))
