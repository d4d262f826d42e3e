use Rattle.std.proofs.Common.{rules, sym, ◌∙◌}
use Rattle.seq_objects.specs.ReplyView.{shown}
use Rattle.seq_objects.proofs.ReplyTexts.{reply_word-named, reply_word-value, reply_word-other}
use Rattle.seq_objects.proofs.reply.put_reply.Goals as goal

pub returns-in_ok-extend_from_slice-clause-ok : goal.returns-in_ok-extend_from_slice-clause-ok
returns-in_ok-extend_from_slice-clause-ok c =
    rw (reply_word-named c.args.reply (shown c.in-Some.entry) (sym c.in-Some.ensures))
    (search rules)

pub returns-then-is_value-clause-ok : goal.returns-then-is_value-clause-ok
returns-then-is_value-clause-ok c =
    rw (reply_word-value c.args.reply (sym c.is_value.ensures ∙ c.if-is_value.true)) (search rules)

pub returns-then-is_value-clause-err : goal.returns-then-is_value-clause-err
returns-then-is_value-clause-err c =
    rw (reply_word-value c.args.reply (sym c.is_value.ensures ∙ c.if-is_value.true))
    c.put_marked.ensures.err

pub returns-else-is_value-clause-ok : goal.returns-else-is_value-clause-ok
returns-else-is_value-clause-ok c =
    rw (reply_word-other c.args.reply (sym c.in_default.ensures)
    (sym c.is_value.ensures ∙ c.if-is_value.false)) c.put_marked-else-is_value.ensures.ok

pub returns-else-is_value-clause-err : goal.returns-else-is_value-clause-err
returns-else-is_value-clause-err c =
    rw (reply_word-other c.args.reply (sym c.in_default.ensures)
    (sym c.is_value.ensures ∙ c.if-is_value.false)) c.put_marked-else-is_value.ensures.err
