use Rattle.std.proofs.Common.{sym, ap, ◌∙◌, arith}
use Rattle.std.proofs.lemmas.Option.{IfSome_then}
use Rattle.seq_objects.specs.ReplyView.{shown}
use Rattle.seq_objects.specs.Replies.{reply_word, reply_value}
use Rattle.list_laws.proofs.Options.{IfNone_then}
use Rattle.seq_objects.proofs.ReplyTexts.{reply_word-name, reply_word-digits, reply_word-unknown, not-reply-value, not-reply-unmarked, not-reply-marked}
use Rattle.seq_objects.proofs.reply.reply_from_word.Goals as goal

pub returns-in-Some-clause-found : goal.returns-in-Some-clause-found
returns-in-Some-clause-found c =
    reply_word-name c.args.word.now (shown c.in-Some.entry) (sym c.in-Some.ensures)

pub returns-in_err-argument-in-Some-suffix-clause-none :
    goal.returns-in_err-argument-in-Some-suffix-clause-none
returns-in_err-argument-in-Some-suffix-clause-none c =
    rw c.from_residual.ensures (λ reply small.
    not-reply-value c.args.word.now c.in-Some-suffix.digits.now (sym c.in_default.ensures)
    c.in-Some-suffix.ensures.found c.in_err-argument-in-Some-suffix.ensures.none reply)

pub returns-in_err-suffix-in-None-clause-none : goal.returns-in_err-suffix-in-None-clause-none
returns-in_err-suffix-in-None-clause-none c =
    rw c.from_residual-in_err-suffix-in-None.ensures
    (λ reply small. not-reply-unmarked c.args.word.now
    (sym c.in_default.ensures) c.in-None.ensures.none c.in_err-suffix-in-None.ensures.none reply)

pub returns-in_ok-argument-in-Some-suffix-clause-found :
    goal.returns-in_ok-argument-in-Some-suffix-clause-found
returns-in_ok-argument-in-Some-suffix-clause-found c =
    ap reply_word (c.wrapping_value_reply.ensures ∙ ap reply_value c.from.ensures)
    ∙ reply_word-digits c.args.word.now c.in-Some-suffix.digits.now
    c.in_ok-argument-in-Some-suffix.field-0
    (omega arith) c.in-Some-suffix.ensures.found c.in_ok-argument-in-Some-suffix.ensures.found

pub returns-in_ok-suffix-in-None-clause-found : goal.returns-in_ok-suffix-in-None-clause-found
returns-in_ok-suffix-in-None-clause-found c =
    IfSome_then c.unknown_reply.result c.unknown_reply.ensures.found
    (λ reply found. reply_word-unknown c.args.word.now c.in_ok-suffix-in-None.field-0.now reply
    c.in_ok-suffix-in-None.ensures.found found.0 found.1)

pub returns-in_ok-suffix-in-None-clause-none : goal.returns-in_ok-suffix-in-None-clause-none
returns-in_ok-suffix-in-None-clause-none c =
    IfNone_then c.unknown_reply.result c.unknown_reply.ensures.none
    (λ known. not-reply-marked c.args.word.now c.in_ok-suffix-in-None.field-0.now
    (sym c.in_default.ensures) c.in_ok-suffix-in-None.ensures.found known)
