use Rattle.std.proofs.Common.{◌≡◌, true, ap, ◌∙◌, sym, arith}
use Rattle.std.proofs.lemmas.Fmt.{decimal_injective}
use Rattle.seq_objects.specs.Replies.{is_known_reply}
use Rattle.seq_objects.proofs.reply.unknown_reply.Goals as goal

pub returns-then-is_known-clause-none : goal.returns-then-is_known-clause-none
returns-then-is_known-clause-none c = λ reply small same.
    let one : reply ≡ c.in_ok-reply.reply = decimal_injective reply c.in_ok-reply.reply small
    (omega arith) (same ∙ sym c.in_ok-reply.ensures.found) in
    let known : is_known_reply c.in_ok-reply.reply ≡ true = cc in
    ap is_known_reply one ∙ known
