use Rattle.std.proofs.Common.{◌∙◌, ap, refl, subst, sym, option_map, unwrap_or}
use Rattle.log_books.specs.Words.{has_numbers, names_of, IsWordOf, IsReplyOf}
use Rattle.log_books.specs.Calls.{IsAnswerOf}
use Rattle.log_books.proofs.Making.{word_on}
use Rattle.log_books.proofs.key_calls.lined.Goals as goal
use Rattle.log_books.proofs.key_calls.lined.Goals.{in-None-2, in-Some-answer+in_ok-reply-in-Some-answer}

pub returns-clause-made : goal.returns-clause-made
returns-clause-made c =
    let options = c.args.options.now in
    let call = c.args.call.now in
    let operation = c.in-Some.operation in
    elim c.match-call.branch [
      | in-None-2 w ↦ record {
        operation = operation;
        named = c.in-Some.ensures;
        word = subst (λ names. IsWordOf options (names_of names) operation call c.in_ok-op.op)
            (sym w.names-is) c.in_ok-op.ensures.word;
        line = refl;
        invoked = refl;
        answered = subst (λ answer. IsAnswerOf options (names_of c.match-call.names) operation answer
            c.match-call.answer.0 c.match-call.answer.1) (sym w.in-None-2.is)
            (ap (λ p. p.0) w.answer-is, ap (λ p. p.1) w.answer-is);
      }
      | in-Some-answer+in_ok-reply-in-Some-answer w ↦ record {
        operation = operation;
        named = c.in-Some.ensures;
        word = subst (λ names. IsWordOf options (names_of names) operation call c.in_ok-op.op)
            (sym w.names-is)
            (word_on (names_of c.word_of.new.names) (names_of w.reply_of.new.names)
            w.in_ok-reply-in-Some-answer.ensures.keeps options operation call c.in_ok-op.op
            c.in_ok-op.ensures.word);
        line = refl;
        invoked = refl;
        answered = subst (λ answer. IsAnswerOf options (names_of c.match-call.names) operation answer
            c.match-call.answer.0 c.match-call.answer.1) (sym w.in-Some-answer.is) (
              _,
              ap (λ p. p.0) w.answer-is,
              refl,
              ap (λ p. p.1) w.answer-is,
              subst (λ names. IsReplyOf (has_numbers options.kind) (names_of names) operation.says
                  (unwrap_or (option_map (λ value. value.now) w.in-Some-answer.answer.value)
                  options.initial.now) w.in_ok-reply-in-Some-answer.reply) (sym w.names-is)
                  (subst (λ numbered. IsReplyOf numbered (names_of w.reply_of.new.names) operation.says
                  (unwrap_or (option_map (λ value. value.now) w.in-Some-answer.answer.value)
                  options.initial.now) w.in_ok-reply-in-Some-answer.reply)
                  (w.in_ok-reply-in-Some-answer.ensures.numbered ∙ c.in_ok-op.ensures.numbered ∙ c.requires)
                  w.in_ok-reply-in-Some-answer.ensures.reply),
            );
      }
    ]
