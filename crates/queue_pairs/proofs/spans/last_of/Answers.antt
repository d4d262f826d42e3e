use Rattle.std.proofs.Common.{ℕ, ◌<◌, arith}
use Rattle.std.proofs.lemmas.Option.{slice_get_within}
use Rattle.book_base.specs.Book.{answers_of}
use Rattle.queue_pairs.proofs.spans.last_of.Goals as goal

pub returns-then-call-answers : goal.returns-then-call-answers
returns-then-call-answers c = record {
  answered = c.moment_at.ensures.moment;
  few = λ answered. c.moment_at.ensures.few;
  unanswered = λ past. absurd (omega (arith, past, c.answers.ensures));
}

pub returns-else-call-answers : goal.returns-else-call-answers
returns-else-call-answers c = record {
  answered = λ r at.
      let there : c.args.call.number < answers_of c.args.book.now c.args.call.caller =
      slice_get_within _ c.args.call.number r at in
      absurd (omega (arith, there, c.answers.ensures));
  few = λ answered. absurd (omega (arith, answered, c.answers.ensures));
  unanswered = λ past. search (arith);
}
