use Rattle.std.proofs.Common.{ℕ, ◌≤◌, ◌∙◌, sym, subst, arith}
use Rattle.book_base.specs.declared.call.Call.{Call}
use Rattle.book_base.proofs.ViewLemmas.{answer_stands}
use Rattle.queue_pairs.specs.Moments.{moment_of, IsHeldBy}
use Rattle.queue_pairs.proofs.Spanning.{first-held, first-least, none-holds}
use Rattle.queue_pairs.proofs.spans.first_of_caller.Goals as goal

pub returns-then-number-answers : goal.returns-then-number-answers
returns-then-number-answers c =
    let book = c.args.book.now in
    let number : ℕ = c.first_holding-number.result in
    let own : Call = record { caller = c.args.caller; number = number } in
    let there = answer_stands book own (omega (arith, c.answers.ensures)) in
    record {
      few = omega (arith, c.moment_at.ensures.few);
      held =
          λ lt. subst (IsHeldBy book c.args.call) (sym (c.moment_at.ensures.moment there.0 there.1))
          (first-held book c.args.caller c.args.call number there.0
          c.first_holding-number.ensures there.1);
      least = λ other r at holds.
          omega (
            arith,
            c.moment_at.ensures.moment there.0 there.1,
            first-least book c.args.caller c.args.call number other there.0 r c.requires.valid
                c.first_holding-number.ensures there.1 at holds,
          );
    }

pub returns-else-number-answers : goal.returns-else-number-answers
returns-else-number-answers c = record {
  few = omega arith;
  held = λ lt. absurd (omega arith);
  least = λ other r at holds. absurd
      (none-holds c.args.book.now c.args.caller c.args.call c.first_holding-number.result other r
      c.first_holding-number.ensures (omega (arith, c.answers.ensures)) at holds);
}
