use Rattle.std.proofs.Common.{Option, Some, IfSome, refl, sym, ap, subst, ◌∙◌}
use Rattle.std.specs.Arc.{arc_value}
use Rattle.row_gather.specs.declared.gathered.Gathered.{Gathered}
use Rattle.told_models.specs.declared.answer.Answer.{Answer}
use Rattle.told_models.specs.declared.answer.Answer.TheVariants as told
use Rattle.told_models.specs.Closed.{IsWordOf, number_of_calls}
use Rattle.told_models.specs.Dialogue.{IsAsk}
use Rattle.told_models.specs.Answers.{IsRightAnswer}
use Rattle.model_checks.proofs.Numbers.{small-near}
use Rattle.model_callers.proofs.Gathered.{same_call}
use Rattle.model_callers.proofs.judging.judge_on.Goals as goal

pub overflow_cast-result : goal.overflow_cast-result
overflow_cast-result c =
    let table = c.args.kept.now.table in
    let book = c.args.call.gathered.book in
    let ask : IsAsk table (IsWordOf book)
    (number_of_calls book) c.in-Ok-Some-Ask.state c.in-Ok-Some-Ask.op =
    subst (λ (o : Option Answer). IfSome o (IsRightAnswer table book))
    (c.in-Ok-Some-Ask.field-0-is ∙ ap Some c.in-Ok-Some-Ask.field-0-0-is)
    c.in-Ok-Some-Ask.ensures.answer in
    record {
      fits = small-near table (IsWordOf book) (number_of_calls book) c.in-Ok-Some-Ask.state
          c.requires.small ask.near;
    }

pub returns-in-Ok-Some-Legal-clause-goes_on : goal.returns-in-Ok-Some-Legal-clause-goes_on
returns-in-Ok-Some-Legal-clause-goes_on c =
    let table = c.args.kept.now.table in
    let book = c.args.call.gathered.book in (
      record {
        gathered = c.requires.call;
        order = c.in-Ok-Some-Legal._order;
        legal = subst (λ (o : Option Answer). IfSome o (IsRightAnswer table book))
            (c.in-Ok-Some-Legal.field-0-is ∙ ap Some c.in-Ok-Some-Legal.field-0-0-is)
            c.in-Ok-Some-Legal.ensures.answer;
      },
      refl,
      refl,
    )

pub returns-in-Ok-Some-Illegal-clause-sound : goal.returns-in-Ok-Some-Illegal-clause-sound
returns-in-Ok-Some-Illegal-clause-sound c =
    let table = c.args.kept.now.table in
    let wrong = c.halted.result in
    let illegal = subst (λ (o : Option Answer). IfSome o
    (IsRightAnswer table c.args.call.gathered.book))
    (c.in-Ok-Some-Illegal.field-0-is ∙ ap Some c.in-Ok-Some-Illegal.field-0-0-is)
    c.in-Ok-Some-Illegal.ensures.answer in (
      same_call (arc_value c.args.kept.now.rows) c.args.call wrong c.halted.ensures.same.1
          c.halted.ensures.stopped.same c.requires.call,
      subst (λ (g : Gathered). IsRightAnswer table g.book told.Illegal)
          (sym c.halted.ensures.same.1) illegal,
    )

pub returns-in-Ok-Some-Illegal-clause-goes_on : goal.returns-in-Ok-Some-Illegal-clause-goes_on
returns-in-Ok-Some-Illegal-clause-goes_on c =
    let table = c.args.kept.now.table in
    let wrong = c.halted.result in (
      wrong,
      refl,
      record {
        gathered =
            same_call (arc_value c.args.kept.now.rows) c.args.call wrong c.halted.ensures.same.1
            c.halted.ensures.stopped.same c.requires.call;
        same = c.halted.ensures.same;
        stopped = c.halted.ensures.stopped;
        illegal = subst (λ (o : Option Answer). IfSome o
            (IsRightAnswer table c.args.call.gathered.book))
            (c.in-Ok-Some-Illegal.field-0-is ∙ ap Some c.in-Ok-Some-Illegal.field-0-0-is)
            c.in-Ok-Some-Illegal.ensures.answer;
      },
    )
