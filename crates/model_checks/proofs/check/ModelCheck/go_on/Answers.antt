use Rattle.std.proofs.Common.{Option, Some, IfSome, refl, sym, ap, subst, ◌∙◌}
use Rattle.told_models.specs.declared.answer.Answer.{Answer}
use Rattle.told_models.specs.Closed.{IsWordOf, number_of_calls}
use Rattle.told_models.specs.Dialogue.{IsAsk}
use Rattle.told_models.specs.Answers.{IsRightAnswer}
use Rattle.model_checks.specs.Words.{operation_word}
use Rattle.model_checks.proofs.Numbers.{small-near}
use Rattle.model_checks.proofs.check.ModelCheck.go_on.Goals as goal

pub overflow_cast-result : goal.overflow_cast-result
overflow_cast-result c =
    let table = c.args.self.now.table in
    let book = c.args.self.now.book in
    let ask : IsAsk table (IsWordOf book)
    (number_of_calls book) c.in-Some-Ask.state c.in-Some-Ask.op =
    subst (λ (o : Option Answer). IfSome o (IsRightAnswer table book))
    (c.in-Some-Ask.is ∙ ap Some c.in-Some-Ask.field-0-is) c.in_ok-said.ensures.answer in
    record {
      fits = small-near table (IsWordOf book) (number_of_calls book) c.in-Some-Ask.state
          c.requires.sound.states ask.near;
    }

pub returns-in-Some-Legal-clause-answer : goal.returns-in-Some-Legal-clause-answer
returns-in-Some-Legal-clause-answer c = (
  c.in-Some-Legal.order,
  refl,
  subst (λ (o : Option Answer). IfSome o
      (IsRightAnswer c.args.self.now.table c.args.self.now.book))
      (c.in-Some-Legal.is ∙ ap Some c.in-Some-Legal.field-0-is) c.in_ok-said.ensures.answer,
)

pub returns-in-Some-Ask-clause-answer : goal.returns-in-Some-Ask-clause-answer
returns-in-Some-Ask-clause-answer c =
    let table = c.args.self.now.table in
    let book = c.args.self.now.book in
    let ask : IsAsk table (IsWordOf book)
    (number_of_calls book) c.in-Some-Ask.state c.in-Some-Ask.op =
    subst (λ (o : Option Answer). IfSome o (IsRightAnswer table book))
    (c.in-Some-Ask.is ∙ ap Some c.in-Some-Ask.field-0-is) c.in_ok-said.ensures.answer in
    let number = c.requires.sound.words c.in-Some-Ask.op ask.word in
    subst (IsAsk table (IsWordOf book) (number_of_calls book) c.in-Some-Ask.state)
    (number.2 ∙ ap operation_word (sym (c.operation_number.ensures number.0 number.1 number.2))) ask
