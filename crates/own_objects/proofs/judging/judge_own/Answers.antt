use Rattle.std.proofs.Common.{rules, ◌≤◌, length, arith}
use Rattle.told_models.specs.declared.answer.Answer.TheVariants.{Legal, Illegal}
use Rattle.told_models.specs.Closed.{IsWordOf, number_of_calls}
use Rattle.told_models.specs.Dialogue.{IsAsk}
use Rattle.told_models.specs.Answers.{IsRightAnswer}
use Rattle.told_models.specs.Weighing.{weight_of}
use Rattle.told_models.proofs.Walks.{searches_stay}
use Rattle.own_objects.specs.Told.{value_at}
use Rattle.own_objects.proofs.Ending.{left_to_tell-falls}
use Rattle.own_objects.proofs.Numbered.{answers_hold_of_it}
use Rattle.own_objects.proofs.Truths.{leads_below}
use Rattle.own_objects.proofs.judging.judge_own.Goals as goal

pub returns-in-Some-Legal : goal.returns-in-Some-Legal
returns-in-Some-Legal g c =
    let init = g.O.OwnObject.initial c.args.object.now in
    let right : IsRightAnswer c.asking.table c.args.book.now (Legal c.in-Some-Legal.order) =
    search rules in record {
      verdict = (answers_hold_of_it init (g.O.OwnObject.next c.args.object.now)
          (value_at g.O.OwnObject.value init c.asking.states.keys) c.asking.table c.args.book.now
          c.init-init.ensures.keeps c.asking.invariant.told.0).0 c.in-Some-Legal.order right;
    }

pub returns-in-Some-Illegal : goal.returns-in-Some-Illegal
returns-in-Some-Illegal g c =
    let init = g.O.OwnObject.initial c.args.object.now in
    let right : IsRightAnswer c.asking.table c.args.book.now Illegal = search rules in record {
      verdict = (answers_hold_of_it init (g.O.OwnObject.next c.args.object.now)
          (value_at g.O.OwnObject.value init c.asking.states.keys) c.asking.table c.args.book.now
          c.init-init.ensures.keeps c.asking.invariant.told.0).1 right;
    }

pub tell_step-requires-clause-within : goal.tell_step-requires-clause-within
tell_step-requires-clause-within g c =
    let ask : IsAsk c.asking.table (IsWordOf c.args.book.now) (number_of_calls c.args.book.now)
    c.in-Some-Ask.state c.in-Some-Ask.op = search rules in
    leads_below (length c.asking.states.keys) c.asking.table c.asking.invariant.told.1
    c.asking.table.init ask.near.steps c.in-Some-Ask.state c.asking.invariant.told.1.begins
    ask.near.reached

pub asking-smaller-in_ok-tell_step-in-Some-Ask : goal.asking-smaller-in_ok-tell_step-in-Some-Ask
asking-smaller-in_ok-tell_step-in-Some-Ask g c =
    let ask : IsAsk c.asking.table (IsWordOf c.args.book.now) (number_of_calls c.args.book.now)
    c.in-Some-Ask.state c.in-Some-Ask.op = search rules in
    let lighter : weight_of c.args.book.now c.go_on.new.self
    ≤ weight_of c.args.book.now c.asking.search = search rules in
    let more = c.in_ok-tell_step-in-Some-Ask.ensures.more in
    omega (
      arith,
      lighter,
      left_to_tell-falls c.args.book.now c.asking.table c.tell_step.new.table
          c.in-Some-Ask.state c.in-Some-Ask.op ask more.0 more.1.0 more.1.1,
    )

pub asking-preserved-in_ok-tell_step-in-Some-Ask :
    goal.asking-preserved-in_ok-tell_step-in-Some-Ask
asking-preserved-in_ok-tell_step-in-Some-Ask g c = record {
  told = c.in_ok-tell_step-in-Some-Ask.ensures.told;
  search = searches_stay c.asking.table c.tell_step.new.table c.args.book.now c.go_on.new.self
      c.in_ok-tell_step-in-Some-Ask.ensures.more.0 c.in_ok-order.ensures.search;
}
