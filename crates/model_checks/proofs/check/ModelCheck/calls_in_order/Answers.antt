use Rattle.std.proofs.Common.{List, map, Option, Vec, IfSome, sym, ap, subst, ◌∙◌}
use Rattle.std.specs.declared.alloc.Global.{Global}
use Rattle.book_base.specs.declared.call.Call.{Call}
use Rattle.book_base.specs.declared.call.Place.{Place}
use Rattle.book_base.specs.Order.{call_at}
use Rattle.told_models.specs.declared.answer.Answer.TheVariants.{Legal}
use Rattle.told_models.specs.Answers.{IsRightAnswer}
use Rattle.model_checks.proofs.Sound.{AreFew, calls-few}
use Rattle.model_checks.proofs.check.ModelCheck.calls_in_order.Goals as goal

pub returns-in_ok-calls_of_places-in-Some-clause-order :
    goal.returns-in_ok-calls_of_places-in-Some-clause-order
returns-in_ok-calls_of_places-in-Some-clause-order c = (
  c.in-Some.order,
  c.in-Some.is,
  subst (λ (o : Option (Vec Place Global)). IfSome o (λ order.
      IsRightAnswer c.args.self.now.table c.args.self.now.book (Legal order))) c.in-Some.is
      c.requires.sound.order,
  c.in_ok-calls_of_places-in-Some.ensures ∙ ap (map call_at) c.deref.ensures.value,
)

pub returns-in_ok-calls_of_places-in-Some-clause-few :
    goal.returns-in_ok-calls_of_places-in-Some-clause-few
returns-in_ok-calls_of_places-in-Some-clause-few c =
    subst (λ (calls : List Call). AreFew calls) (sym (c.in_ok-calls_of_places-in-Some.ensures
    ∙ ap (map call_at) c.deref.ensures.value))
    (calls-few c.args.self.now.table c.args.self.now.book c.in-Some.order.items
    c.init-init.ensures.keeps c.callers-callers.ensures.small
    (subst (λ (o : Option (Vec Place Global)). IfSome o (λ order.
    IsRightAnswer c.args.self.now.table c.args.self.now.book (Legal order))) c.in-Some.is
    c.requires.sound.order))
