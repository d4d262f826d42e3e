use Rattle.std.proofs.Common.{◌≡◌, ℕ, ◌↔◌, not, List, Option, Some, IsTrue, refl, sym, ap, subst, ◌∙◌}
use Rattle.seq_objects.specs.declared.counter.CounterOperation.{CounterOperation}
use Rattle.seq_objects.specs.declared.counter.CounterOperation.TheVariants.{Increment}
use Rattle.seq_objects.specs.CounterSteps.{counter_operation, counter_after}
use Rattle.seq_objects.proofs.ReadOnly.{LeavesBy, counted_leaves}
use Rattle.seq_objects.proofs.counter.CounterSeqObject.leaves.Goals as goal

only_increment : (o : CounterOperation) → o ≡ Increment
only_increment Increment = refl

pub returns-in-Some-Increment : goal.returns-in-Some-Increment
returns-in-Some-Increment c =
    let asked : counter_operation c.args.op ≡ Some Increment = sym c.from_word.ensures
    ∙ (c.in-Some-Increment.is ∙ ap Some (only_increment c.in-Some-Increment.field-0)) in
    let step : Option CounterOperation → List ℕ → List ℕ × ℕ = λ o list. counter_after list o in
    subst (λ o. IsTrue (not c.is_value.result) ↔ LeavesBy (step o) c.args.reply) (sym asked)
    (counted_leaves c.args.reply c.is_value.result c.is_value.ensures)
