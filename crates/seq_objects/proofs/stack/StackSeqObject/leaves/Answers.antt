use Rattle.std.proofs.Common.{◌≡◌, ℕ, ◌==◌, ◌↔◌, not, List, [], length, Option, Some, IsTrue, inl, refl, sym, ap, subst, ◌∙◌, arith}
use Rattle.seq_objects.specs.declared.stack.StackOperation.{StackOperation}
use Rattle.seq_objects.specs.declared.stack.StackOperation.TheVariants.{Push, Pop}
use Rattle.seq_objects.specs.Replies.{reply_done}
use Rattle.seq_objects.specs.StackSteps.{stack_operation, stack_after}
use Rattle.seq_objects.proofs.ReadOnly.{LeavesBy, leaves_but_with, last_taken_leaves}
use Rattle.seq_objects.proofs.stack.StackSeqObject.leaves.Goals as goal

pub returns-in-Some-Push : goal.returns-in-Some-Push
returns-in-Some-Push c =
    let asked : stack_operation c.args.op ≡ Some (Push c.in-Some-Push.field-0-0) =
    sym c.from_word.ensures ∙ (c.in-Some-Push.is ∙ ap Some c.in-Some-Push.field-0-is) in
    let step : Option StackOperation → List ℕ → List ℕ × ℕ = λ o list. stack_after list o in
    subst (λ o. IsTrue (not (c.args.reply == reply_done)) ↔ LeavesBy (step o) c.args.reply)
    (sym asked)
    (leaves_but_with (step (Some (Push c.in-Some-Push.field-0-0))) reply_done c.args.reply
    (λ list. inl refl) ([], refl, λ same. omega (arith, ap length same)))

pub returns-in-Some-Pop : goal.returns-in-Some-Pop
returns-in-Some-Pop c =
    let asked : stack_operation c.args.op ≡ Some Pop =
    sym c.from_word.ensures ∙ (c.in-Some-Pop.is ∙ ap Some c.in-Some-Pop.field-0-is) in
    let step : Option StackOperation → List ℕ → List ℕ × ℕ = λ o list. stack_after list o in
    subst (λ o. IsTrue (not c.is_value.result) ↔ LeavesBy (step o) c.args.reply) (sym asked)
    (last_taken_leaves c.args.reply c.is_value.result c.is_value.ensures)
