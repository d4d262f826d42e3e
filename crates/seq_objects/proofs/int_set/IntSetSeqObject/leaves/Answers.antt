use Rattle.std.proofs.Common.{◌≡◌, ℕ, ◌==◌, ◌↔◌, not, List, Option, Some, IsTrue, sym, ap, subst, ◌∙◌}
use Rattle.seq_objects.specs.declared.int_set.IntSetOperation.{IntSetOperation}
use Rattle.seq_objects.specs.declared.int_set.IntSetOperation.TheVariants.{Add, Remove}
use Rattle.seq_objects.specs.Replies.{reply_yes}
use Rattle.seq_objects.specs.IntSetSteps.{set_operation, set_after}
use Rattle.seq_objects.proofs.ReadOnly.{LeavesBy, added_leaves, removed_leaves}
use Rattle.seq_objects.proofs.int_set.IntSetSeqObject.leaves.Goals as goal

pub returns-in-Some-Add : goal.returns-in-Some-Add
returns-in-Some-Add c =
    let asked : set_operation c.args.op ≡ Some (Add c.in-Some-Add.field-0-0) =
    sym c.from_word.ensures ∙ (c.in-Some-Add.is ∙ ap Some c.in-Some-Add.field-0-is) in
    let step : Option IntSetOperation → List ℕ → List ℕ × ℕ = λ o list. set_after list o in
    subst (λ o. IsTrue (not (c.args.reply == reply_yes)) ↔ LeavesBy (step o) c.args.reply)
    (sym asked)
    (added_leaves c.in-Some-Add.field-0-0 c.args.reply)

pub returns-in-Some-Remove : goal.returns-in-Some-Remove
returns-in-Some-Remove c =
    let asked : set_operation c.args.op ≡ Some (Remove c.in-Some-Remove.field-0-0) =
    sym c.from_word.ensures ∙ (c.in-Some-Remove.is ∙ ap Some c.in-Some-Remove.field-0-is) in
    let step : Option IntSetOperation → List ℕ → List ℕ × ℕ = λ o list. set_after list o in
    subst (λ o. IsTrue (not (c.args.reply == reply_yes)) ↔ LeavesBy (step o) c.args.reply)
    (sym asked)
    (removed_leaves c.in-Some-Remove.field-0-0 c.args.reply)
