use Rattle.std.proofs.Common.{◌≡◌, ℕ, ◌==◌, ◌↔◌, not, List, [], length, Option, Some, IsTrue, inl, refl, sym, ap, subst, ◌∙◌, arith}
use Rattle.seq_objects.specs.declared.register.RegisterOperation.{RegisterOperation}
use Rattle.seq_objects.specs.declared.register.RegisterOperation.TheVariants.{Write}
use Rattle.seq_objects.specs.Replies.{reply_done}
use Rattle.seq_objects.specs.RegisterSteps.{register_operation, register_after}
use Rattle.seq_objects.proofs.ReadOnly.{LeavesBy, leaves_but_with}
use Rattle.seq_objects.proofs.register.RegisterSeqObject.leaves.Goals as goal

pub returns-in-Some-Write : goal.returns-in-Some-Write
returns-in-Some-Write c =
    let asked : register_operation c.args.op ≡ Some (Write c.in-Some-Write.field-0-0) =
    sym c.from_word.ensures ∙ (c.in-Some-Write.is ∙ ap Some c.in-Some-Write.field-0-is) in
    let step : Option RegisterOperation → List ℕ → List ℕ × ℕ = λ o list. register_after list o in
    subst (λ o. IsTrue (not (c.args.reply == reply_done)) ↔ LeavesBy (step o) c.args.reply)
    (sym asked)
    (leaves_but_with (step (Some (Write c.in-Some-Write.field-0-0))) reply_done c.args.reply
    (λ list. inl refl) ([], refl, λ same. omega (arith, ap length same)))
