use Rattle.std.proofs.Common.{◌≡◌, ℕ, ◌==◌, ◌↔◌, not, List, [], length, Option, Some, IsTrue, inl, refl, sym, ap, subst, ◌∙◌, arith}
use Rattle.seq_objects.specs.declared.cas_register.CasRegisterOperation.{CasRegisterOperation}
use Rattle.seq_objects.specs.declared.cas_register.CasRegisterOperation.TheVariants.{Write, CompareAndSet}
use Rattle.seq_objects.specs.Replies.{reply_done, reply_yes}
use Rattle.seq_objects.specs.CasRegisterSteps.{cas_register_operation, cas_register_after}
use Rattle.seq_objects.proofs.ReadOnly.{LeavesBy, leaves_but_with, expected_is_small, compared_and_set_leaves}
use Rattle.seq_objects.proofs.cas_register.CasRegisterSeqObject.leaves.Goals as goal

pub returns-in-Some-Write : goal.returns-in-Some-Write
returns-in-Some-Write c =
    let asked : cas_register_operation c.args.op ≡ Some (Write c.in-Some-Write.field-0-0) =
    sym c.from_word.ensures ∙ (c.in-Some-Write.is ∙ ap Some c.in-Some-Write.field-0-is) in
    let step : Option CasRegisterOperation → List ℕ → List ℕ × ℕ =
    λ o list. cas_register_after list o in
    subst (λ o. IsTrue (not (c.args.reply == reply_done)) ↔ LeavesBy (step o) c.args.reply)
    (sym asked)
    (leaves_but_with (step (Some (Write c.in-Some-Write.field-0-0))) reply_done c.args.reply
    (λ list. inl refl) ([], refl, λ same. omega (arith, ap length same)))

pub returns-in-Some-CompareAndSet : goal.returns-in-Some-CompareAndSet
returns-in-Some-CompareAndSet c =
    let asked : cas_register_operation c.args.op
    ≡ Some (CompareAndSet c.in-Some-CompareAndSet.field-0-0 c.in-Some-CompareAndSet.field-0-1) =
    sym c.from_word.ensures
    ∙ (c.in-Some-CompareAndSet.is ∙ ap Some c.in-Some-CompareAndSet.field-0-is) in
    let step : Option CasRegisterOperation → List ℕ → List ℕ × ℕ =
    λ o list. cas_register_after list o in
    subst (λ o. IsTrue (not (c.args.reply == reply_yes)) ↔ LeavesBy (step o) c.args.reply)
    (sym asked)
    (compared_and_set_leaves c.in-Some-CompareAndSet.field-0-0 c.in-Some-CompareAndSet.field-0-1
    c.args.reply (expected_is_small c.args.op c.in-Some-CompareAndSet.field-0-0
    c.in-Some-CompareAndSet.field-0-1 asked))
