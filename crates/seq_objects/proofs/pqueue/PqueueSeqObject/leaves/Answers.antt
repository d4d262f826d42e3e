use Rattle.std.proofs.Common.{◌≡◌, ℕ, ◌==◌, ◌↔◌, not, List, [], length, Option, Some, IsTrue, inl, refl, sym, ap, subst, ◌∙◌, arith}
use Rattle.seq_objects.specs.declared.pqueue.PqueueOperation.{PqueueOperation}
use Rattle.seq_objects.specs.declared.pqueue.PqueueOperation.TheVariants.{Insert, Min}
use Rattle.seq_objects.specs.Replies.{reply_done}
use Rattle.seq_objects.specs.PqueueSteps.{pqueue_operation, pqueue_after}
use Rattle.seq_objects.proofs.ReadOnly.{LeavesBy, leaves_but_with, first_taken_leaves}
use Rattle.seq_objects.proofs.pqueue.PqueueSeqObject.leaves.Goals as goal

pub returns-in-Some-Insert : goal.returns-in-Some-Insert
returns-in-Some-Insert c =
    let asked : pqueue_operation c.args.op ≡ Some (Insert c.in-Some-Insert.field-0-0) =
    sym c.from_word.ensures ∙ (c.in-Some-Insert.is ∙ ap Some c.in-Some-Insert.field-0-is) in
    let step : Option PqueueOperation → List ℕ → List ℕ × ℕ = λ o list. pqueue_after list o in
    subst (λ o. IsTrue (not (c.args.reply == reply_done)) ↔ LeavesBy (step o) c.args.reply)
    (sym asked)
    (leaves_but_with (step (Some (Insert c.in-Some-Insert.field-0-0))) reply_done c.args.reply
    (λ list. inl refl) ([], refl, λ same. omega (arith, ap length same)))

pub returns-in-Some-Min : goal.returns-in-Some-Min
returns-in-Some-Min c =
    let asked : pqueue_operation c.args.op ≡ Some Min =
    sym c.from_word.ensures ∙ (c.in-Some-Min.is ∙ ap Some c.in-Some-Min.field-0-is) in
    let step : Option PqueueOperation → List ℕ → List ℕ × ℕ = λ o list. pqueue_after list o in
    subst (λ o. IsTrue (not c.is_value.result) ↔ LeavesBy (step o) c.args.reply) (sym asked)
    (first_taken_leaves c.args.reply c.is_value.result c.is_value.ensures)
