use Rattle.std.proofs.Common.{◌≡◌, ℕ, ◌/◌, ◌^◌, ◌==◌, ◌↔◌, not, List, Option, Some, IsTrue, sym, ap, subst, ◌∙◌}
use Rattle.std.proofs.lemmas.Bool.{eqb-true, eqb-false, not-true, not-false}
use Rattle.seq_objects.specs.declared.map.MapOperation.{MapOperation}
use Rattle.seq_objects.specs.declared.map.MapOperation.TheVariants.{Put, Delete}
use Rattle.seq_objects.specs.Replies.{reply_none, reply_value}
use Rattle.seq_objects.specs.MapSteps.{map_operation, map_after}
use Rattle.seq_objects.proofs.ReadOnly.{LeavesBy, Changes, value_is_small, tells_read_only, deleted_leaves, put_with_its_value_leaves, put_without_reply_leaves, put_first_changes, put_another_changes}
use Rattle.seq_objects.proofs.map.MapSeqObject.leaves.Goals as goal

pub returns-then-reply-wrapping_value_reply : goal.returns-then-reply-wrapping_value_reply
returns-then-reply-wrapping_value_reply c =
    let asked : map_operation c.args.op ≡ Some (Put c.in-Some-Put.field-0-0 c.in-Some-Put.value) =
    sym c.from_word.ensures ∙ (c.in-Some-Put.is ∙ ap Some c.in-Some-Put.field-0-is) in
    let step : Option MapOperation → List ℕ → List ℕ × ℕ = λ o list. map_after list o in
    subst (λ o. IsTrue (c.args.reply == c.wrapping_value_reply.result)
    ↔ LeavesBy (step o) c.args.reply) (sym asked)
    (tells_read_only (c.args.reply == c.wrapping_value_reply.result)
    (step (Some (Put c.in-Some-Put.field-0-0 c.in-Some-Put.value))) c.args.reply
    (λ same. put_with_its_value_leaves c.in-Some-Put.field-0-0 c.in-Some-Put.value c.args.reply
    (value_is_small c.args.op c.in-Some-Put.field-0-0 c.in-Some-Put.value asked) (cc))
    (λ other.
    absurd (eqb-false c.args.reply c.wrapping_value_reply.result other
    c.if-reply-wrapping_value_reply.true)))

pub returns-then-reply-ne-NONE : goal.returns-then-reply-ne-NONE
returns-then-reply-ne-NONE c =
    let asked : map_operation c.args.op ≡ Some (Put c.in-Some-Put.field-0-0 c.in-Some-Put.value) =
    sym c.from_word.ensures ∙ (c.in-Some-Put.is ∙ ap Some c.in-Some-Put.field-0-is) in
    let step : Option MapOperation → List ℕ → List ℕ × ℕ = λ o list. map_after list o in
    let value : c.wrapping_value_reply.result ≡ reply_value c.in-Some-Put.value =
    c.wrapping_value_reply.ensures ∙ ap reply_value c.from.ensures in
    subst (λ o. IsTrue (not c.is_value.result) ↔ LeavesBy (step o) c.args.reply) (sym asked)
    (tells_read_only (not c.is_value.result)
    (step (Some (Put c.in-Some-Put.field-0-0 c.in-Some-Put.value))) c.args.reply
    (λ other. put_without_reply_leaves c.in-Some-Put.field-0-0 c.in-Some-Put.value c.args.reply
    c.if-reply-ne-NONE.true (eqb-false (c.args.reply / 2 ^ 32) 2
    (sym c.is_value.ensures ∙ not-true c.is_value.result other)))
    (λ given. put_another_changes c.in-Some-Put.field-0-0 c.in-Some-Put.value c.args.reply
    (value_is_small c.args.op c.in-Some-Put.field-0-0 c.in-Some-Put.value asked) (eqb-true
    (c.args.reply / 2 ^ 32) 2 (sym c.is_value.ensures ∙ not-false c.is_value.result given))
    (λ same. c.if-reply-wrapping_value_reply.false (same ∙ sym value))))

pub returns-else-reply-ne-NONE : goal.returns-else-reply-ne-NONE
returns-else-reply-ne-NONE c =
    let asked : map_operation c.args.op ≡ Some (Put c.in-Some-Put.field-0-0 c.in-Some-Put.value) =
    sym c.from_word.ensures ∙ (c.in-Some-Put.is ∙ ap Some c.in-Some-Put.field-0-is) in
    let step : Option MapOperation → List ℕ → List ℕ × ℕ = λ o list. map_after list o in
    subst (λ o. IsTrue (not (c.args.reply == reply_none)) ↔ LeavesBy (step o) c.args.reply)
    (sym asked)
    (tells_read_only (not (c.args.reply == reply_none))
    (step (Some (Put c.in-Some-Put.field-0-0 c.in-Some-Put.value))) c.args.reply
    (λ other. absurd (eqb-false c.args.reply reply_none
    (not-true (c.args.reply == reply_none) other) c.if-reply-ne-NONE.false))
    (λ none. subst (λ r. Changes (step (Some (Put c.in-Some-Put.field-0-0 c.in-Some-Put.value))) r)
    (sym c.if-reply-ne-NONE.false) (put_first_changes c.in-Some-Put.field-0-0 c.in-Some-Put.value)))

pub returns-in-Some-Delete : goal.returns-in-Some-Delete
returns-in-Some-Delete c =
    let asked : map_operation c.args.op ≡ Some (Delete c.in-Some-Delete.field-0-0) =
    sym c.from_word.ensures ∙ (c.in-Some-Delete.is ∙ ap Some c.in-Some-Delete.field-0-is) in
    let step : Option MapOperation → List ℕ → List ℕ × ℕ = λ o list. map_after list o in
    subst (λ o. IsTrue (not c.is_value-in-Some-Delete.result) ↔ LeavesBy (step o) c.args.reply)
    (sym asked)
    (deleted_leaves c.in-Some-Delete.field-0-0 c.args.reply c.is_value-in-Some-Delete.result
    c.is_value-in-Some-Delete.ensures)
