use Rattle.std.proofs.Common.{◌≡◌, ◌∙◌, ℕ, false, true, sym, ap}
use Rattle.seq_objects.specs.Words.{is_operation_of}
use Rattle.seq_objects.specs.Words as words
use Rattle.world_objects.specs.TallyAndCell.{tally}
use Rattle.core_objects.specs.declared.tally.TallyProgram.{TallyProgram}
use Rattle.core_objects.proofs.OneWordReplies.{replies_bad, replies_by_step}
use Rattle.core_objects.proofs.tally.CoreTallyCoreObject.reply.Goals as goal

pub returns-then-not-makes_step : goal.returns-then-not-makes_step
returns-then-not-makes_step c =
    let a = c.args.announced.now in
    let none : is_operation_of a.op words.inc ≡ false =
    ap (λ (x : ℕ). is_operation_of x words.inc) (sym c.op.ensures) ∙ sym c.makes_step.ensures
    ∙ c.if-not-makes_step.true in
    record {
      made = (
        replies_bad (λ (p : TallyProgram). tally) c.args.rows.now a c.requires.caller
            c.requires.first none,
        c.requires.fits,
      );
    }

pub returns : goal.returns
returns c =
    let a = c.args.announced.now in
    let some : is_operation_of a.op words.inc ≡ true =
    ap (λ (x : ℕ). is_operation_of x words.inc) (sym c.op.ensures) ∙ sym c.makes_step.ensures
    ∙ c.if-not-makes_step.false in
    record {
      made = (
        replies_by_step (λ (p : TallyProgram). tally) c.args.rows.now a c.requires.caller
            c.requires.first c.object_add-found.new.self _
            c.wrapping_value_reply.result c.object_add-found.ensures some
            c.wrapping_value_reply.ensures,
        c.requires.fits,
      );
    }
