use Rattle.std.proofs.Common.{◌≡◌, ◌∙◌, ℕ, ◌-◌, ◌^◌, false, true, ◌||◌, sym, ap, arith}
use Rattle.std.proofs.lemmas.Bool.{cond-true, cond-false}
use Rattle.seq_objects.specs.Words.{is_operation_of, argument_of}
use Rattle.seq_objects.specs.Words as words
use Rattle.seq_objects.specs.Replies.{reply_done, reply_value}
use Rattle.world_core.specs.Local.{Local, Object_step}
use Rattle.row_table.specs.Callers.{local_with}
use Rattle.world_objects.specs.TallyAndCell.{cell}
use Rattle.core_objects.specs.declared.cell.CellProgram.{CellProgram}
use Rattle.core_objects.proofs.OneWordCalls.{allows_step}
use Rattle.core_objects.proofs.OneWordReplies.{replies_bad, replies_by_step}
use Rattle.core_objects.proofs.RegisterWords.{IsWrite, read_is, known_is, writes}
use Rattle.core_objects.proofs.cell.CoreCellCoreObject.reply.Goals as goal

pub returns-then-op-eq-READ : goal.returns-then-op-eq-READ
returns-then-op-eq-READ c =
    let a = c.args.announced.now in
    let found : ℕ = c.object_load-found.result in
    let read = read_is a.op (sym c.op-op.ensures ∙ c.if-op-eq-READ.true) in
    record {
      made = (
        replies_by_step (λ (p : CellProgram). cell) c.args.rows.now a c.requires.caller
            c.requires.first c.object_load-found.new.self _
            c.wrapping_value_reply.result c.object_load-found.ensures
            (ap (λ b. b || is_operation_of a.op words.read) read.0 ∙ read.1)
            (c.wrapping_value_reply.ensures ∙ sym
            (cond-false (is_operation_of a.op words.write) reply_done (reply_value found) read.0)),
        c.requires.fits,
      );
    }

pub returns-then-not-known : goal.returns-then-not-known
returns-then-not-known c =
    let a = c.args.announced.now in
    let none : cell.makes_step a.op ≡ false =
    ap cell.makes_step (sym c.op-op.ensures) ∙ sym (known_is c.op-op.result) ∙ sym c.known.ensures
    ∙ c.if-not-known.true in
    record {
      made = (
        replies_bad (λ (p : CellProgram). cell) c.args.rows.now a c.requires.caller
            c.requires.first none,
        c.requires.fits,
      );
    }

pub overflow_sub-op : goal.overflow_sub-op
overflow_sub-op c =
    (writes c.op-op.result c.if-op-eq-READ.false (sym c.known.ensures ∙ c.if-not-known.false)).least

pub overflow_cast-op : goal.overflow_cast-op
overflow_cast-op c =
    let small = (writes c.op-op.result c.if-op-eq-READ.false
    (sym c.known.ensures ∙ c.if-not-known.false)).small in
    omega (arith, small)

pub object_store-requires-clause-program : goal.object_store-requires-clause-program
object_store-requires-clause-program c =
    let a = c.args.announced.now in
    let l : Local = local_with a.caller in
    let op : ℕ = c.op-op.result in
    let w : IsWrite op =
    writes op c.if-op-eq-READ.false (sym c.known.ensures ∙ c.if-not-known.false) in
    λ x low.
    allows_step cell l op x (op - 2 ^ 32) (a.asked.operation ∙ sym c.op-op.ensures) c.requires.first
    (ap (λ b. b || is_operation_of op words.read) w.write)
    (w.argument ∙ sym (cond-true (is_operation_of op words.write) (argument_of op) x w.write))

pub returns : goal.returns
returns c =
    let a = c.args.announced.now in
    let op : ℕ = c.op-op.result in
    let w : IsWrite op =
    writes op c.if-op-eq-READ.false (sym c.known.ensures ∙ c.if-not-known.false) in
    let write : is_operation_of a.op words.write ≡ true =
    ap (λ (x : ℕ). is_operation_of x words.write) (sym c.op-op.ensures) ∙ w.write in
    let found : ℕ = c.object_store.ensures.0 in
    let step : Object_step = record { place = 0; old = found; new = op - 2 ^ 32 } in
    record {
      made = (
        replies_by_step (λ (p : CellProgram). cell) c.args.rows.now a c.requires.caller
            c.requires.first c.object_store.new.self step
            reply_done c.object_store.ensures.2
            (ap (λ b. b || is_operation_of a.op words.read) write)
            (sym
            (cond-true (is_operation_of a.op words.write) reply_done (reply_value found) write)),
        c.requires.fits,
      );
    }
