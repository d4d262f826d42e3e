use Rattle.std.proofs.Common.{◌≡◌, ◌∙◌, ℕ, ◌==◌, sym, ap, true, false, ne_eqb, eq-eqb}
use Rattle.wrapped_objects.specs.declared.ticket_dispenser.TicketDispenser.{TicketDispenser}
use Rattle.wrapped_objects.specs.Tickets.{take, ticket, dispenser}
use Rattle.core_objects.proofs.OneWordReplies.{replies_bad, replies_by_step}
use Rattle.wrapped_objects.proofs.ticket_dispenser.TicketDispenserCoreObject.reply.Goals as goal

pub returns-then-op-ne-TAKE : goal.returns-then-op-ne-TAKE
returns-then-op-ne-TAKE c =
    let a = c.args.announced.now in
    let other : (a.op == take) ≡ false =
    ap (λ (x : ℕ). x == take) (sym c.op.ensures) ∙ ne_eqb c.op.result take c.if-op-ne-TAKE.true in
    record {
      made = (
        replies_bad (λ (d : TicketDispenser). dispenser d.first) c.args.rows.now a c.requires.caller
            c.requires.first other,
        c.requires.fits,
      );
    }

pub returns : goal.returns
returns c =
    let a = c.args.announced.now in
    let takes : (a.op == take) ≡ true =
    ap (λ (x : ℕ). x == take) (sym c.op.ensures) ∙ eq-eqb c.op.result take c.if-op-ne-TAKE.false in
    let taken : ℕ = c.object_add-taken.result in
    let told = c.ticket.ensures
    ∙ ap (λ (d : TicketDispenser). ticket d.first taken) (sym c.requires.program.program_is) in
    record {
      made = (
        replies_by_step (λ (d : TicketDispenser). dispenser d.first) c.args.rows.now a
            c.requires.caller c.requires.first
            c.object_add-taken.new.self _ c.ticket.result c.object_add-taken.ensures takes told,
        c.requires.fits,
      );
    }
