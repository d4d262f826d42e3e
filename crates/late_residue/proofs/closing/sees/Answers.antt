use Rattle.std.proofs.Common.{ℕ, sym, subst, inr}
use Rattle.late_residue.specs.Reached.{description_of}
use Rattle.late_residue.specs.Placing.{Rests}
use Rattle.late_residue.proofs.closing.sees.Goals as goal

pub returns-then-rests : goal.returns-then-rests
returns-then-rests g c is = record {
  written = λ lacks may. inr (subst (λ (r : ℕ). Rests (g.O.SeqObject.spec c.args.object.now).next
      c.args.returning.now.call (description_of c.args.after.now) c.args.other.now r)
      c.in_ok-reply.ensures.reply (c.rests.ensures c.if-rests.true));
}

pub returns-then-rests_known : goal.returns-then-rests_known
returns-then-rests_known g c is =
    let (reply, known, rests) = c.rests_known.ensures c.if-rests_known.true in record {
      written = λ lacks may. inr (subst (λ (r : ℕ). Rests
          (g.O.SeqObject.spec c.args.object.now).next c.args.returning.now.call
          (description_of c.args.after.now) c.args.other.now r) (sym (may reply known)) rests);
    }
