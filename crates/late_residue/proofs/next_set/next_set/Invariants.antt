use Rattle.late_residue.specs.Reached.{descriptions_of}
use Rattle.late_residue.proofs.Next.{AreBegun}
use Rattle.late_residue.proofs.next_set.next_set.Given as goal

abbrev pub invariant-loop-one : goal.invariant-loop-one
invariant-loop-one g l = AreBegun (g.O.SeqObject.spec l.object) l.calls l.returning l.reply l.before
    (descriptions_of l.ones.items) (descriptions_of l.left.items) l.one-index
