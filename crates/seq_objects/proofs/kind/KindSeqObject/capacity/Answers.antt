use Rattle.std.proofs.Common.{arith}
use Rattle.book_base.proofs.ReachingLemmas.{capacity-by_steps}
use Rattle.seq_objects.specs.Objects.{kind_spec, length-kind_init, length-kind_next}
use Rattle.seq_objects.proofs.kind.KindSeqObject.capacity.Goals as goal

pub returns-clause-fits : goal.returns-clause-fits
returns-clause-fits c =
    let kind = c.args.self.now in
    capacity-by_steps (kind_spec kind) (length-kind_next kind) c.args.operations _
    (omega (arith, length-kind_init kind))
