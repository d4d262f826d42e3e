use Rattle.std.proofs.Common.{[], ◌∷◌, arith}
use Rattle.book_base.proofs.ReachingLemmas.{capacity-by_steps}
use Rattle.seq_objects.specs.declared.kind.Kind.TheVariants as kinds
use Rattle.seq_objects.specs.Objects.{kind_next, length-kind_next}
use Rattle.whole_texts.proofs.own_objects.FilledQueueSeqObject.capacity.Goals as goal

pub returns-clause-fits : goal.returns-clause-fits
returns-clause-fits c =
    capacity-by_steps (record { init = 5 ∷ 6 ∷ 7 ∷ []; next = kind_next kinds.Queue })
    (length-kind_next kinds.Queue) c.args.operations _ (omega arith)
