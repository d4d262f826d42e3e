use Rattle.std.proofs.Common.{zero, suc, [], ◌∷◌, refl, arith}
use Rattle.book_base.specs.Cut.{IsWithin}
use Rattle.book_base.specs.Book.{answered}
use Rattle.seq_objects.specs.declared.kind.Kind.TheVariants as kinds
use Rattle.judging_examples.specs.EvidenceBooks.{three_increments, two_zeros, misread, read_beside_write}
use Rattle.judging_examples.proofs.EvidenceBooks.{three_increments_are_valid, misread_is_valid}
use Rattle.smaller_book.proofs.Steps.{cut_evidence}
use Rattle.judging_examples.proofs.evidence.parts_by_a_cut.Goals as goal

without_last : IsWithin (1 ∷ 1 ∷ 0 ∷ []) (answered three_increments)
without_last zero = omega arith
without_last (suc zero) = omega arith
without_last (suc (suc zero)) = omega arith
without_last (suc (suc (suc i))) = omega arith

pub returns-clause-increments : goal.returns-clause-increments
returns-clause-increments c =
    cut_evidence kinds.Counter three_increments two_zeros three_increments_are_valid
    (record { cut = 1 ∷ 1 ∷ 0 ∷ []; within = without_last; at_cut = refl })

without_write : IsWithin (0 ∷ 1 ∷ []) (answered misread)
without_write zero = omega arith
without_write (suc zero) = omega arith
without_write (suc (suc i)) = omega arith

pub returns-clause-read : goal.returns-clause-read
returns-clause-read c =
    cut_evidence kinds.Register misread read_beside_write misread_is_valid
    (record { cut = 0 ∷ 1 ∷ []; within = without_write; at_cut = refl })
