-- Lemmas on the texts of set books and what `sets` says of them.
use Rattle.std.proofs.Common.{ℕ, List, subst}
use Rattle.book_base.specs.declared.fault.TextFault.{TextFault}
use Rattle.set_order.specs.SetBookRules.{IsFirstSetBookFault}
use Rattle.set_order.proofs.SharpSetBooks.{one_book, no_first_fault}
use Rattle.selfcheck.specs.SetInput.{JoinsAreLegal, IsSetInput, IsLegalSetInput, IsIllegalSetInput}

pub legal_or_illegal_sets : (bytes : List ℕ) → IsLegalSetInput bytes → IsIllegalSetInput bytes → ⊥
unfolding IsLegalSetInput IsIllegalSetInput
legal_or_illegal_sets bytes legal illegal =
    illegal.2 (subst JoinsAreLegal (one_book bytes legal.0 illegal.0 legal.1 illegal.1) legal.2)

pub IsSetInput-from_legal : (bytes : List ℕ) → IsLegalSetInput bytes → IsSetInput bytes
unfolding IsSetInput IsLegalSetInput
IsSetInput-from_legal bytes legal = (legal.0, legal.1)

pub IsSetInput-from_illegal : (bytes : List ℕ) → IsIllegalSetInput bytes → IsSetInput bytes
unfolding IsSetInput IsIllegalSetInput
IsSetInput-from_illegal bytes illegal = (illegal.0, illegal.1)

pub set_input_or_fault : (bytes : List ℕ) (fault : TextFault) → IsSetInput bytes
    → IsFirstSetBookFault bytes fault → ⊥
unfolding IsSetInput
set_input_or_fault bytes fault told first = no_first_fault bytes told.0 fault told.1 first
