-- Operations and their codes.
use Rattle.std.proofs.Common.{◌≡◌, ℕ, true, ◌==◌}
use Rattle.std.proofs.lemmas.Bool.{and_parts, eqb-true}
use Rattle.seq_objects.specs.Words.{OperationEntry, is_operation_of, code_of, has_arguments}

-- an operation of an entry has the entry's code
pub has_code : (word : ℕ) (entry : OperationEntry) → is_operation_of word entry ≡ true
    → code_of word ≡ entry.code
has_code word entry is = eqb-true (code_of word) entry.code
    (and_parts (code_of word == entry.code) (has_arguments entry.arity word) is).0
