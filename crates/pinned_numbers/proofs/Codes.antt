-- Whether an operation is a put or a take depends on its code alone.
use Rattle.std.proofs.Common.{◌≡◌, ℕ, true, Bool, ◌==◌, ap, ◌∙◌}
use Rattle.std.proofs.lemmas.Bool.{and_parts, eqb-true}
use Rattle.seq_objects.specs.Words.{OperationEntry, code_of, has_arguments, is_operation_of}
use Rattle.test_objects.specs.Calls.{is_put, is_take}

code_is : (word : ℕ) (e : OperationEntry) → is_operation_of word e ≡ true → code_of word ≡ e.code
code_is word e is = eqb-true (code_of word) e.code
    (and_parts (code_of word == e.code) (has_arguments e.arity word) is).0

-- an operation of an entry is a put, and a take, as the entry's code says
pub by_code : (e : OperationEntry) (put take : Bool) → (e.code == 1) ≡ put → (e.code == 2) ≡ take
    → (word : ℕ) → is_operation_of word e ≡ true → (is_put word ≡ put) × (is_take word ≡ take)
by_code e put take p t word is =
    let code = code_is word e is in
    (ap (λ (n : ℕ). n == 1) code ∙ p, ap (λ (n : ℕ). n == 2) code ∙ t)
