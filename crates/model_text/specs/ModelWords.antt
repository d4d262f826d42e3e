-- The words of a model's operations in a text.
use Rattle.std.specs.Prelude.{ℕ, ◌-◌, ◌^◌, Bool, nat_le, nat_lt, ◌&&◌, List, [], ◌∷◌, ◌++◌, codes, decimal, if◌then◌else◌}
use Rattle.seq_objects.specs.Words.{whole_digits}
use Rattle.text_fields.specs.Operations.{Operations}

-- an operation word is that of a number below 2^32: its code is 1, the number is its argument, and
-- its extra is 0
abbrev pub is_numbered : ℕ → Bool
is_numbered op = nat_le (2 ^ 32) op && nat_lt op (2 ^ 33)

-- the one word of an operation without a number: '#' and the whole operation word in digits
abbrev pub other_word : ℕ → List ℕ
other_word op = codes "#" ++ whole_digits op

-- the words of an operation: 'op' and its number, or, where it has none, one word, which is '#' and
-- the whole operation word in digits
unfoldable pub model_words : ℕ → List (List ℕ)
model_words op =
    if is_numbered op then codes "op" ∷ decimal (op - 2 ^ 32) ∷ [] else other_word op ∷ []

-- the operations of a model in a text of version 2
abbrev pub model_operations : Operations
model_operations = record { has = λ op. nat_lt op (2 ^ 128); words = model_words }
