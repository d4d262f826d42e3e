-- The words of joins in a text.
use Rattle.std.specs.Prelude.{ℕ, ◌-◌, ◌^◌, nat_lt, List, [], ◌∷◌, ◌++◌, codes, decimal, if◌then◌else◌}
use Rattle.seq_objects.specs.Words.{whole_digits}
use Rattle.set_order.specs.Joins.{is_join}
use Rattle.text_fields.specs.Operations.{Operations}

-- the one word of an operation that joins nothing: '#' and the whole operation word in digits
abbrev pub other_word : ℕ → List ℕ
other_word op = codes "#" ++ whole_digits op

-- the words of an operation: 'join' and the number that it joins, or, where it joins nothing, one
-- word, which is '#' and the whole operation word in digits
unfoldable pub join_words : ℕ → List (List ℕ)
join_words op = if is_join op then codes "join" ∷ decimal (op - 2 ^ 32) ∷ [] else other_word op ∷ []

-- the operations of joins in a text of version 2
abbrev pub join_operations : Operations
join_operations = record { has = λ op. nat_lt op (2 ^ 128); words = join_words }
