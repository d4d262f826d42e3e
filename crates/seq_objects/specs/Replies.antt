-- The words of replies, which are the same for all kinds, and the one text of each.
use Rattle.std.specs.Prelude.{ℕ, ◌+◌, ◌*◌, ◌/◌, ◌%◌, ◌^◌, ◌==◌, ◌||◌, Bool, List, [], ◌∷◌, ◌++◌, find, codes, decimal, Option, Some, None, is_some, if◌then◌else◌}

-- The reply word that has the tag `tag` above its low 32 bits and the value `value`, which is below
-- 2 ^ 32, in these bits.
abbrev pub tagged : ℕ → ℕ → ℕ
tagged tag value = tag * 2 ^ 32 + value

-- The reply `done`: the operation was made, and there is nothing more to say.
abbrev pub reply_done : ℕ
reply_done = tagged 0 0

-- The reply `none`: there is no item.
abbrev pub reply_none : ℕ
reply_none = tagged 1 0

-- The reply that gives an item, modulo 2 ^ 32.
abbrev pub reply_value : ℕ → ℕ
reply_value item = tagged 2 (item % 2 ^ 32)

-- The reply `no`: a set or a compare-and-set changed nothing, or a set doesn't have the value that
-- was asked for.
abbrev pub reply_no : ℕ
reply_no = tagged 3 0

-- The reply `yes`: an addition, a removal or a compare-and-set succeeded, or a set has the value
-- that was asked for.
abbrev pub reply_yes : ℕ
reply_yes = tagged 3 1

-- The reply `bad`: the object doesn't know the operation.
abbrev pub reply_bad : ℕ
reply_bad = tagged 4 0

-- A reply word whose text is a name, and this name.
pub record NamedReply : Type 0 where
  pub name : List ℕ
  pub word : ℕ

-- The table of the replies whose text is a name.
unfoldable pub named_replies : List NamedReply
named_replies =
    record { name = codes "done"; word = reply_done }
    ∷ record { name = codes "none"; word = reply_none }
    ∷ record { name = codes "no"; word = reply_no }
    ∷ record { name = codes "yes"; word = reply_yes }
    ∷ record { name = codes "bad"; word = reply_bad }
    ∷ []

-- The entry of a reply word in the table of named replies, where the table has it.
unfoldable pub named_reply : ℕ → Option NamedReply
named_reply word = find (λ reply. word == reply.word) named_replies

-- Whether a reply word gives a value: its tag is that of a value.
abbrev pub is_value : ℕ → Bool
is_value word = word / 2 ^ 32 == 2

-- Whether a reply word gives a value or is the reply `none`.
abbrev pub is_value_or_none : ℕ → Bool
is_value_or_none word = word == reply_none || is_value word

-- Whether a reply word is the reply `yes` or the reply `no`.
abbrev pub is_yes_or_no : ℕ → Bool
is_yes_or_no word = word == reply_yes || word == reply_no

-- The value of a word of a list: its low 32 bits.
abbrev pub value_of : ℕ → ℕ
value_of word = word % 2 ^ 32

-- The value that a reply word gives, or none where it gives no value.
abbrev pub shown_value : ℕ → Option ℕ
shown_value reply = if is_value reply then Some (value_of reply) else None

-- Whether the text of a reply word is a name, or '=' and a value.
unfoldable pub is_known_reply : ℕ → Bool
is_known_reply word = is_some (named_reply word) || is_value word

-- The text of a reply word, given its entry in the table of named replies: the entry's name.
-- Without an entry: '=' and the value, where the reply word gives one, else '#' and the whole
-- number.
abbrev pub reply_word_by_entry : Option NamedReply → ℕ → List ℕ
reply_word_by_entry (Some reply) word = reply.name
reply_word_by_entry None word =
    if is_value word then codes "=" ++ decimal (word % 2 ^ 32) else codes "#" ++ decimal word

-- The text of a reply word: one word of a text.
unfoldable pub reply_word : ℕ → List ℕ
reply_word word = reply_word_by_entry (named_reply word) word
