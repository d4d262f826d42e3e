-- The two versions of texts, and what sets them apart.
use Rattle.std.specs.Prelude.{ℕ, ◌^◌, Bool, true, List, codes}
use Rattle.seq_objects.specs.declared.kind.Kind.{Kind}
use Rattle.seq_objects.specs.Words.{is_first_kind}
use Rattle.text_fields.specs.declared.version.Version.{Version}
use Rattle.text_fields.specs.declared.version.Version.TheVariants.{First, Second}

-- the word for a version in a title
abbrev pub version_word : Version → List ℕ
version_word First = codes "1"
version_word Second = codes "2"

-- the greatest number of callers in a version's texts
abbrev pub most_callers : Version → ℕ
most_callers First = 8
most_callers Second = 16

-- the greatest number of calls of a caller in a version's texts
abbrev pub most_calls : Version → ℕ
most_calls First = 64
most_calls Second = 256

-- whether texts of a version have a kind: version 1 has the first six
abbrev pub has_kind : Version → Kind → Bool
has_kind First kind = is_first_kind kind
has_kind Second kind = true

-- the operation words of a version's texts are the numbers below this one
abbrev pub word_limit : Version → ℕ
word_limit First = 2 ^ 64
word_limit Second = 2 ^ 128
