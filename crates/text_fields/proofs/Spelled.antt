-- Words that spell an operation in a text spell it for its kind.
use Rattle.std.proofs.Common.{ℕ, List}
use Rattle.seq_objects.specs.declared.kind.Kind.{Kind}
use Rattle.seq_objects.specs.Words.{Spells}
use Rattle.text_fields.specs.declared.version.Version.{Version}
use Rattle.text_fields.specs.Operations.{IsSpelled, kind_operations}

-- words that spell an operation in a text of either version spell it for the kind
pub spells_operation : (version : Version) (kind : Kind) (words : List (List ℕ)) (op used : ℕ)
    → IsSpelled (kind_operations version kind) words op used → Spells kind words op used
spells_operation version kind words op used s =
    record { suffix = s.suffix; whole = s.whole; count = s.count }
