-- The keys of the operations of each kind, by which its streams fall into parts.
use Rattle.std.specs.Prelude.{ℕ, ◌↔◌, List, unwrap_or}
use Rattle.seq_objects.specs.declared.kind.Kind.{Kind}
use Rattle.seq_objects.specs.declared.kind.Kind.TheVariants as kinds
use Rattle.seq_objects.specs.Objects.{kind_spec}
use Rattle.streams.specs.Stream.{StreamEvent}
use Rattle.streams.specs.StreamOrder.{HasLegalStreamOrder}
use Rattle.kind_search.specs.Keys.{set_key, map_key}
use Rattle.locality.specs.Locality.{IsProduct}
use Rattle.stream_locality.specs.StreamParts.{IsStreamOfKey}

-- The key of an operation word: of a set the value that is added, removed or looked for, of a map the
-- key that is put, got or deleted. A word that these don't know has the key 0, and so has each word
-- of the other kinds.
abbrev pub key_of_kind : Kind → ℕ → ℕ
key_of_kind kinds.IntSet word = unwrap_or (set_key word) 0
key_of_kind kinds.Map word = unwrap_or (map_key word) 0
key_of_kind kinds.Queue word = 0
key_of_kind kinds.Stack word = 0
key_of_kind kinds.Pqueue word = 0
key_of_kind kinds.Register word = 0
key_of_kind kinds.Counter word = 0
key_of_kind kinds.CasRegister word = 0

-- An object of a kind is a product of objects of this kind, one for each key.
abbrev pub KindsAreProducts : Type 0
KindsAreProducts = (kind : Kind) → (list_of : ℕ → List ℕ → List ℕ)
    × IsProduct (key_of_kind kind) list_of (λ _. kind_spec kind) (kind_spec kind)

-- An object of a kind has a legal order of a stream exactly where it has one of each key's part.
abbrev pub KindLocality : Type 0
KindLocality = (kind : Kind) (whole : List StreamEvent) (places : ℕ → List ℕ)
    (parts : ℕ → List StreamEvent)
    → ((k : ℕ) → IsStreamOfKey (key_of_kind kind) k whole (places k) (parts k))
    → (HasLegalStreamOrder (kind_spec kind) whole
    ↔ ((k : ℕ) → HasLegalStreamOrder (kind_spec kind) (parts k)))
