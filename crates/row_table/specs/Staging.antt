-- A row that is staged word by word and then counted, and the local of its caller after that.
use Rattle.std.specs.Prelude.{◌≡◌, ℕ, ◌+◌, ◌<◌, List, [], ◌∷◌, ◌++◌, length, Some, slice_index, slice_index_or}
use Rattle.world_core.specs.Local.{Announcing, Publishing, Staged, Local}
use Rattle.world_core.specs.Event.{Announce, local_after}

-- The staged words of a row once `words` are staged too, the first at `place` and each further one
-- at the next place; the word staged last comes first.
abbrev pub staged_from : ℕ → List ℕ → List Staged → List Staged
staged_from place [] staged = staged
staged_from place (x ∷ words) staged =
    staged_from (place + 1) words (record { place = place; word = x } ∷ staged)

-- The local with these words staged.
abbrev pub with_staged : Local → List Staged → Local
with_staged l staged = record l { staged = staged }

-- The local after the announcement of a call, with this operation as the last one of the caller.
abbrev pub local_announced : ℕ → ℕ → Local → Local
local_announced n op l = record (local_after n l Announce) { operations = l.operations ++ op ∷ [] }

-- A caller with this local, one of n callers with `cap` rows each, may announce a call in a row
-- that embeds this cut: its phase is announce, it has a row left, and the cut is the one to embed
-- and has n counts.
pub record MayAnnounce (n cap : ℕ) (cut : List ℕ) (l : Local) : Type 0 where
  pub phase : l.phase ≡ Announcing
  pub row : l.announced < cap
  pub embeds : l.to_embed ≡ Some cut
  pub wide : length cut ≡ n

-- A caller with this local, one of n callers, may publish the record of its last call in a row that
-- embeds this cut: its phase is publish, the record has this reply and this view of n counts, and
-- the cut is the one to embed and has n counts.
pub record MayPublish (n : ℕ) (reply : ℕ) (view cut : List ℕ) (l : Local) : Type 0 where
  pub phase : l.phase ≡ Publishing
  pub reply_is : slice_index l.replies l.published ≡ reply
  pub view_is : slice_index_or l.views l.published [] ≡ view
  pub view_wide : length view ≡ n
  pub embeds : l.to_embed ≡ Some cut
  pub wide : length cut ≡ n
