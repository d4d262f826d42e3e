-- What the local of a caller is during one of its calls; the call's number is the caller's count of
-- published records.
use Rattle.std.specs.Prelude.{◌≡◌, ℕ, ◌+◌, Bool, true, false, [], slice_index, slice_index_or}
use Rattle.book_base.specs.declared.call.Record.{Record}
use Rattle.world_core.specs.Local.{Local, Phase, Publishing}
use Rattle.world_core.specs.Event.{is_asking, is_unstaged, is_view_under_way}

-- Whether a phase is the one in which a record is published.
abbrev pub is_publishing : Phase → Bool
is_publishing Publishing = true
is_publishing _ = false

-- The caller has announced a call of this operation, and no look has carried its reply yet. No word
-- is staged, and the view's scan isn't under way.
pub record IsAsked (op : ℕ) (l : Local) : Type 0 where
  pub asking : is_asking l.phase ≡ true
  pub unstaged : is_unstaged l.staged ≡ true
  pub counted : l.announced ≡ l.published + 1
  pub operation : slice_index l.operations l.published ≡ op
  pub scan : is_view_under_way l.scan ≡ false

-- The caller has announced a call of this operation, which has this record. The record isn't
-- published yet, and none of its words is staged.
pub record IsRecorded (op : ℕ) (r : Record) (l : Local) : Type 0 where
  pub publishing : is_publishing l.phase ≡ true
  pub unstaged : is_unstaged l.staged ≡ true
  pub counted : l.announced ≡ l.published + 1
  pub operation : slice_index l.operations l.published ≡ op
  pub reply_is : slice_index l.replies l.published ≡ r.reply
  pub view_is : slice_index_or l.views l.published [] ≡ r.view
