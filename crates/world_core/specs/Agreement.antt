-- When a caller's local and the words of the table agree, as they do in every reachable world.
use Rattle.std.specs.Prelude.{◌≡◌, ℕ, ◌+◌, ◌<◌, ◌≤◌, true, false, IsTrue, List, [], length, Option, Some, None, slice_index}
use Rattle.world_core.specs.declared.region.Region.{Region}
use Rattle.world_core.specs.declared.region.Region.TheVariants.{N}
use Rattle.world_core.specs.Layout.{places, content, count_index, place_index}
use Rattle.world_core.specs.Shape.{Shape}
use Rattle.world_core.specs.Local.{Phase, Announcing, Asking, Viewing, Publishing, Judging, Staged, Scan, Local, own_count, word_of}
use Rattle.world_core.specs.Event.{is_staging, is_staged, staged_at, is_due}

-- How many announced calls of a caller in this phase have no published record yet.
abbrev pub unpublished_calls : Phase → ℕ
unpublished_calls Announcing = 0
unpublished_calls Asking = 1
unpublished_calls Viewing = 1
unpublished_calls Publishing = 1
unpublished_calls Judging = 0

-- How many replies of a caller in this phase are in no published record yet.
abbrev pub unpublished_replies : Phase → ℕ
unpublished_replies Announcing = 0
unpublished_replies Asking = 0
unpublished_replies Viewing = 1
unpublished_replies Publishing = 1
unpublished_replies Judging = 0

-- How many views of a caller in this phase are in no published record yet.
abbrev pub unpublished_views : Phase → ℕ
unpublished_views Announcing = 0
unpublished_views Asking = 0
unpublished_views Viewing = 0
unpublished_views Publishing = 1
unpublished_views Judging = 0

-- How many published records of a caller in this phase have no seen cut yet.
abbrev pub unseen_records : Phase → ℕ
unseen_records Announcing = 0
unseen_records Asking = 0
unseen_records Viewing = 0
unseen_records Publishing = 0
unseen_records Judging = 1

-- The counts of a local and the lengths of its lists are those that its phase demands: the
-- announced calls, the replies and the views are more than the published records by as many as have
-- no published record in this phase; the seen cuts are fewer than the published records by as many
-- as have no seen cut in it; there are as many operations, cuts embedded in N and lists of object
-- steps as announced calls, and as many cuts embedded in M as published records.
pub record HasPhase (l : Local) : Type 0 where
  pub announced : l.announced ≡ l.published + unpublished_calls l.phase
  pub operations : length l.operations ≡ l.announced
  pub replies : length l.replies ≡ l.published + unpublished_replies l.phase
  pub views : length l.views ≡ l.published + unpublished_views l.phase
  pub seen : length l.seen + unseen_records l.phase ≡ l.published
  pub embedded_in_N : length l.embedded_in_N ≡ l.announced
  pub embedded_in_M : length l.embedded_in_M ≡ l.published
  pub object_steps : length l.object_steps ≡ l.announced

-- What scan a caller may have under way in a phase: in the phase view the view's scan, which is of
-- N; in any other phase no scan, or one that isn't the view's.
abbrev pub FitsPhase : Phase → Option Scan → Type 0
FitsPhase Viewing None = ⊥
FitsPhase Viewing (Some scan) = (scan.is_view ≡ true) × (scan.region ≡ N)
FitsPhase _ None = Unit {0}
FitsPhase _ (Some scan) = scan.is_view ≡ false

-- Words may be staged in the phases announce and publish; in any other phase no word is staged.
abbrev pub IsStagedIn : Phase → List Staged → Type 0
IsStagedIn Announcing staged = Unit {0}
IsStagedIn Publishing staged = Unit {0}
IsStagedIn _ staged = staged ≡ []

-- A cut to embed may be kept in the phases announce and publish; in any other phase there is no cut
-- to embed.
abbrev pub IsKeptIn : Phase → Option (List ℕ) → Type 0
IsKeptIn Announcing kept = Unit {0}
IsKeptIn Publishing kept = Unit {0}
IsKeptIn _ kept = kept ≡ None

-- The word that caller i with local l staged last at a place of a region is in its row under way:
-- that row is below the cap, the region has the place, the table has the word there, and the word
-- belongs there.
pub record IsInRow (s : Shape) (words : List ℕ) (i : ℕ) (l : Local) (region : Region)
    (place : ℕ) : Type 0 where
  pub row : own_count l region < s.cap
  pub place_fits : place < places s.callers region
  pub stands : slice_index words (place_index s.callers s.cap region i (own_count l region) place)
      ≡ staged_at l.staged place
  pub due : IsTrue (is_due l (content s.callers region place) (staged_at l.staged place))

-- The local of caller i agrees with the words of the table: its own counts are its count words; it
-- has announced at most as many calls as the cap says; each row whose number is below its count in
-- a region has the words of its call there; at each place where a word is staged, the word that was
-- staged last is in the row under way; and its staged words, its cut to embed, its counts and
-- lists, and its scan under way fit its phase.
pub record Agrees (s : Shape) (words : List ℕ) (i : ℕ) (l : Local) : Type 0 where
  pub counts : (region : Region)
      → slice_index words (count_index s.callers region i) ≡ own_count l region
  pub few : l.announced ≤ s.cap
  pub rows : (region : Region) (k place : ℕ) → k < own_count l region
      → place < places s.callers region
      → slice_index words (place_index s.callers s.cap region i k place)
      ≡ word_of l k (content s.callers region place)
  pub staged : (region : Region) (place : ℕ) → IsTrue (is_staging l.phase region)
      → IsTrue (is_staged l.staged place) → IsInRow s words i l region place
  pub staged_in : IsStagedIn l.phase l.staged
  pub kept_in : IsKeptIn l.phase l.to_embed
  pub phase : HasPhase l
  pub scan : FitsPhase l.phase l.scan
