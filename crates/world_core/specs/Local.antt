-- What one caller has done and found so far, as plain data.
use Rattle.std.specs.Prelude.{◌≡◌, ℕ, Bool, List, [], ◌∷◌, ◌++◌, Option, None, slice_index, slice_index_or, slice_set}
use Rattle.book_base.specs.OperationWord.{low_of, high_of}
use Rattle.world_core.specs.Layout.{Content, Low, High, Reply, View_entry, Embedded_entry}
use Rattle.world_core.specs.declared.region.Region.{Region}
use Rattle.world_core.specs.declared.region.Region.TheVariants.{N, M}

-- The five phases of a call: announce the operation, ask the object, take the view, publish the
-- record, and judge.
pub data Phase : Type 0 where
  Announcing : Phase
  Asking : Phase
  Viewing : Phase
  Publishing : Phase
  Judging : Phase

-- A word staged by a caller at a place of its row under way.
pub record Staged : Type 0 where
  pub place : ℕ
  pub word : ℕ

-- A scan under way: its region, whether it is the view's, how many counts its caller had looked at
-- before it began, and the words that it has taken, in order.
pub record Scan : Type 0 where
  pub region : Region
  pub is_view : Bool
  pub since : ℕ
  pub taken : List ℕ

-- A cut that a scan of a region gave, and how many counts its caller had looked at before that scan
-- began.
pub record Given : Type 0 where
  pub region : Region
  pub cut : List ℕ
  pub since : ℕ

-- A count that a caller looked at: the region, the caller whose count it is, and the count found.
pub record Looked : Type 0 where
  pub region : Region
  pub caller : ℕ
  pub count : ℕ

-- A row word that a caller peeked: the region, the caller whose row it is, the row's number, the
-- place in the region, and the word found.
pub record Peeked : Type 0 where
  pub region : Region
  pub caller : ℕ
  pub row : ℕ
  pub place : ℕ
  pub word : ℕ

-- A step on an object word: the place of that word, the word that the step found there, and the
-- word that it left there.
pub record Object_step : Type 0 where
  pub place : ℕ
  pub old : ℕ
  pub new : ℕ

-- The local of a caller: the operations that it announced, and its counts in N and M; its replies,
-- its views and its seen cuts; the cuts that its counted rows embed in N and in M; for each of its
-- calls the steps that it made on object words; its phase, the words staged in the row under way,
-- the cut that this row is to embed, if there is one, and the scan under way, if there is one; the
-- cuts that its scans gave; the counts that it has looked at, and the row words that it has peeked.
-- What was staged, looked at and peeked is listed newest first, and all else oldest first.
pub record Local : Type 0 where
  pub operations : List ℕ
  pub announced : ℕ
  pub published : ℕ
  pub replies : List ℕ
  pub views : List (List ℕ)
  pub seen : List (List ℕ)
  pub embedded_in_N : List (List ℕ)
  pub embedded_in_M : List (List ℕ)
  pub object_steps : List (List Object_step)
  pub phase : Phase
  pub staged : List Staged
  pub to_embed : Option (List ℕ)
  pub scan : Option Scan
  pub cuts : List Given
  pub looked : List Looked
  pub peeked : List Peeked

-- The local of a caller at the start: all lists are empty, both counts are 0, the phase is
-- announce, and there is neither a cut to embed nor a scan under way.
abbrev pub fresh : Local
fresh =
    record {
      operations = [];
      announced = 0;
      published = 0;
      replies = [];
      views = [];
      seen = [];
      embedded_in_N = [];
      embedded_in_M = [];
      object_steps = [];
      phase = Announcing;
      staged = [];
      to_embed = None;
      scan = None;
      cuts = [];
      looked = [];
      peeked = [];
    }

-- The count of the local's own caller in a region, which is also the number of the row that this
-- caller stages there next.
abbrev pub own_count : Local → Region → ℕ
own_count l N = l.announced
own_count l M = l.published

-- The cuts that the counted rows of the local's caller embed in a region, by number of the row.
abbrev pub embedded_in : Local → Region → List (List ℕ)
embedded_in l N = l.embedded_in_N
embedded_in l M = l.embedded_in_M

-- A caller is idle where its phase is announce and no word of its row is staged.
pub record IsIdle (l : Local) : Type 0 where
  pub announcing : l.phase ≡ Announcing
  pub unstaged : l.staged ≡ []

-- The word of call k that belongs at a place of its row, given what the place is for: the low or
-- the high word of its operation, its reply, an entry of its view, or an entry of the cut that its
-- row embeds in a region.
abbrev pub word_of : Local → ℕ → Content → ℕ
word_of l k Low = low_of (slice_index l.operations k)
word_of l k High = high_of (slice_index l.operations k)
word_of l k Reply = slice_index l.replies k
word_of l k (View_entry j) = slice_index (slice_index_or l.views k []) j
word_of l k (Embedded_entry region j) = slice_index (slice_index_or (embedded_in l region) k []) j

-- The object steps of each call once a step is added after those of call k.
abbrev pub with_step : List (List Object_step) → ℕ → Object_step → List (List Object_step)
with_step steps k step = slice_set steps k (slice_index_or steps k [] ++ step ∷ [])
