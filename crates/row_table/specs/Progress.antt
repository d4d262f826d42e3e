-- What a caller has done for its calls: no peek changes it, and a look changes it only where it
-- begins the view's scan.
use Rattle.std.specs.Prelude.{◌≡◌, ℕ, List, Contains}
use Rattle.world_core.specs.declared.region.Region.{Region}
use Rattle.world_core.specs.Local.{Local, Object_step, Peeked}
use Rattle.world_core.specs.Event.{Event, Begins_none, Begins_scan, Look, Peek, local_after}

-- The work of a caller: its operations, how many calls it has announced and how many records it has
-- published, its replies, and its object steps.
pub record CallWork : Type 0 where
  pub operations : List ℕ
  pub announced : ℕ
  pub published : ℕ
  pub replies : List ℕ
  pub object_steps : List (List Object_step)

-- The operations, counts, replies and object steps that a caller with this local has.
abbrev pub work_of : Local → CallWork
work_of l = record {
  operations = l.operations;
  announced = l.announced;
  published = l.published;
  replies = l.replies;
  object_steps = l.object_steps;
}

-- A look that begins nothing, or a scan that isn't the view's, changes none of its caller's
-- operations, counts, replies and object steps, even where a scan ends with it.
abbrev pub LooksLeaveWork : Type 0
LooksLeaveWork =
    (n : ℕ) (l : Local) (region : Region) (j x : ℕ)
    → (work_of (local_after n l (Look region j x Begins_none)) ≡ work_of l)
    × (work_of (local_after n l (Look region j x Begins_scan)) ≡ work_of l)

-- A peek changes none of its caller's operations, counts, replies and object steps, even where a
-- scan ends with it.
abbrev pub PeeksLeaveWork : Type 0
PeeksLeaveWork = (n : ℕ) (l : Local) (region : Region) (j row place x : ℕ)
    → work_of (local_after n l (Peek region j row place x)) ≡ work_of l

-- Each peek in a caller's local is still in it after any event of this caller.
abbrev pub PeekedWordsStay : Type 0
PeekedWordsStay = (n : ℕ) (l : Local) (e : Event) (p : Peeked) → Contains l.peeked p
    → Contains (local_after n l e).peeked p
