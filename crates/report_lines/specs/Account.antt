-- The parts of a local that determine its caller's progress; and what becomes of the progress as
-- one of these parts grows.
use Rattle.std.specs.Prelude.{◌≡◌, ℕ, ◌+◌, List, [], ◌∷◌, ◌++◌, slice_index}
use Rattle.world_core.specs.Local.{Local, Object_step, Announcing, Asking, Viewing, Judging}
use Rattle.world_core.specs.CallSteps.{all_steps_of}
use Rattle.world_core.specs.Event.{Announce, Object, Publish, staged_operation, local_after}
use Rattle.world_core.specs.Agreement.{HasPhase}
use Rattle.report_lines.specs.Phases.{progress_of}
use Rattle.report_lines.specs.Progress.{after_announcing, after_stepping, after_viewing, after_publishing, after_seeing}

-- A caller's operations, replies, views and seen cuts, its count of published records, and the
-- object steps of all its calls.
pub record Account : Type 0 where
  pub operations : List ℕ
  pub replies : List ℕ
  pub views : List (List ℕ)
  pub seen : List (List ℕ)
  pub published : ℕ
  pub steps : List Object_step

-- The operations, replies, views, seen cuts, number of published records and object steps that the
-- local `l` has.
abbrev pub account_of : Local → Account
account_of l =
    record {
      operations = l.operations;
      replies = l.replies;
      views = l.views;
      seen = l.seen;
      published = l.published;
      steps = all_steps_of l;
    }

-- Two locals with equal operations, replies, views, seen cuts, numbers of published records and
-- object steps have equal progress.
abbrev pub NothingGrows : Type 0
NothingGrows = (l m : Local) → account_of m ≡ account_of l → progress_of m ≡ progress_of l

-- Where an announcing caller's local gains one operation, but no reply, view, seen cut, published
-- record or object step, the caller's progress gains one announced call with this operation.
abbrev pub OperationsAreCalls : Type 0
OperationsAreCalls =
    (l m : Local) (operation : ℕ) → HasPhase l → l.phase ≡ Announcing
    → account_of m ≡ record (account_of l) { operations = l.operations ++ operation ∷ [] }
    → progress_of m ≡ after_announcing operation (progress_of l)

-- Where a caller's local gains one object step, but no operation, reply, view, seen cut or
-- published record, this step becomes the last object step of the caller's progress.
abbrev pub ObjectStepsAreOfTheLastCall : Type 0
ObjectStepsAreOfTheLastCall =
    (l m : Local) (step : Object_step)
    → account_of m ≡ record (account_of l) { steps = all_steps_of l ++ step ∷ [] }
    → progress_of m ≡ after_stepping step (progress_of l)

-- Where an asking caller's local gains one reply, but no operation, view, seen cut, published
-- record or object step, the caller's progress stays, since a call has no record before it has a
-- view.
abbrev pub RepliesAreNoRecords : Type 0
RepliesAreNoRecords =
    (l m : Local) (reply : ℕ) → HasPhase l → l.phase ≡ Asking
    → account_of m ≡ record (account_of l) { replies = l.replies ++ reply ∷ [] }
    → progress_of m ≡ progress_of l

-- Where a viewing caller's local gains one view, but no operation, reply, seen cut, published
-- record or object step, the last call of the caller's progress gets a record of its reply and this
-- view.
abbrev pub ViewsMakeRecords : Type 0
ViewsMakeRecords =
    (l m : Local) (view : List ℕ) → HasPhase l → l.phase ≡ Viewing
    → account_of m ≡ record (account_of l) { views = l.views ++ view ∷ [] }
    → progress_of m ≡ after_viewing
    (record { reply = slice_index l.replies l.published; view = view }) (progress_of l)

-- Where a caller's local counts one more published record, but gains no operation, reply, view,
-- seen cut or object step, the caller's progress counts one more published record.
abbrev pub PublicationsCount : Type 0
PublicationsCount =
    (l m : Local) → account_of m ≡ record (account_of l) { published = l.published + 1 }
    → progress_of m ≡ after_publishing (progress_of l)

-- Where a judging caller's local gains one seen cut, but no operation, reply, view, published
-- record or object step, the last call of the caller's progress gets this seen cut.
abbrev pub SeenCutsAreOfTheLastCall : Type 0
SeenCutsAreOfTheLastCall =
    (l m : Local) (cut : List ℕ) → HasPhase l → l.phase ≡ Judging
    → account_of m ≡ record (account_of l) { seen = l.seen ++ cut ∷ [] }
    → progress_of m ≡ after_seeing cut (progress_of l)

-- An announcement adds a call with the staged operation to its caller's progress.
abbrev pub AnnouncementsAreCalls : Type 0
AnnouncementsAreCalls =
    (n : ℕ) (l : Local) → HasPhase l → l.phase ≡ Announcing → progress_of (local_after n l Announce)
    ≡ after_announcing (staged_operation l.staged) (progress_of l)

-- An object step becomes the last object step of its caller's progress.
abbrev pub ObjectStepsCount : Type 0
ObjectStepsCount =
    (n : ℕ) (l : Local) (step : Object_step) → HasPhase l → l.phase ≡ Asking
    → progress_of (local_after n l (Object step)) ≡ after_stepping step (progress_of l)

-- A publication raises the number of published records in its caller's progress by 1.
abbrev pub PublishesCount : Type 0
PublishesCount = (n : ℕ) (l : Local)
    → progress_of (local_after n l Publish) ≡ after_publishing (progress_of l)
