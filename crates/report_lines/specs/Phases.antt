-- The phases of a caller, counted over all its calls, five for each; and what a caller has done
-- after p phases.
use Rattle.std.specs.Prelude.{◌≡◌, ℕ, ◌+◌, ◌/◌, ◌%◌, ◌==◌, nat_lt, if◌then◌else◌, List, [], ◌∷◌, ◌++◌, map, take, replicate}
use Rattle.std.specs.List.{flat_map}
use Rattle.book_base.specs.declared.call.Record.{Record}
use Rattle.world_core.specs.Local.{Local, Object_step}
use Rattle.world_core.specs.CallSteps.{all_steps_of}
use Rattle.world_core.specs.Calls.{Reached, Is_announced, Has_record, Has_seen, Made, records_of, calls_in}

-- How many calls of a caller are announced after p phases.
abbrev pub begun : ℕ → ℕ
begun p = (p + 4) / 5

-- How many calls of a caller were asked of the object after p phases.
abbrev pub asked : ℕ → ℕ
asked p = (p + 3) / 5

-- How many calls of a caller have their record after p phases.
abbrev pub answered : ℕ → ℕ
answered p = (p + 2) / 5

-- How many records of a caller are published after p phases.
abbrev pub published_by : ℕ → ℕ
published_by p = (p + 1) / 5

-- How many calls of a caller are judged after p phases.
abbrev pub judged : ℕ → ℕ
judged p = p / 5

-- How far a call has come, without its reply and its cuts: it is announced, has its record, or has
-- its seen cut too.
pub data CallMark : Type 0 where
  Announced : CallMark
  Recorded : CallMark
  Seen : CallMark

-- The mark that says how far a call has come, without its reply and its cuts.
abbrev pub mark_of : Reached → CallMark
mark_of Is_announced = Announced
mark_of (Has_record r) = Recorded
mark_of (Has_seen r cut) = Seen

-- The mark of a caller's call under way, once the caller has made this many of the call's five
-- phases; as a list, which is empty where the call isn't announced.
abbrev pub mark_under_way : ℕ → List CallMark
mark_under_way phases =
    if phases == 0 then [] else (if nat_lt phases 3 then Announced ∷ [] else Recorded ∷ [])

-- The marks of a caller's calls after p phases: `Seen` for each judged call, and then the mark of
-- the call under way, if one is announced.
abbrev pub marks_after : ℕ → List CallMark
marks_after p = replicate (judged p) Seen ++ mark_under_way (p % 5)

-- The operations of some calls.
abbrev pub operations_of : List Made → List ℕ
operations_of calls = map (λ (c : Made). c.operation) calls

-- The marks of some calls.
abbrev pub marks_of : List Made → List CallMark
marks_of calls = map (λ (c : Made). mark_of c.reached) calls

-- How far a caller has come: its calls, how many records it has published, and the object steps of
-- all its calls in order.
pub record Progress : Type 0 where
  pub calls : List Made
  pub published : ℕ
  pub steps : List Object_step

-- The progress of a caller with this local.
abbrev pub progress_of : Local → Progress
progress_of l = record { calls = calls_in l; published = l.published; steps = all_steps_of l }

-- The progress of a caller before its first phase: it has no call, no published record and no
-- object step.
abbrev pub no_progress : Progress
no_progress = record { calls = []; published = 0; steps = [] }

-- A caller with these operations may have this progress after its first p phases: its calls have
-- the first operations, in order; each call has come as far as these phases bring it; and as many
-- records are published as these phases publish. The object steps may be any.
pub record IsProgressAfter (operations : List ℕ) (p : ℕ) (progress : Progress) : Type 0 where
  pub in_order : operations_of progress.calls ≡ take (begun p) operations
  pub marks : marks_of progress.calls ≡ marks_after p
  pub published : progress.published ≡ published_by p

-- The local of a caller with these operations shows a progress that the caller may have after its
-- first p phases.
abbrev pub HasMade : List ℕ → ℕ → Local → Type 0
HasMade operations p l = IsProgressAfter operations p (progress_of l)

-- The operation and the reply of each call that has its record.
abbrev pub answers_in : List Made → List (ℕ × ℕ)
answers_in calls = flat_map
    (λ (c : Made). map (λ (r : Record). (c.operation, r.reply)) (records_of c.reached)) calls

-- What an object tells of a caller that has made p phases: an operation and a reply for each call
-- that the object was asked, in order. Where a call has its record, the told reply is the recorded
-- one; at most one told call, the last, has no record yet.
pub record IsTold (p : ℕ) (calls : List Made) (pairs : List (ℕ × ℕ)) : Type 0 where
  pub operations : map (λ (pair : ℕ × ℕ). pair.0) pairs ≡ take (asked p) (operations_of calls)
  pub replies : take (answered p) pairs ≡ answers_in calls
