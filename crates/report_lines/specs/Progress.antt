-- What each of the five phases of a call does to its caller's progress.
use Rattle.std.specs.Prelude.{◌≡◌, ℕ, ◌+◌, List, [], ◌∷◌, ◌++◌}
use Rattle.book_base.specs.declared.call.Record.{Record}
use Rattle.world_core.specs.Local.{Object_step}
use Rattle.world_core.specs.Calls.{Reached, Is_announced, Has_record, Has_seen, Made}
use Rattle.report_lines.specs.Phases.{Progress}

-- The progress of a caller after it announced a call: this call, with the announced operation, is
-- the last one. Asking an object outside the world changes no progress.
abbrev pub after_announcing : ℕ → Progress → Progress
after_announcing operation progress = record progress {
  calls = progress.calls ++ record { operation = operation; reached = Is_announced } ∷ [];
}

-- The progress of a caller after a step on an object word: the step is the last of the caller's
-- object steps.
abbrev pub after_stepping : Object_step → Progress → Progress
after_stepping step progress = record progress { steps = progress.steps ++ step ∷ [] }

-- The calls once `further` is applied to how far the last call has come; an empty list stays empty.
abbrev pub with_last : (Reached → Reached) → List Made → List Made
with_last further [] = []
with_last further (c ∷ []) = record { operation = c.operation; reached = further c.reached } ∷ []
with_last further (c ∷ d ∷ calls) = c ∷ with_last further (d ∷ calls)

-- Where only the last call of a list gets further, all calls before it stay as they are.
abbrev pub TheLastCallGoesOn : Type 0
TheLastCallGoesOn =
    (further : Reached → Reached) (calls : List Made) (last : Made)
    → with_last further (calls ++ last ∷ [])
    ≡ calls ++ record { operation = last.operation; reached = further last.reached } ∷ []

-- The progress of a caller after it took the view of its last call: this call has the record `r`.
abbrev pub after_viewing : Record → Progress → Progress
after_viewing r progress = record progress { calls = with_last (λ _. Has_record r) progress.calls }

-- The progress of a caller after a publication: the number of published records is greater by 1.
abbrev pub after_publishing : Progress → Progress
after_publishing progress = record progress { published = progress.published + 1 }

-- How far a call has come after its caller saw `cut`: where the call had a record and no seen cut,
-- `cut` is its seen cut; otherwise nothing changes.
abbrev pub with_seen : List ℕ → Reached → Reached
with_seen cut Is_announced = Is_announced
with_seen cut (Has_record r) = Has_seen r cut
with_seen cut (Has_seen r earlier) = Has_seen r earlier

-- The progress of a caller after the scan that begins the judging of its last call: this call has
-- the seen cut `cut`.
abbrev pub after_seeing : List ℕ → Progress → Progress
after_seeing cut progress = record progress { calls = with_last (with_seen cut) progress.calls }
