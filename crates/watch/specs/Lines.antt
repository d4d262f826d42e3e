-- On which lines of a stream the events of an object are.
use Rattle.std.specs.Prelude.{◌≡◌, ℕ, ◌+◌, ◌-◌, ◌==◌, List, [], ◌∷◌, ◌++◌, take, Some, slice_get, if◌then◌else◌}
use Rattle.seq_objects.specs.Objects.{kind_spec}
use Rattle.streams.specs.Stream.{StreamEvent}
use Rattle.streams.specs.StreamOrder.{HasLegalStreamOrder}
use Rattle.stream_text.specs.Stream.{ObjectEvent, Said, Due, TitleDue, ObjectDue, EventDue, Ended, events_of}
use Rattle.watch_core.specs.Verdict.{IsUnsureAt}
use Rattle.watch.specs.declared.settings.Settings.{Settings}

-- how many lines of a stream come before its events: the title and the object line
abbrev pub head_lines : ℕ
head_lines = 2

-- the lines so far have said this, and the head is whole
abbrev pub Says : Due → Said → Type 0
Says TitleDue said = ⊥
Says ObjectDue said = ⊥
Says (EventDue so_far) said = said ≡ so_far
Says (Ended so_far) said = said ≡ so_far

-- the lines of an object's events, where the first event of all objects is on this line
abbrev pub lines_from : ℕ → ℕ → List ObjectEvent → List ℕ
lines_from object line [] = []
lines_from object line (one ∷ events) =
    if one.object == object then line ∷ lines_from object (line + 1) events
    else lines_from object (line + 1) events

-- the lines of an object's events
abbrev pub lines_of : ℕ → List ObjectEvent → List ℕ
lines_of object events = lines_from object (head_lines + 1) events

-- the events of an object on the first lines, as many as a number says
abbrev pub events_on : Said → ℕ → ℕ → List StreamEvent
events_on said object lines = events_of object (take (lines - head_lines) said.events)

-- the calls of an object have a legal order
abbrev pub IsLegal : Said → ℕ → Type 0
IsLegal said object = HasLegalStreamOrder (kind_spec said.kind) (events_of object said.events)

-- the calls of an object on the first lines have a legal order
abbrev pub IsLegalOn : Said → ℕ → ℕ → Type 0
IsLegalOn said object lines =
    HasLegalStreamOrder (kind_spec said.kind) (events_on said object lines)

-- the object of a name
abbrev pub IsNamed : Said → ℕ → List ℕ → Type 0
IsNamed said object name = slice_get said.names object ≡ Some name

-- At an object's event of this number the limit was met, as far as replies are known from events
-- that were read by then.
abbrev pub IsLimitMetAt : Settings → Said → ℕ → ℕ → Type 0
IsLimitMetAt asked said object number = (front : List StreamEvent) × (rest : List StreamEvent)
    × (events_of object said.events ≡ front ++ rest) × IsUnsureAt said.kind asked.most front number

-- the event of this number of an object is on this line
abbrev pub IsOnLine : Said → ℕ → ℕ → ℕ → Type 0
IsOnLine said object number line =
    (events_on said object (line - 1) ≡ take (number - 1) (events_of object said.events))
    × (events_on said object line ≡ take number (events_of object said.events))
