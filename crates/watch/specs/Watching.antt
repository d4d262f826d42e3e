-- What the program holds of a stream.
use Rattle.std.specs.Prelude.{◌≡◌, ◌⊎◌, ℕ, ◌+◌, ◌-◌, ◌<◌, ◌≤◌, Bool, true, false, List, [], ◌∷◌, ◌++◌, length, Option, None, Some, slice_get, nat_eq, ⊤}
use Rattle.indexmap.specs.IndexSet.{contains}
use Rattle.seq_objects.specs.declared.kind.Kind.{Kind}
use Rattle.seq_objects.specs.Objects.{kind_spec}
use Rattle.streams.specs.Stream.{StreamEvent}
use Rattle.streams.specs.StreamOrder.{HasLegalStreamOrder}
use Rattle.stream_text.specs.Reader.{HasRead}
use Rattle.stream_text.specs.Stream.{ObjectEvent, Said, Due, TitleDue, ObjectDue, EventDue, Ended, ReadsAs, events_of}
use Rattle.windowed_watch.specs.Windowed.{HasReceived}
use Rattle.watch_core.specs.Verdict.{IsIllegalFrom, IsUnsureAt}
use Rattle.windowed_watch.specs.Ahead.{IsExact}
use Rattle.watch.specs.declared.objects.Object.{Object}
use Rattle.watch.specs.declared.objects.Standing.{Standing}
use Rattle.watch.specs.declared.objects.Standing.TheVariants as standing
use Rattle.watch.specs.declared.watching.Finding.{Finding}
use Rattle.watch.specs.declared.watching.Watching.{Watching}
use Rattle.watch.specs.Output.{OutputLine, Legal, Illegal, Unsure, output_text}
use Rattle.watch.specs.Lines.{Says, head_lines, lines_of, IsLegal, IsLegalOn, IsNamed, IsLimitMetAt}
use Rattle.watch.specs.Account.{Has, IsUnsureTold, HasNoUnsure, GoesOn, IsLimitMet, IsOutput}
use Rattle.watch.specs.declared.settings.Settings.{Settings}

-- An object has received the events of a stream, which are on these lines, and has the last ones of
-- the lines.
pub record IsWatched (object : Object) (kind : Kind) (asked : Settings) (stream : List StreamEvent)
    (lines : List ℕ) : Type 0 where
  pub received : HasReceived object.watch stream
  pub window_is : object.window ≡ asked.window
  pub counted : object.events ≡ length stream
  pub kind_is : object.watch.ahead.watch.kind ≡ kind
  pub limit_is : object.watch.ahead.watch.limit ≡ asked.most
  pub even : length lines ≡ length stream
  pub older : List ℕ
  pub recent : lines ≡ older ++ object.lines.items

-- the event of this number, counted from 1, is on this line
abbrev pub IsLineOf : List ℕ → ℕ → ℕ → Type 0
IsLineOf lines number line = (0 < number) × (slice_get lines (number - 1) ≡ Some line)

-- What is said of an object is right for the events that it has received, which are on these lines:
-- they have a legal order; the first event with which they have none is on the first line, or after
-- it and up to the last one where a limit was met; or the limit was met at the event of a line.
abbrev pub StandsAs : Kind → Settings → List StreamEvent → List ℕ → Standing → Type 0
StandsAs kind asked stream lines standing.Legal = HasLegalStreamOrder (kind_spec kind) stream
StandsAs kind asked stream lines (standing.Illegal first last) = (from : ℕ) × (to : ℕ)
    × IsIllegalFrom (kind_spec kind) stream from to × IsExact kind asked.most stream from to
    × IsLineOf lines from first × IsLineOf lines to last
StandsAs kind asked stream lines (standing.Unsure line) = (number : ℕ)
    × IsUnsureAt kind asked.most stream number × IsLineOf lines number line

-- what is said so far, also where the head isn't whole
abbrev pub SaysSoFar : Due → Said → Type 0
SaysSoFar TitleDue said = (said.names ≡ []) × (said.events ≡ [])
SaysSoFar ObjectDue said = (said.names ≡ []) × (said.events ≡ [])
SaysSoFar (EventDue so_far) said = said ≡ so_far
SaysSoFar (Ended so_far) said = said ≡ so_far

-- where an event is due, each line after the head has said one
abbrev pub AreEven : Due → ℕ → Type 0
AreEven TitleDue lines = lines ≡ 0
AreEven ObjectDue lines = lines ≡ 1
AreEven (EventDue said) lines = lines ≡ length said.events + head_lines
AreEven (Ended said) lines = lines ≡ length said.events + head_lines + 1

-- the events are of objects with names
abbrev pub AreNamed : Said → Type 0
AreNamed said = (k : ℕ) (one : ObjectEvent) → slice_get said.events k ≡ Some one
    → one.object < length said.names

-- each object has received its events
abbrev pub AreWatched : Settings → List Object → Said → Type 0
AreWatched asked objects said = (k : ℕ) (object : Object) → slice_get objects k ≡ Some object
    → IsWatched object said.kind asked (events_of k said.events) (lines_of k said.events)

-- no name is there twice
abbrev pub AreApart : List (List ℕ) → Type 0
AreApart names = (j k : ℕ) (name : List ℕ) → slice_get names j ≡ Some name
    → slice_get names k ≡ Some name → j ≡ k

-- What a watching holds where these lines were read, which have said this, and this was written or
-- is to be written.
pub record Holds (asked : Settings) (watching : Watching) (lines : List (List ℕ)) (due : Due)
    (said : Said) (output : List OutputLine) : Type 0 where
  pub asked_is : watching.settings ≡ asked
  pub reads : ReadsAs lines due
  pub reader : HasRead watching.reader due
  pub says : SaysSoFar due said
  pub even : AreEven due (length lines)
  pub number : watching.number ≡ length lines
  pub size : length watching.objects.items ≡ length said.names
  pub named : AreNamed said
  pub objects : AreWatched asked watching.objects.items said
  pub output_is : IsOutput asked lines output
  pub goes_on : GoesOn output
  pub told : (line : ℕ) → Has output (Legal line) → line ≤ watching.said
  pub so_far : watching.said ≤ watching.number
  pub last : 0 < watching.said → Has output (Legal watching.said)
  pub sure : watching.is_unsure ≡ false → HasNoUnsure output
  pub unsure : watching.is_unsure ≡ true → (object : ℕ) × IsUnsureTold said output object
  pub each : (k : ℕ) → contains nat_eq watching.unsure k ≡ true → IsUnsureTold said output k
  pub once : (k : ℕ) → contains nat_eq watching.unsure k ≡ false → IsUnsureTold said output k → ⊥
  pub known : (line : ℕ) (name : List ℕ) → Has output (Unsure line name)
      → (k : ℕ) × IsNamed said k name
  pub apart : AreApart said.names

-- The calls of some object have a legal order before the first line, and none up to the last one,
-- which was read. A limit was met where these are different lines.
pub record IsFinding (asked : Settings) (said : Said) (found : Finding) : Type 0 where
  pub object_name : List ℕ
  pub named : IsNamed said found.object object_name
  pub read : found.last ≤ length said.events + head_lines
  pub before : IsLegalOn said found.object (found.first - 1)
  pub none : IsLegalOn said found.object found.last → ⊥
  pub exact : (found.first ≡ found.last) ⊎ IsLimitMet asked said

-- what is found isn't after something else that is found
abbrev pub IsBefore : Option Finding → Option Finding → Type 0
IsBefore found None = ⊤
IsBefore None (Some other) = ⊥
IsBefore (Some found) (Some other) = found.first ≤ other.first

-- An object is legal or unsure, where nothing is found; else it is before the first line that is
-- found.
abbrev pub IsSettled : Said → List OutputLine → Option Finding → ℕ → Type 0
IsSettled said output None object = IsLegal said object ⊎ IsUnsureTold said output object
IsSettled said output (Some found) object =
    IsLegalOn said object (found.first - 1) ⊎ IsUnsureTold said output object

-- each object is settled
abbrev pub AreSettled : Said → List OutputLine → Type 0
AreSettled said output = (object : ℕ) → object < length said.names
    → IsSettled said output None object

-- One more line has said an event of an object, which is one of those with names or a new one.
abbrev pub IsNext : Said → List (List ℕ) → ℕ → Type 0
IsNext said names object = ((names ≡ said.names) × (object < length said.names))
    ⊎ ((name : List ℕ) × (names ≡ said.names ++ name ∷ []) × (object ≡ length said.names)
    × ((k : ℕ) → slice_get said.names k ≡ Some name → ⊥))

-- More was told, after an output, of the same lines.
abbrev pub Tells : Settings → Watching → Watching → List (List ℕ) → Due → Said → List OutputLine
    → (List OutputLine → Type 0) → Type 0
Tells asked old new lines due said output IsOne = (more : List OutputLine)
    × (new.out.items ≡ old.out.items ++ output_text more)
    × Holds asked new lines due said (output ++ more) × IsOne (output ++ more)

-- the last line of an output says that an object is illegal
abbrev pub EndsIllegal : List OutputLine → Type 0
EndsIllegal output = (before : List OutputLine) × (first : ℕ) × (last : ℕ) × (name : List ℕ)
    × (output ≡ before ++ Illegal first last name ∷ [])

-- More was told, after an output, and its last line says that an object is illegal.
abbrev pub Closes : Settings → Watching → Watching → List (List ℕ) → List OutputLine → Type 0
Closes asked old new lines output = (more : List OutputLine)
    × (new.out.items ≡ old.out.items ++ output_text more)
    × IsOutput asked lines (output ++ more) × EndsIllegal (output ++ more)
