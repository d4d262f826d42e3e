-- The lines of a script's text, one after the other: which are right, and which test the others
-- fail.
use Rattle.std.specs.Prelude.{◌≡◌, ◌≢◌, ℕ, ◌+◌, ◌*◌, ◌<◌, ◌≤◌, ◌⊎◌, List, [], ◌∷◌, ◌++◌, length, take, drop, replicate, codes, Option, Some, None, slice_index, slice_set}
use Rattle.std.specs.List.{AllByRecursion}
use Rattle.book_base.specs.declared.call.Call.{Call}
use Rattle.book_base.specs.declared.fault.TextFault.{TextFault}
use Rattle.book_base.specs.declared.fault.What.{What}
use Rattle.book_base.specs.declared.fault.What.TheVariants as what
use Rattle.seq_objects.specs.declared.kind.Kind.{Kind}
use Rattle.seq_objects.specs.Words.{operation_words}
use Rattle.text_fields.specs.declared.version.Version.{Version}
use Rattle.text_fields.specs.Version.{word_limit}
use Rattle.text_fields.specs.Counts.{AreNumbers}
use Rattle.text_fields.specs.Faults.{Wanted, ALine, TheEnd, Rules, IsFirstFault, IsReadTo}
use Rattle.text_fields.specs.Lines.{Unread}
use Rattle.text_fields.specs.Head.{HeadDue, TitleDue, ObjectDue, CallersDue, CountsDue, HeadRead, HeadPasses, HeadFails}
use Rattle.book_text.specs.CallLines.{place_words, all_calls}
use Rattle.book_text.specs.Grammar.{end_words}
use Rattle.book_text.specs.BookRules.{whole_text}
use Rattle.client_scripts.specs.declared.TheConstants.{PHASES}
use Rattle.client_scripts.specs.Plans.{Plan}
use Rattle.client_scripts.specs.Grammar.{call_words, stop_words, turns_words}

-- ---- what the lines so far say

-- What the lines of a script's text that are read so far say: how many calls the head gives each
-- caller, and the operations and stops of the lines after it.
pub record Begun : Type 0 where
  -- how many calls each caller makes
  pub calls : List ℕ
  -- the operations of the calls so far, one after the other
  pub operations : List ℕ
  -- for each caller its stop, where the lines so far give one
  pub stops : List (Option ℕ)
  -- stops are listed in rising order of their callers: only callers from this number on may have a
  -- stop in the remaining lines
  pub least : ℕ

-- what is known of a script once its head is read: how many calls each caller makes, no operation,
-- and no stop
abbrev pub begin : List ℕ → Begun
begin calls =
    record { calls = calls; operations = []; stops = replicate (length calls) None; least = 0 }

-- what the lines of a script say so far, with the operation of one more call
abbrev pub with_operation : Begun → ℕ → Begun
with_operation begun op = record begun { operations = begun.operations ++ op ∷ [] }

-- what the lines of a script say so far, with the operations of further calls
abbrev pub with_operations : Begun → List ℕ → Begun
with_operations begun ops = record begun { operations = begun.operations ++ ops }

-- what the lines of a script say so far, with one more stop
abbrev pub with_stop : Begun → ℕ → ℕ → Begun
with_stop begun caller phases =
    record begun { stops = slice_set begun.stops caller (Some phases); least = caller + 1 }

-- a list cut into parts with these numbers of items
abbrev pub grouped : {X : Type 0} → List ℕ → List X → List (List X)
grouped [] items = []
grouped (count ∷ counts) items = take count items ∷ grouped counts (drop count items)

-- the plan that the lines determine, with these turns
abbrev pub plan_with : Kind → Begun → List ℕ → Plan
plan_with kind begun turns = record {
  kind = kind;
  operations = grouped begun.calls begun.operations;
  stops = begun.stops;
  turns = turns;
}

-- ---- what is due

-- the states of reading a script's text, each with what the lines before say
pub data ScriptDue : Type 0 where
  InHead : HeadDue → ScriptDue
  -- the lines of these calls, then stops, and then the turns are due
  InBody : Kind → Begun → List Call → ScriptDue
  -- the end is due, after the turns
  Turned : Plan → ScriptDue
  AtEnd : Plan → ScriptDue

-- the state of reading a script's text that a state of reading its head leads to; once the head is
-- read whole, the lines of the calls are due
abbrev pub after_head : HeadDue → ScriptDue
after_head TitleDue = InHead TitleDue
after_head ObjectDue = InHead ObjectDue
after_head (CallersDue kind) = InHead (CallersDue kind)
after_head (CountsDue kind n) = InHead (CountsDue kind n)
after_head (HeadRead kind calls) = InBody kind (begin calls) (all_calls 0 calls)

-- ---- the lines of calls

-- a call whose caller and number are below 2^64, as numbers in texts are
abbrev pub IsNamedCall : Call → Type 0
IsNamedCall call = AreNumbers (call.caller ∷ call.number ∷ [])

-- the line of this call gives this operation
pub record IsCallLine (version : Version) (kind : Kind) (call : Call) (words : List (List ℕ))
    (op : ℕ) : Type 0 where
  pub named : IsNamedCall call
  pub has : op < word_limit version
  pub text : words ≡ call_words kind call op

-- a line of these words, where this call is due, fails a test
abbrev pub CallFails : Version → Kind → Call → List (List ℕ) → What → Type 0
-- the line doesn't begin with the caller and the number that are due
CallFails version kind call words what.Place = (suffix : List (List ℕ))
    → words ≢ place_words call ++ suffix
-- the words after the caller and the number aren't exactly those of an operation
CallFails version kind call words what.Op = (suffix : List (List ℕ))
    × (words ≡ place_words call ++ suffix)
    × ((op : ℕ) → op < word_limit version → suffix ≢ operation_words kind op)
CallFails version kind call words _ = ⊥

-- ---- the lines of stops and of turns

-- a stop of `caller` after `phases` phases may come next: the caller is one of the script's, comes
-- after each caller that has a stop already, and has more than `phases` phases in all its calls;
-- both numbers are below 2^64
pub record IsStop (begun : Begun) (caller phases : ℕ) : Type 0 where
  pub rising : begun.least ≤ caller
  pub inside : caller < length begun.calls
  pub early : phases < PHASES * slice_index begun.calls caller
  pub numbers : AreNumbers (caller ∷ phases ∷ [])

-- each of the turns names one of `n` callers, by a number that texts can have
pub record AreTurns (n : ℕ) (turns : List ℕ) : Type 0 where
  pub callers : AllByRecursion (λ caller. caller < n) turns
  pub numbers : AreNumbers turns

-- the line is that of a stop which may come next
pub record IsStopLine (begun : Begun) (words : List (List ℕ)) (caller phases : ℕ) : Type 0 where
  pub may : IsStop begun caller phases
  pub text : words ≡ stop_words caller phases

-- the line is that of the turns of this many callers
pub record IsTurnsLine (n : ℕ) (words : List (List ℕ)) (turns : List ℕ) : Type 0 where
  pub may : AreTurns n turns
  pub text : words ≡ turns_words turns

-- the line is the word 'stop', followed by these words
abbrev pub BeginsAsStop : List (List ℕ) → List (List ℕ) → Type 0
BeginsAsStop words suffix = words ≡ codes "stop" ∷ suffix

-- a line of these words is right after the lines of calls, as a stop or as the turns, and leads to
-- a state of reading
abbrev pub TailPasses : Kind → Begun → List (List ℕ) → ScriptDue → Type 0
TailPasses kind begun words after =
    ((caller : ℕ) × (phases : ℕ) × IsStopLine begun words caller phases
    × (after ≡ InBody kind (with_stop begun caller phases) []))
    ⊎ ((turns : List ℕ) × IsTurnsLine (length begun.calls) words turns
    × (after ≡ Turned (plan_with kind begun turns)))

-- a line of these words fails a test, where a stop or the turns are due
abbrev pub TailFails : Begun → List (List ℕ) → What → Type 0
-- the line begins with the word 'stop', and is no line of a stop
TailFails begun words what.Stop = (suffix : List (List ℕ)) × BeginsAsStop words suffix
    × ((caller phases : ℕ) → ¬ (IsStopLine begun words caller phases))
-- the line doesn't begin with the word 'stop', and is no line of turns
TailFails begun words what.Turns = ((suffix : List (List ℕ)) → ¬ (BeginsAsStop words suffix))
    × ((turns : List ℕ) → ¬ (IsTurnsLine (length begun.calls) words turns))
TailFails begun words _ = ⊥

-- ---- the rules

-- a line of these words is right in a state of reading a script's text, and leads to another state
abbrev pub ScriptPasses : Version → ScriptDue → List (List ℕ) → ScriptDue → Type 0
ScriptPasses version (InHead due) words after = (next : HeadDue)
    × HeadPasses version (codes "script") due words next × (after ≡ after_head next)
ScriptPasses version (InBody kind begun []) words after = TailPasses kind begun words after
ScriptPasses version (InBody kind begun (call ∷ calls)) words after = (op : ℕ)
    × IsCallLine version kind call words op × (after ≡ InBody kind (with_operation begun op) calls)
ScriptPasses version (Turned plan) words after = (words ≡ end_words) × (after ≡ AtEnd plan)
ScriptPasses version (AtEnd plan) words after = ⊥

-- a line of these words fails a test in a state of reading a script's text
abbrev pub ScriptFails : Version → ScriptDue → List (List ℕ) → What → Type 0
ScriptFails version (InHead due) words name = HeadFails version (codes "script") due words name
ScriptFails version (InBody kind begun []) words name = TailFails begun words name
ScriptFails version (InBody kind begun (call ∷ calls)) words name =
    CallFails version kind call words name
ScriptFails version (Turned plan) words name = (name ≡ what.End) × (words ≢ end_words)
ScriptFails version (AtEnd plan) words name = ⊥

-- what is due next in each state of reading a script's text
abbrev pub script_wanted : ScriptDue → Wanted
script_wanted (InHead due) = ALine
script_wanted (InBody kind begun calls) = ALine
script_wanted (Turned plan) = ALine
script_wanted (AtEnd plan) = TheEnd

-- the rules of a script's text
abbrev pub script_rules : Version → Rules ScriptDue
script_rules version =
    record { Passes = ScriptPasses version; Fails = ScriptFails version; wanted = script_wanted }

-- The first fault of bytes that are to be a script's text.
abbrev pub IsFirstScriptFault : Version → List ℕ → TextFault → Type 0
IsFirstScriptFault version bytes fault =
    IsFirstFault (script_rules version) (InHead TitleDue) (whole_text bytes) fault

-- The bytes are the text of the script with this plan: right lines from the title to the end of the
-- bytes.
abbrev pub IsScriptText : Version → List ℕ → Plan → Type 0
IsScriptText version bytes plan = (left : Unread)
    × IsReadTo (script_rules version) (InHead TitleDue) (whole_text bytes) (AtEnd plan) left

-- The bytes are the text of no script.
abbrev pub IsNoScriptText : Version → List ℕ → Type 0
IsNoScriptText version bytes = (plan : Plan) → ¬ (IsScriptText version bytes plan)
