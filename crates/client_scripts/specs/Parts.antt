-- What a reader finds in each part of a script's text, whatever the lines before it are, and with
-- which fault it stops there.
use Rattle.std.specs.Prelude.{◌≡◌, ◌⊎◌, ℕ, List, [], ◌∷◌, ◌++◌, length}
use Rattle.book_base.specs.declared.call.Call.{Call}
use Rattle.book_base.specs.declared.fault.TextFault.{TextFault}
use Rattle.book_base.specs.declared.fault.What.{What}
use Rattle.book_base.specs.declared.fault.ReadFault.{ReadFault}
use Rattle.book_base.specs.declared.fault.ReadFault.TheVariants.{Text, NoMemory}
use Rattle.seq_objects.specs.declared.kind.Kind.{Kind}
use Rattle.text_fields.specs.declared.op_text.KindWords.{KindWords}
use Rattle.text_fields.specs.declared.version.Version.{Version}
use Rattle.text_fields.specs.Lines.{Unread}
use Rattle.text_fields.specs.Faults.{GoesTo, IsFirstFault, IsFirstTest, StopsFor}
use Rattle.book_text.specs.CallLines.{calls_from, all_calls}
use Rattle.client_scripts.specs.declared.script.CallerScript.{CallerScript}
use Rattle.client_scripts.specs.declared.tail_line.TailLine.{TailLine}
use Rattle.client_scripts.specs.declared.tail_line.TailLine.TheVariants.{Stop, Turns}
use Rattle.client_scripts.specs.ScriptRules.{Begun, begin, with_operation, with_operations, InBody, Turned, IsStopLine, IsTurnsLine, TailFails, script_rules}
use Rattle.client_scripts.specs.ScriptLayout.{told, plan_in}

-- ---- calls

-- the next line is that of this call, with this operation
abbrev pub IsCallRead : KindWords → Call → Unread → ℕ → Unread → Type 0
IsCallRead words call text op left =
    (begun : Begun) (more : List Call)
    → GoesTo (script_rules words.version) (InBody words.kind begun (call ∷ more)) text
    (InBody words.kind (with_operation begun op) more) left

-- this is the first fault of a text where the line of this call is due next
abbrev pub IsCallFault : KindWords → Call → Unread → TextFault → Type 0
IsCallFault words call text fault = (begun : Begun) (more : List Call)
    → IsFirstFault (script_rules words.version) (InBody words.kind begun (call ∷ more)) text fault

-- the next lines are those of the first `count` calls of caller `i`, with these operations
abbrev pub AreCallsRead : KindWords → ℕ → ℕ → Unread → List ℕ → Unread → Type 0
AreCallsRead words i count text ops left =
    (begun : Begun) (more : List Call)
    → GoesTo (script_rules words.version) (InBody words.kind begun (calls_from i 0 count ++ more))
    text (InBody words.kind (with_operations begun ops) more) left

-- a reader stops with this fault where the lines of the first `count` calls of caller `i` are due
-- next
abbrev pub AreCallsStopped : KindWords → ℕ → ℕ → Unread → ReadFault → Type 0
AreCallsStopped words i count text e = (begun : Begun) (more : List Call) → StopsFor
    (script_rules words.version) (InBody words.kind begun (calls_from i 0 count ++ more)) text e

-- the next lines are those of all calls, as many of each caller as `calls` says, with the
-- operations that `clients` hold
abbrev pub AreClientsRead : KindWords → List ℕ → Unread → List CallerScript → Unread → Type 0
AreClientsRead words calls text clients left =
    GoesTo (script_rules words.version) (InBody words.kind (begin calls) (all_calls 0 calls)) text
    (InBody words.kind (told clients 0) []) left

-- a reader stops with this fault where the lines of all calls are due next, as many of each caller
-- as `calls` says
abbrev pub AreClientsStopped : KindWords → List ℕ → Unread → ReadFault → Type 0
AreClientsStopped words calls text e = StopsFor (script_rules words.version)
    (InBody words.kind (begin calls) (all_calls 0 calls)) text e

-- ---- stops and turns

-- the words are the line of this stop, or of these turns
abbrev pub SaysLine : Begun → List (List ℕ) → TailLine → Type 0
SaysLine begun words (Stop caller phases) = IsStopLine begun words caller phases
SaysLine begun words (Turns turns) = IsTurnsLine (length begun.calls) words turns.items

-- the line with this number is refused for want of memory, or for the first test that it fails
abbrev pub IsTailLineRefused : Begun → List (List ℕ) → ℕ → ReadFault → Type 0
IsTailLineRefused begun words number e = (e ≡ NoMemory) ⊎ ((what : What)
    × (e ≡ Text (record { line = number; what = what })) × IsFirstTest (TailFails begun words) what)

-- after the lines of the calls of the clients `before`, the next lines are stops and then the turns
-- `turns`: the clients `after` are those clients with their stops
abbrev pub IsTailRead : List CallerScript → Unread → List CallerScript → List ℕ → Unread → Type 0
IsTailRead before text after turns left =
    (version : Version) (kind : Kind) → GoesTo (script_rules version)
    (InBody kind (told before 0) []) text (Turned (plan_in kind after turns)) left

-- a reader stops with this fault where stops and turns are due, after the calls of these clients
abbrev pub IsTailStopped : List CallerScript → Unread → ReadFault → Type 0
IsTailStopped before text e = (version : Version) (kind : Kind)
    → StopsFor (script_rules version) (InBody kind (told before 0) []) text e
