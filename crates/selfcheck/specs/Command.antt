-- The commands, and the words that name them.
use Rattle.std.specs.Prelude.{◌≡◌, ◌↔◌, ℕ, ◌≤◌, Bool, true, false, List, [], ◌∷◌, map, Option, Some, None, option_map, String, string_bytes, codes, decimal, if◌then◌else◌}
use Rattle.std.specs.Str.{bytes_eq}
use Rattle.std.specs.declared.alloc.Global.{Global}
use Rattle.selfcheck.specs.declared.command.Command.{Command}
use Rattle.selfcheck.specs.declared.command.Command.TheVariants.{Verify, Sketch, Order, Upgrade, Sets, Run, Replay, Certify, Monitor, Soak}
use Rattle.test_objects.specs.Names.{behaviour_name}
use Rattle.selfcheck.specs.Arguments.{behaviour_named, soak_number}

-- The words of a command.
abbrev pub words_of : Command → List (List ℕ)
words_of Verify = codes "verify" ∷ []
words_of Sketch = codes "sketch" ∷ []
words_of Order = codes "order" ∷ []
words_of Upgrade = codes "upgrade" ∷ []
words_of Sets = codes "sets" ∷ []
words_of (Run behaviour) = codes "run" ∷ behaviour_name behaviour ∷ []
words_of (Replay behaviour) = codes "replay" ∷ behaviour_name behaviour ∷ []
words_of (Certify behaviour) = codes "certify" ∷ behaviour_name behaviour ∷ []
words_of (Monitor behaviour) = codes "monitor" ∷ behaviour_name behaviour ∷ []
words_of (Soak number) = codes "soak" ∷ decimal number ∷ []

-- The command is one that words can name: if it is a soak, its number is at most 4,294,967,295.
abbrev pub CanBeNamed : Command → Type 0
CanBeNamed (Soak number) = number ≤ 4294967295
CanBeNamed _ = Unit {0}

-- The commands that have no argument, each with its word.
abbrev pub lone_commands : List (List ℕ × Command)
lone_commands =
    (codes "verify", Verify)
    ∷ (codes "sketch", Sketch)
    ∷ (codes "order", Order)
    ∷ (codes "upgrade", Upgrade)
    ∷ (codes "sets", Sets)
    ∷ []

-- The command of the first row that has this word, where one has it.
abbrev pub named_in : List (List ℕ × Command) → List ℕ → Option Command
named_in [] word = None
named_in (row ∷ rows) word = if bytes_eq word row.0 then Some row.1 else named_in rows word

-- the command that a word names by itself
unfoldable pub lone_command : List ℕ → Option Command
lone_command word = named_in lone_commands word

-- The commands that have an argument, each with its word and with what reads the argument.
abbrev pub argued_commands : List (List ℕ × (List ℕ → Option Command))
argued_commands =
    (codes "run", λ argument. option_map Run (behaviour_named argument))
    ∷ (codes "replay", λ argument. option_map Replay (behaviour_named argument))
    ∷ (codes "certify", λ argument. option_map Certify (behaviour_named argument))
    ∷ (codes "monitor", λ argument. option_map Monitor (behaviour_named argument))
    ∷ (codes "soak", λ argument. option_map Soak (soak_number argument))
    ∷ []

-- Whether a row of this table of commands has this word.
abbrev pub names_argued : List (List ℕ × (List ℕ → Option Command)) → List ℕ → Bool
names_argued [] word = false
names_argued (row ∷ rows) word = if bytes_eq word row.0 then true else names_argued rows word

-- The command that the first row with this word reads from this argument, where a row has this word
-- and the argument is right for it.
abbrev pub argued_in : List (List ℕ × (List ℕ → Option Command)) → List ℕ → List ℕ → Option Command
argued_in [] word argument = None
argued_in (row ∷ rows) word argument =
    if bytes_eq word row.0 then row.1 argument else argued_in rows word argument

-- whether a command that has an argument has this word
unfoldable pub has_argument : List ℕ → Bool
has_argument word = names_argued argued_commands word

-- the command that a word names with an argument
unfoldable pub argued_command : List ℕ → List ℕ → Option Command
argued_command word argument = argued_in argued_commands word argument

-- the command that the command words name, where they name one
unfoldable pub command_of : List (String Global) → Option Command
command_of [] = None
command_of (word ∷ []) = lone_command (string_bytes word)
command_of (word ∷ argument ∷ []) = argued_command (string_bytes word) (string_bytes argument)
command_of (word ∷ argument ∷ third ∷ rest) = None

-- Whether a command works on what the source gives.
abbrev pub reads_source : Command → Bool
reads_source Verify = true
reads_source Sketch = true
reads_source Order = true
reads_source Upgrade = true
reads_source Sets = true
reads_source (Run behaviour) = true
reads_source (Replay behaviour) = true
reads_source (Certify behaviour) = true
reads_source (Monitor behaviour) = true
reads_source (Soak number) = false

-- The command words name a command exactly where they are its words and, if it is a soak, its
-- number is at most 4,294,967,295.
abbrev pub HaveTheirCommand : Type 0
HaveTheirCommand = (words : List (String Global)) (command : Command)
    → (command_of words ≡ Some command)
    ↔ (CanBeNamed command × (map string_bytes words ≡ words_of command))
