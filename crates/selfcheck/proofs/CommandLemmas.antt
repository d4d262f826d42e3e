-- Lemmas on command words.
use Rattle.std.proofs.Common.{◌≡◌, ℕ, Bool, true, false, List, [], ◌∷◌, map, Option, Some, None, option_map, string_bytes, codes, decimal, refl, sym, ap, ◌∙◌, subst, inl, inr, ◌⊎◌, if◌then◌else◌}
use Rattle.std.specs.List.{AllByRecursion}
use Rattle.std.specs.Str.{bytes_eq}
use Rattle.std.proofs.lemmas.Slice.Eq.{bytes_eq-Decides}
use Rattle.selfcheck.specs.declared.command.Command.{Command}
use Rattle.selfcheck.specs.declared.command.Command.TheVariants.{Verify, Sketch, Order, Upgrade, Sets, Run, Replay, Certify, Monitor, Soak}
use Rattle.test_objects.specs.declared.behaviour.Behaviour.{Behaviour}
use Rattle.test_objects.specs.Names.{behaviour_name}
use Rattle.selfcheck.specs.Arguments.{behaviour_named, soak_number}
use Rattle.selfcheck.proofs.ArgumentLemmas.{behaviour_named-is, behaviour_named-from, soak_number-is, soak_number-from}
use Rattle.selfcheck.specs.Command.{words_of, CanBeNamed, lone_commands, named_in, lone_command, argued_commands, argued_in, argued_command, command_of, HaveTheirCommand}

-- the words name this command
abbrev AreWordsOf : List (List ℕ) → Command → Type 0
AreWordsOf words command = CanBeNamed command × (words ≡ words_of command)

-- the row has the one word of its command
abbrev IsLone : List ℕ × Command → Type 0
IsLone row = AreWordsOf (row.0 ∷ []) row.1

-- a command that a row of tests finds is the row's own, or one of the rest
by_row : (test : Bool) (mine command : Command) (rest : Option Command)
    → (if test then Some mine else rest) ≡ Some command
    → ((test ≡ true) × (mine ≡ command)) ⊎ (rest ≡ Some command)
by_row true mine command rest e = inl (refl, cc)
by_row false mine command rest e = inr e

-- a command that is found in rows of one word has the row's word
named_in-is : (rows : List (List ℕ × Command)) (word : List ℕ) (command : Command)
    → AllByRecursion IsLone rows → named_in rows word ≡ Some command
    → AreWordsOf (word ∷ []) command
named_in-is [] word command lone e = cc
named_in-is (row ∷ rows) word command lone e =
    elim (by_row (bytes_eq word row.0) row.1 command (named_in rows word) e) [
      | inl here ↦ subst (λ (w : List ℕ). AreWordsOf (w ∷ []) command)
          (sym ((bytes_eq-Decides word row.0).0 here.0))
          (subst (AreWordsOf (row.0 ∷ [])) here.1 lone.0)
      | inr later ↦ named_in-is rows word command lone.1 later
    ]

-- a word names a command by itself exactly where it is the command's one word
lone_command-is : (word : List ℕ) (command : Command) → lone_command word ≡ Some command
    → AreWordsOf (word ∷ []) command
unfolding lone_command
lone_command-is word command e =
    named_in-is lone_commands word command
    ((tt, refl), ((tt, refl), ((tt, refl), ((tt, refl), ((tt, refl), tt))))) e

lone_command-from : (word : List ℕ) (command : Command) → word ∷ [] ≡ words_of command
    → lone_command word ≡ Some command
unfolding lone_command
lone_command-from word Verify e = let same : word ≡ codes "verify" = cc in rw same refl
lone_command-from word Sketch e = let same : word ≡ codes "sketch" = cc in rw same refl
lone_command-from word Order e = let same : word ≡ codes "order" = cc in rw same refl
lone_command-from word Upgrade e = let same : word ≡ codes "upgrade" = cc in rw same refl
lone_command-from word Sets e = let same : word ≡ codes "sets" = cc in rw same refl
lone_command-from word (Run behaviour) e = cc
lone_command-from word (Replay behaviour) e = cc
lone_command-from word (Certify behaviour) e = cc
lone_command-from word (Monitor behaviour) e = cc
lone_command-from word (Soak number) e = cc

-- the row reads an argument as that of a command of these two words
abbrev IsArgued : List ℕ × (List ℕ → Option Command) → Type 0
IsArgued row = (argument : List ℕ) (command : Command) → row.1 argument ≡ Some command
    → AreWordsOf (row.0 ∷ argument ∷ []) command

-- a command that is found in rows of two words has the row's word and the argument
argued_in-is : (rows : List (List ℕ × (List ℕ → Option Command))) (word argument : List ℕ)
    (command : Command) → AllByRecursion IsArgued rows
    → argued_in rows word argument ≡ Some command → AreWordsOf (word ∷ argument ∷ []) command
argued_in-is [] word argument command argued e = cc
argued_in-is (row ∷ rows) word argument command argued e =
    here (argued_in-is rows word argument command argued.1) (bytes_eq word row.0)
    (bytes_eq-Decides word row.0).0 e
  where
    here : (argued_in rows word argument ≡ Some command → AreWordsOf (word ∷ argument ∷ []) command)
        → (test : Bool) → (test ≡ true → word ≡ row.0)
        → (if test then row.1 argument else argued_in rows word argument) ≡ Some command
        → AreWordsOf (word ∷ argument ∷ []) command
    here later true same e = subst (λ (w : List ℕ). AreWordsOf (w ∷ argument ∷ []) command)
        (sym (same refl)) (argued.0 argument command e)
    here later false same e = later e

-- an argument that is read as a value is the argument of the command with this value
read_is : {A : Type 0} (word : List ℕ) (command_for : A → Command) (text : A → List ℕ)
    (read : Option A) (argument : List ℕ) (command : Command)
    → ((value : A) → read ≡ Some value → CanBeNamed (command_for value) × (text value ≡ argument))
    → ((value : A) → word ∷ text value ∷ [] ≡ words_of (command_for value))
    → option_map command_for read ≡ Some command → AreWordsOf (word ∷ argument ∷ []) command
read_is word command_for text None argument command is words e = cc
read_is word command_for text (Some value) argument command is words e =
    let same : command_for value ≡ command = cc in
    let own = is value refl in
    subst (AreWordsOf (word ∷ argument ∷ [])) same
    (own.0, ap (λ (a : List ℕ). word ∷ a ∷ []) (sym own.1) ∙ words value)

-- the row of a command with a behaviour is as `IsArgued` says
behaviour_row : (word : List ℕ) (command_for : Behaviour → Command)
    → ((behaviour : Behaviour) → CanBeNamed (command_for behaviour))
    → ((behaviour : Behaviour)
    → word ∷ behaviour_name behaviour ∷ [] ≡ words_of (command_for behaviour))
    → IsArgued (word, λ argument. option_map command_for (behaviour_named argument))
behaviour_row word command_for can words argument command e =
    read_is word command_for behaviour_name (behaviour_named argument) argument command
    (λ b is. (can b, behaviour_named-is argument b is)) words e

-- the row of `soak` is as `IsArgued` says
soak_row : IsArgued (codes "soak", λ argument. option_map Soak (soak_number argument))
soak_row argument command e =
    read_is (codes "soak") Soak decimal (soak_number argument) argument command
    (λ number is. let own = soak_number-is argument number is in (own.1, own.0)) (λ number. refl) e

-- each row of the commands with an argument is as `IsArgued` says: one part a row
argued_rows : AllByRecursion IsArgued argued_commands
argued_rows = (
  behaviour_row (codes "run") Run (λ b. tt) (λ b. refl),
  (
    behaviour_row (codes "replay") Replay (λ b. tt) (λ b. refl),
    (
      behaviour_row (codes "certify") Certify (λ b. tt) (λ b. refl),
      (
        behaviour_row (codes "monitor") Monitor (λ b. tt) (λ b. refl),
        (
          soak_row,
          tt,
        ),
      ),
    ),
  ),
)

-- the name of a behaviour is read as that behaviour
read_behaviour : (command_for : Behaviour → Command) (argument : List ℕ) (behaviour : Behaviour)
    → argument ≡ behaviour_name behaviour
    → option_map command_for (behaviour_named argument) ≡ Some (command_for behaviour)
read_behaviour command_for argument behaviour name =
    ap (λ (a : List ℕ). option_map command_for (behaviour_named a)) name
    ∙ ap (option_map command_for) (behaviour_named-from behaviour)

-- two words name a command exactly where they are its words
argued_command-is : (word argument : List ℕ) (command : Command)
    → argued_command word argument ≡ Some command → AreWordsOf (word ∷ argument ∷ []) command
unfolding argued_command
argued_command-is word argument command e =
    argued_in-is argued_commands word argument command argued_rows e

argued_command-from : (word argument : List ℕ) (command : Command) → CanBeNamed command
    → word ∷ argument ∷ [] ≡ words_of command → argued_command word argument ≡ Some command
unfolding argued_command
argued_command-from word argument Verify can e = cc
argued_command-from word argument Sketch can e = cc
argued_command-from word argument Order can e = cc
argued_command-from word argument Upgrade can e = cc
argued_command-from word argument Sets can e = cc
argued_command-from word argument (Run behaviour) can e =
    let same : word ≡ codes "run" = cc in rw same (read_behaviour Run argument behaviour cc)
argued_command-from word argument (Replay behaviour) can e =
    let same : word ≡ codes "replay" = cc in rw same (read_behaviour Replay argument behaviour cc)
argued_command-from word argument (Certify behaviour) can e =
    let same : word ≡ codes "certify" = cc in rw same (read_behaviour Certify argument behaviour cc)
argued_command-from word argument (Monitor behaviour) can e =
    let same : word ≡ codes "monitor" = cc in rw same (read_behaviour Monitor argument behaviour cc)
argued_command-from word argument (Soak number) can e =
    let same : word ≡ codes "soak" = cc in
    let spelled : argument ≡ decimal number = cc in
    rw same (ap (λ (a : List ℕ). option_map Soak (soak_number a)) spelled
    ∙ ap (option_map Soak) (soak_number-from number can))

-- no command has no words, or three
no_words : (command : Command) → [] ≡ words_of command → ⊥
no_words Verify e = cc
no_words Sketch e = cc
no_words Order e = cc
no_words Upgrade e = cc
no_words Sets e = cc
no_words (Run behaviour) e = cc
no_words (Replay behaviour) e = cc
no_words (Certify behaviour) e = cc
no_words (Monitor behaviour) e = cc
no_words (Soak number) e = cc

three_words : (a b c : List ℕ) (rest : List (List ℕ)) (command : Command)
    → a ∷ b ∷ c ∷ rest ≡ words_of command → ⊥
three_words a b c rest Verify e = cc
three_words a b c rest Sketch e = cc
three_words a b c rest Order e = cc
three_words a b c rest Upgrade e = cc
three_words a b c rest Sets e = cc
three_words a b c rest (Run behaviour) e = cc
three_words a b c rest (Replay behaviour) e = cc
three_words a b c rest (Certify behaviour) e = cc
three_words a b c rest (Monitor behaviour) e = cc
three_words a b c rest (Soak number) e = cc

-- the command words name a command exactly where they are its words
pub have_their_command : HaveTheirCommand
unfolding command_of
have_their_command [] command = (λ named. cc, λ are. absurd (no_words command are.1))
have_their_command (word ∷ []) command = (
  lone_command-is (string_bytes word) command,
  λ are. lone_command-from (string_bytes word) command are.1,
)
have_their_command (word ∷ argument ∷ []) command = (
  argued_command-is (string_bytes word) (string_bytes argument) command,
  λ are. argued_command-from (string_bytes word) (string_bytes argument) command are.0 are.1,
)
have_their_command (word ∷ argument ∷ third ∷ rest) command = (
  λ named. cc,
  λ are. absurd (three_words (string_bytes word) (string_bytes argument) (string_bytes third)
      (map string_bytes rest) command are.1),
)
