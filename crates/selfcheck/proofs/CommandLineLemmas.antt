-- Which command clap finds in the command words.
use Rattle.std.proofs.Common.{◌≡◌, ◌∷◌, ◌++◌, ◌&&◌, ℕ, Bool, true, false, not, List, [], codes, map, Option, Some, None, String, Global, string_bytes, option_map, if◌then◌else◌, refl, sym, ap, ◌∙◌, subst, true≢false}
use Rattle.std.specs.Prelude.{find, Box, IsTrue}
use Rattle.std.specs.Box.{box_value}
use Rattle.std.specs.List.{AllByRecursion}
use Rattle.std.specs.Str.{bytes_eq}
use Rattle.std.proofs.lemmas.Bool.Decides.{Decides-eqb}
use Rattle.std.proofs.lemmas.Slice.Eq.{bytes_eq-Decides}
use Rattle.clap.specs.Lexer.{long_of, short_of}
use Rattle.clap.specs.Matches.{subcommand_name_of}
use Rattle.clap.specs.Simple.{is_simple, subcommand_of, subcommand_rows, subcommand_rows_of, entered, built, names_of, HasMatchesOf}
use Rattle.clap.specs.Takes.{takes}
use Rattle.clap.specs.Walk.{Names, Text, Row, Held, Step, value, idle, answers_to, first_of, stop_after, subcommand_or_other, long_or_other, after_step, walk_from, nothing_held}
use Rattle.clap.specs.declared.parser.matches.ArgMatches.{ArgMatches}
use Rattle.clap.specs.declared.parser.matches.ArgMatches.TheViews.{out-ArgMatches, out-SubCommand}
use Rattle.clap.specs.declared.parser.matches.SubCommand.{SubCommand}
use Rattle.clap.proofs.OnLiterals.{clap_on_literals}
use Rattle.selfcheck.specs.declared.command.Command.{Command}
use Rattle.selfcheck.specs.declared.command.Command.TheVariants.{Run, Replay, Certify, Monitor, Soak}
use Rattle.selfcheck.proofs.ArgumentLemmas.{behaviour_named-hyphen, soak_number-hyphen}
use Rattle.selfcheck.specs.Command.{lone_commands, named_in, lone_command, argued_commands, names_argued, argued_in, has_argument, argued_command, command_of}
use Rattle.selfcheck.specs.CommandLine.{line_app, begins_with_hyphen, is_parsed, met_in, command_met}

-- ---- the table of commands

-- a command that is found in rows is found at one of them, so its word has what the words of all
-- rows have
at_row : (P : List ℕ → Type 0) (rows : List (List ℕ × Command)) (word : List ℕ) (command : Command)
    → AllByRecursion (λ (row : List ℕ × Command). P row.0) rows
    → named_in rows word ≡ Some command → P word
at_row P [] word command all e = cc
at_row P (row ∷ rows) word command all e =
    here (at_row P rows word command all.1) (bytes_eq word row.0)
    (λ t. sym ((bytes_eq-Decides word row.0).0 t)) e
  where
    here : (named_in rows word ≡ Some command → P word) → (test : Bool)
        → (test ≡ true → row.0 ≡ word)
        → (if test then Some row.1 else named_in rows word) ≡ Some command → P word
    here later true same e = subst P (same refl) all.0
    here later false same e = later e

-- equality of two words fails both ways
apart : (a b : List ℕ) → bytes_eq a b ≡ false → bytes_eq b a ≡ false
apart a b e = here (bytes_eq b a) refl
  where
    here : (test : Bool) → bytes_eq b a ≡ test → bytes_eq b a ≡ false
    here false t = t
    here true t = let same = (bytes_eq-Decides a b).1 (sym ((bytes_eq-Decides b a).0 t)) in cc

-- no subcommand answers to a word that no row has
no_row : (rows : List (List ℕ × Command)) (word : List ℕ) → named_in rows word ≡ None
    → find (answers_to word) (map (λ (row : List ℕ × Command). (row.0, [])) rows) ≡ None
no_row [] word e = refl
no_row (row ∷ rows) word e = here (no_row rows word) (bytes_eq word row.0) refl e
  where
    here : (named_in rows word ≡ None
        → find (answers_to word) (map (λ (row : List ℕ × Command). (row.0, [])) rows) ≡ None)
        → (test : Bool) → bytes_eq word row.0 ≡ test
        → (if test then Some row.1 else named_in rows word) ≡ None
        → find (answers_to word)
        ((row.0, []) ∷ map (λ (row : List ℕ × Command). (row.0, [])) rows) ≡ None
    here later true same e = cc
    here later false same e = rw (apart word row.0 same) (later e)

-- ---- the walk over one word

-- where the walk stops after the first word, by what that was
abbrev stopped_by : Text → Held × Step → Option (Text × List Text)
stopped_by word met = (after_step [] word (walk_from nothing_held) met.0 met.1).stopped

-- What clap makes of the first word, by the subcommand that this word names.
abbrev met_by : Text → Option (Text × List Text) → Held × Step
met_by word named = subcommand_or_other [] (option_map (λ (s : Text × List Text). s.0) named) idle 1
    word nothing_held

stop_is : (names : Names) (word : Text)
    → stop_after [] names (word ∷ []) ≡ stopped_by word (met_by word (find (answers_to word) names))
unfolding clap_on_literals
stop_is names word = refl

-- a word that begins with no hyphen is no flag
plain_met : (word : Text) → bytes_eq word (45 ∷ 45 ∷ []) ≡ false → long_of word ≡ None
    → short_of word ≡ None → met_by word None ≡ (nothing_held, value)
unfolding clap_on_literals
plain_met word dashes long short = rw (long_or_other, dashes, long, short) refl

is_plain : (word : Text) → begins_with_hyphen word ≡ false
    → met_by word None ≡ (nothing_held, value)
is_plain [] e = plain_met [] refl refl refl
is_plain (byte ∷ bytes) e =
    let dashes : bytes_eq (byte ∷ bytes) (45 ∷ 45 ∷ []) ≡ false = rw e refl in
    let long : long_of (byte ∷ bytes) ≡ None = rw e refl in
    let short : short_of (byte ∷ bytes) ≡ None = rw e refl in
    plain_met (byte ∷ bytes) dashes long short

no_stop : (names : Names) (word : Text) → find (answers_to word) names ≡ None
    → begins_with_hyphen word ≡ false → stop_after [] names (word ∷ []) ≡ None
no_stop names word unknown plain =
    stop_is names word
    ∙ ap (λ (named : Option (Text × List Text)). stopped_by word (met_by word named)) unknown
    ∙ ap (stopped_by word) (is_plain word plain)

-- no subcommand with an argument answers to a word that none of these rows has
no_argued_row : (rows : List (List ℕ × (List ℕ → Option Command))) (word : List ℕ)
    → names_argued rows word ≡ false
    → find (answers_to word)
    (map (λ (row : List ℕ × (List ℕ → Option Command)). (row.0, [])) rows) ≡ None
no_argued_row [] word e = refl
no_argued_row (row ∷ rows) word e = here (no_argued_row rows word) (bytes_eq word row.0) refl e
  where
    here : (names_argued rows word ≡ false → find (answers_to word)
        (map (λ (row : List ℕ × (List ℕ → Option Command)). (row.0, [])) rows) ≡ None)
        → (test : Bool) → bytes_eq word row.0 ≡ test
        → (if test then true else names_argued rows word) ≡ false
        → find (answers_to word)
        ((row.0, []) ∷ map (λ (row : List ℕ × (List ℕ → Option Command)). (row.0, [])) rows) ≡ None
    here later true same e = cc
    here later false same e = rw (apart word row.0 same) (later e)

-- a word that a row with an argument has, has what all words of such rows have
at_argued_row : (P : List ℕ → Type 0) (rows : List (List ℕ × (List ℕ → Option Command)))
    (word : List ℕ)
    → AllByRecursion (λ (row : List ℕ × (List ℕ → Option Command)). P row.0) rows
    → names_argued rows word ≡ true → P word
at_argued_row P [] word all e = cc
at_argued_row P (row ∷ rows) word all e =
    here (at_argued_row P rows word all.1) (bytes_eq word row.0)
    (λ t. sym ((bytes_eq-Decides word row.0).0 t)) e
  where
    here : (names_argued rows word ≡ true → P word) → (test : Bool) → (test ≡ true → row.0 ≡ word)
        → (if test then true else names_argued rows word) ≡ true → P word
    here later true same e = subst P (same refl) all.0
    here later false same e = later e

-- what is found in neither of two lists of names isn't found in the two in a row
find_in_both : (p : Text × List Text → Bool) (a b : Names) → find p a ≡ None → find p b ≡ None
    → find p (a ++ b) ≡ None
find_in_both p [] b none other = other
find_in_both p (x ∷ xs) b none other = here (find_in_both p xs b) (p x) none
  where
    here : (find p xs ≡ None → find p b ≡ None → find p (xs ++ b) ≡ None) → (test : Bool)
        → (if test then Some x else find p xs) ≡ None
        → (if test then Some x else find p (xs ++ b)) ≡ None
    here later true e = e
    here later false e = later e other

-- ---- the command line

-- the command line is simple
line_is_simple : is_simple line_app ≡ true
unfolding clap_on_literals
line_is_simple = refl

-- the subcommands of the command line are those of the tables
names_are : names_of (built line_app) ≡ map (λ (row : List ℕ × Command). (row.0, [])) lone_commands
    ++ map (λ (row : List ℕ × (List ℕ → Option Command)). (row.0, [])) argued_commands
unfolding clap_on_literals
names_are = refl

-- The subcommand that clap meets in these words, with its argument.
abbrev met_by_words : List Text → Option (Text × Option Text)
met_by_words words = option_map met_in (subcommand_of line_app words)

-- each word of the table is taken, and names its subcommand: one part a row
rows_are_met : AllByRecursion
    (λ (row : List ℕ × Command). met_by_words (row.0 ∷ []) ≡ Some (row.0, None)) lone_commands
unfolding clap_on_literals
rows_are_met = (refl, (refl, (refl, (refl, (refl, tt)))))

rows_are_taken : AllByRecursion
    (λ (row : List ℕ × Command). takes line_app (row.0 ∷ []) ≡ true) lone_commands
unfolding clap_on_literals
rows_are_taken = (refl, (refl, (refl, (refl, (refl, tt)))))

rows_are_plain : AllByRecursion
    (λ (row : List ℕ × Command). (begins_with_hyphen row.0 ≡ false) × (has_argument row.0 ≡ false))
    lone_commands
unfolding has_argument
rows_are_plain = ((refl, refl), ((refl, refl), ((refl, refl), ((refl, refl), ((refl, refl), tt)))))

-- an argument that begins with no hyphen, as the walk reads it
pub record IsPlainText (argument : Text) : Type 0 where
  pub dashes : bytes_eq argument (45 ∷ 45 ∷ []) ≡ false
  pub long : long_of argument ≡ None
  pub short : short_of argument ≡ None

-- with such an argument, each word of the other table is taken, and names its subcommand and the
-- argument: one part a row
argued_rows_are_met : AllByRecursion
    (λ (row : List ℕ × (List ℕ → Option Command)). (argument : Text) → IsPlainText argument
    → met_by_words (row.0 ∷ argument ∷ []) ≡ Some (row.0, Some argument)) argued_commands
unfolding clap_on_literals
argued_rows_are_met = (
  λ argument plain. rw (plain.dashes, plain.long, plain.short) refl,
  (
    λ argument plain. rw (plain.dashes, plain.long, plain.short) refl,
    (
      λ argument plain. rw (plain.dashes, plain.long, plain.short) refl,
      (
        λ argument plain. rw (plain.dashes, plain.long, plain.short) refl,
        (λ argument plain. rw (plain.dashes, plain.long, plain.short) refl, tt),
      ),
    ),
  ),
)

argued_rows_are_taken : AllByRecursion
    (λ (row : List ℕ × (List ℕ → Option Command)). (argument : Text) → IsPlainText argument
    → takes line_app (row.0 ∷ argument ∷ []) ≡ true) argued_commands
unfolding clap_on_literals
argued_rows_are_taken = (
  λ argument plain. rw (plain.dashes, plain.long, plain.short) refl,
  (
    λ argument plain. rw (plain.dashes, plain.long, plain.short) refl,
    (
      λ argument plain. rw (plain.dashes, plain.long, plain.short) refl,
      (
        λ argument plain. rw (plain.dashes, plain.long, plain.short) refl,
        (λ argument plain. rw (plain.dashes, plain.long, plain.short) refl, tt),
      ),
    ),
  ),
)

text_is_plain : (argument : Text) → begins_with_hyphen argument ≡ false → IsPlainText argument
text_is_plain [] e = record { dashes = refl; long = refl; short = refl }
text_is_plain (byte ∷ bytes) e = record { dashes = rw e refl; long = rw e refl; short = rw e refl }

known_met : (word : List ℕ) (command : Command) → lone_command word ≡ Some command
    → met_by_words (word ∷ []) ≡ Some (word, None)
unfolding lone_command
known_met word command e = at_row
    (λ word. met_by_words (word ∷ []) ≡ Some (word, None)) lone_commands word command rows_are_met e

known_taken : (word : List ℕ) (command : Command) → lone_command word ≡ Some command
    → takes line_app (word ∷ []) ≡ true
unfolding lone_command
known_taken word command e =
    at_row (λ word. takes line_app (word ∷ []) ≡ true) lone_commands word command rows_are_taken e

known_plain : (word : List ℕ) (command : Command) → lone_command word ≡ Some command
    → (begins_with_hyphen word ≡ false) × (has_argument word ≡ false)
unfolding lone_command
known_plain word command e =
    at_row (λ word. (begins_with_hyphen word ≡ false) × (has_argument word ≡ false)) lone_commands
    word command rows_are_plain e

argued_met : (word argument : List ℕ) → has_argument word ≡ true → IsPlainText argument
    → met_by_words (word ∷ argument ∷ []) ≡ Some (word, Some argument)
unfolding has_argument
argued_met word argument e = at_argued_row (λ word. (argument : Text) → IsPlainText argument
    → met_by_words (word ∷ argument ∷ []) ≡ Some (word, Some argument))
    argued_commands word argued_rows_are_met e argument

argued_taken : (word argument : List ℕ) → has_argument word ≡ true → IsPlainText argument
    → takes line_app (word ∷ argument ∷ []) ≡ true
unfolding has_argument
argued_taken word argument e = at_argued_row (λ word. (argument : Text) → IsPlainText argument
    → takes line_app (word ∷ argument ∷ []) ≡ true)
    argued_commands word argued_rows_are_taken e argument

unknown_met : (word : List ℕ) → begins_with_hyphen word ≡ false → lone_command word ≡ None
    → has_argument word ≡ false → met_by_words (word ∷ []) ≡ None
unfolding lone_command has_argument
unknown_met word plain e lone =
    let none =
    find_in_both (answers_to word) (map (λ (row : List ℕ × Command). (row.0, [])) lone_commands)
    (map (λ (row : List ℕ × (List ℕ → Option Command)). (row.0, [])) argued_commands)
    (no_row lone_commands word e) (no_argued_row argued_commands word lone) in
    let found = ap (find (answers_to word)) names_are ∙ none in
    ap (λ (stop : Option (Text × List Text)). option_map met_in (entered (built line_app) stop))
    (no_stop (names_of (built line_app)) word found plain)

-- ---- what clap answers

-- for one word, the command of the subcommand that clap meets is the command that the word names
one_word : (word : List ℕ) → begins_with_hyphen word ≡ false → has_argument word ≡ false
    → command_met (met_by_words (word ∷ [])) ≡ lone_command word
one_word word plain lone = here (lone_command word) refl
  where
    here : (named : Option Command) → lone_command word ≡ named
        → command_met (met_by_words (word ∷ [])) ≡ lone_command word
    here (Some command) e = ap command_met (known_met word command e)
    here None e = ap command_met (unknown_met word plain e lone) ∙ sym e

-- for a word and an argument, the command of the subcommand that clap meets is the command that the
-- two name
two_words : (word argument : List ℕ) → has_argument word ≡ true
    → begins_with_hyphen argument ≡ false
    → command_met (met_by_words (word ∷ argument ∷ [])) ≡ argued_command word argument
two_words word argument argued plain =
    ap command_met (argued_met word argument argued (text_is_plain argument plain))

-- where neither of two tests is true, both are false
one_parsed : (a b : Bool) → IsTrue (not a && not b) → (a ≡ false) × (b ≡ false)
one_parsed false false e = (refl, refl)
one_parsed false true e = cc
one_parsed true b e = cc

-- where a test is true and another isn't, the one is true and the other false
two_parsed : (a b : Bool) → IsTrue (a && not b) → (a ≡ true) × (b ≡ false)
two_parsed true false e = (refl, refl)
two_parsed true true e = cc
two_parsed false b e = cc

-- words that clap takes name the command of the subcommand that it meets
pub taken_is : (words : List (String Global)) (matches : ArgMatches) → IsTrue (is_parsed words)
    → HasMatchesOf line_app (map string_bytes words) matches
    → command_met (option_map met_in (subcommand_rows_of matches)) ≡ command_of words
unfolding is_parsed command_of
taken_is [] matches parsed told = cc
taken_is (word ∷ []) matches parsed told =
    let tests =
    one_parsed (has_argument (string_bytes word)) (begins_with_hyphen (string_bytes word)) parsed in
    ap (λ (met : Option (Text × List Row)). command_met (option_map met_in met))
    (told line_is_simple).1 ∙ one_word (string_bytes word) tests.1 tests.0
taken_is (word ∷ argument ∷ []) matches parsed told =
    let tests = two_parsed (has_argument (string_bytes word))
    (begins_with_hyphen (string_bytes argument)) parsed in
    ap (λ (met : Option (Text × List Row)). command_met (option_map met_in met))
    (told line_is_simple).1
    ∙ two_words (string_bytes word) (string_bytes argument) tests.0 tests.1
taken_is (word ∷ argument ∷ third ∷ rest) matches parsed told = cc

-- words that clap refuses, though there was memory, name no command
pub refused_is : (words : List (String Global)) → IsTrue (is_parsed words)
    → (takes line_app (map string_bytes words) ≡ true → ⊥) → command_of words ≡ None
unfolding is_parsed command_of
refused_is [] parsed refused = refl
refused_is (word ∷ []) parsed refused = here (lone_command (string_bytes word)) refl
  where
    here : (named : Option Command) → lone_command (string_bytes word) ≡ named
        → lone_command (string_bytes word) ≡ None
    here None e = e
    here (Some command) e = absurd (refused (known_taken (string_bytes word) command e))
refused_is (word ∷ argument ∷ []) parsed refused =
    let tests = two_parsed (has_argument (string_bytes word))
    (begins_with_hyphen (string_bytes argument)) parsed in
    absurd (refused (argued_taken (string_bytes word) (string_bytes argument) tests.0
    (text_is_plain (string_bytes argument) tests.1)))
refused_is (word ∷ argument ∷ third ∷ rest) parsed refused = refl

-- no argument that begins with a hyphen is one of a command: one part a row
hyphens_are_none : AllByRecursion
    (λ (row : List ℕ × (List ℕ → Option Command)). (bytes : List ℕ) → row.1 (45 ∷ bytes) ≡ None)
    argued_commands
hyphens_are_none = (
  λ bytes. ap (option_map Run) (behaviour_named-hyphen bytes),
  (
    λ bytes. ap (option_map Replay) (behaviour_named-hyphen bytes),
    (
      λ bytes. ap (option_map Certify) (behaviour_named-hyphen bytes),
      (
        λ bytes. ap (option_map Monitor) (behaviour_named-hyphen bytes),
        (λ bytes. ap (option_map Soak) (soak_number-hyphen bytes), tt),
      ),
    ),
  ),
)

hyphen_in : (rows : List (List ℕ × (List ℕ → Option Command))) (word bytes : List ℕ)
    → AllByRecursion
    (λ (row : List ℕ × (List ℕ → Option Command)). (bytes : List ℕ) → row.1 (45 ∷ bytes) ≡ None)
    rows → argued_in rows word (45 ∷ bytes) ≡ None
hyphen_in [] word bytes all = refl
hyphen_in (row ∷ rows) word bytes all = here (hyphen_in rows word bytes all.1) (bytes_eq word row.0)
  where
    here : argued_in rows word (45 ∷ bytes) ≡ None → (test : Bool)
        → (if test then row.1 (45 ∷ bytes) else argued_in rows word (45 ∷ bytes)) ≡ None
    here later true = all.0 bytes
    here later false = later

no_argument_in : (rows : List (List ℕ × (List ℕ → Option Command))) (word argument : List ℕ)
    → names_argued rows word ≡ false → argued_in rows word argument ≡ None
no_argument_in [] word argument e = refl
no_argument_in (row ∷ rows) word argument e =
    here (no_argument_in rows word argument) (bytes_eq word row.0) e
  where
    here : (names_argued rows word ≡ false → argued_in rows word argument ≡ None) → (test : Bool)
        → (if test then true else names_argued rows word) ≡ false
        → (if test then row.1 argument else argued_in rows word argument) ≡ None
    here later true e = cc
    here later false e = later e

hyphen_is_none : (word argument : List ℕ) → begins_with_hyphen argument ≡ true
    → argued_command word argument ≡ None
unfolding argued_command
hyphen_is_none word [] e = cc
hyphen_is_none word (byte ∷ bytes) e =
    let same : byte ≡ 45 = (Decides-eqb byte 45).0 e in
    subst (λ (b : ℕ). argued_in argued_commands word (b ∷ bytes) ≡ None) (sym same)
    (hyphen_in argued_commands word bytes hyphens_are_none)

lone_is_none : (word argument : List ℕ) → has_argument word ≡ false
    → argued_command word argument ≡ None
unfolding argued_command has_argument
lone_is_none word argument e = no_argument_in argued_commands word argument e

-- words that aren't handed to clap name no command
pub unparsed_is : (words : List (String Global)) → is_parsed words ≡ false → command_of words ≡ None
unfolding is_parsed command_of
unparsed_is [] e = refl
unparsed_is (word ∷ []) e = here (lone_command (string_bytes word)) refl
  where
    here : (named : Option Command) → lone_command (string_bytes word) ≡ named
        → lone_command (string_bytes word) ≡ None
    here None n = n
    here (Some command) n =
        let known = known_plain (string_bytes word) command n in
        let both : ◌≡◌ {A = Bool} true
        (not (has_argument (string_bytes word)) && not (begins_with_hyphen (string_bytes word))) =
        rw (known.0, known.1) refl in
        absurd (true≢false (both ∙ e))
unparsed_is (word ∷ argument ∷ []) e =
    here (has_argument (string_bytes word)) (begins_with_hyphen (string_bytes argument)) refl refl e
  where
    here : (a b : Bool) → has_argument (string_bytes word) ≡ a
        → begins_with_hyphen (string_bytes argument) ≡ b → a && not b ≡ false
        → argued_command (string_bytes word) (string_bytes argument) ≡ None
    here false b argued plain e = lone_is_none (string_bytes word) (string_bytes argument) argued
    here true true argued plain e = hyphen_is_none (string_bytes word) (string_bytes argument) plain
    here true false argued plain e = cc
unparsed_is (word ∷ argument ∷ third ∷ rest) e = refl

-- ---- what is read of the matches

-- the name of the subcommand that was met is that of its rows
pub name_is : (matches : ArgMatches) → subcommand_name_of matches
    ≡ option_map (λ (p : Text × List Row). p.0) (subcommand_rows_of matches)
name_is matches = here (out-ArgMatches matches).subcommand
  where
    here : {Z : Type 0} (met : Option (Box SubCommand Z))
        → option_map (λ (b : Box SubCommand Z). (out-SubCommand (box_value b)).name.now) met
        ≡ option_map (λ (p : Text × List Row). p.0) (subcommand_rows met)
    here None = refl
    here (Some met) = refl

-- the name and the rows of a subcommand give its name and its argument
pub met_at : (met : Option (Text × List Row)) (name : Text) (rows : List Row)
    (argument : Option Text) → Some name ≡ option_map (λ (p : Text × List Row). p.0) met
    → Some rows ≡ option_map (λ (p : Text × List Row). p.1) met
    → first_of (codes "argument") rows ≡ argument → option_map met_in met ≡ Some (name, argument)
met_at None name rows argument n r a = cc
met_at (Some p) name rows argument n r a =
    let same_name : name ≡ p.0 = cc in
    let same_rows : rows ≡ p.1 = cc in
    let last : first_of (codes "argument") p.1 ≡ argument =
    ap (first_of (codes "argument")) (sym same_rows) ∙ a in
    rw (same_name, last) refl
