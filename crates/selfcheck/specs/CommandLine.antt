-- The command line as clap reads it, and which command words are handed to clap.
use Rattle.std.specs.Prelude.{ℕ, ◌==◌, ◌&&◌, ◌++◌, Bool, true, false, not, List, [], ◌∷◌, Option, Some, None, map, codes, String, string_bytes}
use Rattle.std.specs.declared.alloc.Global.{Global}
use Rattle.clap.specs.Simple.{App, Shape, new_rule, new_shape}
use Rattle.clap.specs.Walk.{Row, Text, first_of}
use Rattle.selfcheck.specs.declared.command.Command.{Command}
use Rattle.selfcheck.specs.Command.{argued_command, argued_commands, has_argument, lone_command, lone_commands}

-- The command line without its subcommands: the first word is to be that of a command, and clap
-- adds no help.
abbrev pub bare_top : Shape
bare_top = record (new_shape (codes "selfcheck")) {
  no_binary_name = true;
  disable_help_flag = true;
  disable_help_subcommand = true;
  subcommand_required = true;
}

-- A subcommand with an argument, which clap reads as a text.
abbrev pub argued_shape : List ℕ → Shape
argued_shape name = record (new_shape name)
    { rules = record (new_rule (codes "argument")) { required = true } ∷ [] }

-- The command line, with a subcommand for each command.
abbrev pub line_app : App
line_app = record {
  top = record bare_top { is_leaf = false };
  subs =
      map (λ row. new_shape row.0) lone_commands ++ map (λ row. argued_shape row.0) argued_commands;
}

-- Whether a word begins with a hyphen.
abbrev pub begins_with_hyphen : List ℕ → Bool
begins_with_hyphen [] = false
begins_with_hyphen (byte ∷ bytes) = byte == 45

-- Whether the command words are handed to clap: there are two words, of which the first is that of
-- a command with an argument, or one word, which isn't; and no word begins with a hyphen.
unfoldable pub is_parsed : List (String Global) → Bool
is_parsed [] = false
is_parsed (word ∷ []) =
    not (has_argument (string_bytes word)) && not (begins_with_hyphen (string_bytes word))
is_parsed (word ∷ argument ∷ []) =
    has_argument (string_bytes word) && not (begins_with_hyphen (string_bytes argument))
is_parsed (word ∷ argument ∷ third ∷ rest) = false

-- The subcommand that clap has read, and its argument where it has one.
abbrev pub met_in : Text × List Row → Text × Option Text
met_in p = (p.0, first_of (codes "argument") p.1)

-- The command for the subcommand and the argument that clap has read, and `None` where they name no
-- command.
abbrev pub command_met : Option (Text × Option Text) → Option Command
command_met None = None
command_met (Some (name, None)) = lone_command name
command_met (Some (name, Some argument)) = argued_command name argument
