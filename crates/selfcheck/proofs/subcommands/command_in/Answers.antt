use Rattle.std.proofs.Common.{◌≡◌, ◌∙◌, List, codes, sym, ap, option_map, Option, Some, None}
use Rattle.clap.specs.Matches.{found_of, subcommand_name_of}
use Rattle.clap.specs.Simple.{subcommand_rows_of}
use Rattle.clap.specs.Walk.{Row, Text, first_of, rows_of}
use Rattle.clap.proofs.WalkLemmas.{first_value-rows}
use Rattle.selfcheck.specs.CommandLine.{command_met}
use Rattle.selfcheck.proofs.CommandLineLemmas.{met_at, name_is}
use Rattle.selfcheck.proofs.subcommands.command_in.Goals as goal

pub returns-in-Some : goal.returns-in-Some
returns-in-Some c =
    let name : ◌≡◌ {A = Option Text} (Some c.in_ok-name.name.now)
    (subcommand_name_of c.args.matches.now) = c.in_ok-name.ensures.name in
    let rows : ◌≡◌ {A = Option (List Row)} (Some (rows_of (found_of c.in_ok-name.inner.now)))
    (option_map (λ (p : Text × List Row). p.1) (subcommand_rows_of c.args.matches.now)) =
    c.in_ok-name.ensures.rows in
    let value : ◌≡◌ {A = Option Text} (Some c.in-Some.argument.now)
    (first_of (codes "argument") (rows_of (found_of c.in_ok-name.inner.now))) =
    c.in-Some.ensures ∙ first_value-rows (found_of c.in_ok-name.inner.now) (codes "argument") in
    c.from_pair.ensures ∙ ap command_met (sym (met_at (subcommand_rows_of c.args.matches.now) _ _ _
    (name ∙ name_is c.args.matches.now) rows (sym value)))

pub returns-in-None : goal.returns-in-None
returns-in-None c =
    let name : ◌≡◌ {A = Option Text} (Some c.in_ok-name.name.now)
    (subcommand_name_of c.args.matches.now) = c.in_ok-name.ensures.name in
    let rows : ◌≡◌ {A = Option (List Row)} (Some (rows_of (found_of c.in_ok-name.inner.now)))
    (option_map (λ (p : Text × List Row). p.1) (subcommand_rows_of c.args.matches.now)) =
    c.in_ok-name.ensures.rows in
    let value : ◌≡◌ {A = Option Text} None
    (first_of (codes "argument") (rows_of (found_of c.in_ok-name.inner.now))) =
    c.in-None.ensures ∙ first_value-rows (found_of c.in_ok-name.inner.now) (codes "argument") in
    c.from_word.ensures ∙ ap command_met (sym (met_at (subcommand_rows_of c.args.matches.now) _ _ _
    (name ∙ name_is c.args.matches.now) rows (sym value)))
