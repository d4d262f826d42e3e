use Rattle.std.proofs.Common.{◌∙◌, sym, ap, subst, map, string_bytes}
use Rattle.clap.specs.Simple.{App, HasMatchesOf}
use Rattle.clap.specs.Takes.{takes}
use Rattle.selfcheck.proofs.CommandLineLemmas.{taken_is, refused_is}
use Rattle.selfcheck.proofs.subcommands.parse.Goals as goal

pub returns-in-Ok : goal.returns-in-Ok
returns-in-Ok c =
    let told =
    subst (λ (app : App). HasMatchesOf app (map string_bytes c.args.words.now) c.in-Ok.matches)
    c.in_ok-line.ensures c.in-Ok.ensures.matches in
    c.command_in.ensures ∙ taken_is c.args.words.now c.in-Ok.matches c.requires told

pub returns : goal.returns
returns c = sym (refused_is c.args.words.now c.requires (λ taken.
    c.in_default.not-OutOfMemory (c.kind.ensures ∙ c.in-Err.ensures.passes (ap
    (λ (app : App). takes app (map string_bytes c.args.words.now)) c.in_ok-line.ensures ∙ taken))))
