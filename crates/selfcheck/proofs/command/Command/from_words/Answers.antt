use Rattle.std.proofs.Common.{◌∙◌, sym}
use Rattle.selfcheck.proofs.CommandLineLemmas.{unparsed_is}
use Rattle.selfcheck.proofs.command.Command.from_words.Goals as goal

pub returns-else-may_be_parsed-clause-command : goal.returns-else-may_be_parsed-clause-command
returns-else-may_be_parsed-clause-command c =
    sym (unparsed_is c.args.words.now (sym c.may_be_parsed.ensures ∙ c.if-may_be_parsed.false))
