use Rattle.selfcheck.proofs.CommandLemmas.{have_their_command}
use Rattle.selfcheck.proofs.laws.words_have_their_command.Goals as goal

pub returns : goal.returns
returns c = have_their_command
