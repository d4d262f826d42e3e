use Rattle.core_runs.proofs.LogLaws as lemmas
use Rattle.core_runs.proofs.call_laws.entries_are_of_calls.Goals as goal

pub returns : goal.returns
returns c = lemmas.entries_are_of_calls
