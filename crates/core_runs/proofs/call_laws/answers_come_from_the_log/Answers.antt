use Rattle.core_runs.proofs.LogLaws as lemmas
use Rattle.core_runs.proofs.call_laws.answers_come_from_the_log.Goals as goal

pub returns : goal.returns
returns c = lemmas.answers_come_from_the_log
