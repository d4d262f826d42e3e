use Rattle.monitor.proofs.AllPublished.{answers_are_exact as law}
use Rattle.monitor.proofs.run_laws.answers_are_exact.Goals as goal

pub returns : goal.returns
returns c = law
