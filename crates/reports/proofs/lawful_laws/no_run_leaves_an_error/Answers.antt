use Rattle.reports.proofs.LawfulErrors.{no_run_leaves_an_error as law}
use Rattle.reports.proofs.lawful_laws.no_run_leaves_an_error.Goals as goal

pub returns : goal.returns
returns c = law
