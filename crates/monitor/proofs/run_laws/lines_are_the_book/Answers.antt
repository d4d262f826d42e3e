use Rattle.monitor.proofs.Deferred.{lines_are_the_book as law}
use Rattle.monitor.proofs.run_laws.lines_are_the_book.Goals as goal

pub returns : goal.returns
returns c = law
