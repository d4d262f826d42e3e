use Rattle.monitor.proofs.AllPublished.{published_records_are_in_the_book as law}
use Rattle.monitor.proofs.run_laws.published_records_are_in_the_book.Goals as goal

pub returns : goal.returns
returns c = law
