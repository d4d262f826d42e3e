use Rattle.collect_scan.proofs.Owning.{cuts_are_few, own_entries_are_counts}
use Rattle.collect_scan.proofs.laws.cuts_are_of_counts.Goals as goal

pub returns-clause-few : goal.returns-clause-few
returns-clause-few c = cuts_are_few

pub returns-clause-own : goal.returns-clause-own
returns-clause-own c = own_entries_are_counts
