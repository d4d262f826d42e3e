use Rattle.collect_scan.proofs.AfterScans.{given_rows_are_known}
use Rattle.collect_scan.proofs.laws.given_rows_are_known.Goals as goal

pub returns : goal.returns
returns c = given_rows_are_known
