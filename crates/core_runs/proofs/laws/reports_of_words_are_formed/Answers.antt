use Rattle.core_runs.proofs.LoggedReports.{reports_of_tallies_are_formed, reports_of_cells_are_formed}
use Rattle.core_runs.proofs.laws.reports_of_words_are_formed.Goals as goal

pub returns-clause-tallies : goal.returns-clause-tallies
returns-clause-tallies c = reports_of_tallies_are_formed

pub returns-clause-cells : goal.returns-clause-cells
returns-clause-cells c = reports_of_cells_are_formed
