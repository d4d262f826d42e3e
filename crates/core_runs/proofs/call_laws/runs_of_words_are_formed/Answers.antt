use Rattle.core_runs.proofs.OneWordReplies.{runs_of_tallies_are_formed, runs_of_cells_are_formed}
use Rattle.core_runs.proofs.call_laws.runs_of_words_are_formed.Goals as goal

pub returns-clause-tallies : goal.returns-clause-tallies
returns-clause-tallies c = runs_of_tallies_are_formed

pub returns-clause-cells : goal.returns-clause-cells
returns-clause-cells c = runs_of_cells_are_formed
