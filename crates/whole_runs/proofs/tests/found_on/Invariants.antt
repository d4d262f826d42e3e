use Rattle.whole_runs.proofs.tests.found_on.Given as goal

abbrev pub ghosts-calls_on-K-Ledger : goal.ghosts-calls_on-K-Ledger
ghosts-calls_on-K-Ledger g a = record { name = a.first.name; parts = a.first.parts }

abbrev pub ghosts-calls_on-L-Ledger : goal.ghosts-calls_on-L-Ledger
ghosts-calls_on-L-Ledger g a = record { name = a.second.name; parts = a.second.parts }
