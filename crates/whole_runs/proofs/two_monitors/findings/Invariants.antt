use Rattle.whole_runs.proofs.two_monitors.findings.Given as goal

abbrev pub ghosts-watch_lossy_queue-K-Ledger : goal.ghosts-watch_lossy_queue-K-Ledger
ghosts-watch_lossy_queue-K-Ledger g a = record { name = a.first.name; parts = a.first.parts }

abbrev pub ghosts-watch_lossy_queue-L-Ledger : goal.ghosts-watch_lossy_queue-L-Ledger
ghosts-watch_lossy_queue-L-Ledger g a = record { name = a.second.name; parts = a.second.parts }
