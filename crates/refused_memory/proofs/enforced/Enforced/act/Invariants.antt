use Rattle.refused_memory.proofs.enforced.Enforced.act.Given as goal

abbrev pub ghosts-queue_calls-K-Ledger : goal.ghosts-queue_calls-K-Ledger
ghosts-queue_calls-K-Ledger g a = record { name = a.first.name; parts = a.first.parts }

abbrev pub ghosts-queue_calls-L-Ledger : goal.ghosts-queue_calls-L-Ledger
ghosts-queue_calls-L-Ledger g a = record { name = a.second.name; parts = a.second.parts }
