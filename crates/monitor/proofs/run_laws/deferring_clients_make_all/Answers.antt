use Rattle.monitor.proofs.Deferred.{deferring_clients_make_all as law}
use Rattle.monitor.proofs.run_laws.deferring_clients_make_all.Goals as goal

pub returns : goal.returns
returns c = law
