use Rattle.monitor.proofs.Judged.{rounds_are_judged, short_rounds_are_rounds, own_is_a_witness}
use Rattle.monitor.proofs.laws.rounds_are_judged.Goals as goal

pub returns-clause-rounds : goal.returns-clause-rounds
returns-clause-rounds c = rounds_are_judged

pub returns-clause-short : goal.returns-clause-short
returns-clause-short c = short_rounds_are_rounds

pub returns-clause-own : goal.returns-clause-own
returns-clause-own c = own_is_a_witness
