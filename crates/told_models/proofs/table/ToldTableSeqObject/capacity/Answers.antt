use Rattle.told_models.proofs.Stepping.{one_word}
use Rattle.told_models.proofs.table.ToldTableSeqObject.capacity.Goals as goal

pub returns-clause-fits : goal.returns-clause-fits
returns-clause-fits c steps few = one_word c.args.self.now steps c.args.self.now.init
