use Rattle.residue_laws.proofs.Settling.{prefixes_have_one, only_returns_refute}
use Rattle.residue_laws.proofs.laws.refutations_are_final.Goals as goal

pub returns-clause-prefixes : goal.returns-clause-prefixes
returns-clause-prefixes c = prefixes_have_one

pub returns-clause-returns : goal.returns-clause-returns
returns-clause-returns c = only_returns_refute
