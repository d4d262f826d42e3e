use Rattle.told_models.proofs.Walks.{searches_stay}
use Rattle.told_models.proofs.laws.searches_stay.Goals as goal

pub returns : goal.returns
returns c = searches_stay
