use Rattle.locality.proofs.Running.{runs_of_products}
use Rattle.locality.proofs.laws.runs_of_products.Goals as goal

pub returns : goal.returns
returns c = runs_of_products
