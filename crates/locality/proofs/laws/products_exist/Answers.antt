use Rattle.locality.proofs.Products.{products_exist}
use Rattle.locality.proofs.laws.products_exist.Goals as goal

pub returns : goal.returns
returns c = products_exist
