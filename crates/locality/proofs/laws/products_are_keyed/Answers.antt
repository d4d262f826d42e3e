use Rattle.locality.proofs.Products.{products_are_keyed}
use Rattle.locality.proofs.laws.products_are_keyed.Goals as goal

pub returns : goal.returns
returns c = products_are_keyed
