use Rattle.stream_locality.proofs.KindProducts.{kinds_are_products}
use Rattle.stream_locality.proofs.laws.kinds_are_products.Goals as goal

pub returns : goal.returns
returns c = kinds_are_products
