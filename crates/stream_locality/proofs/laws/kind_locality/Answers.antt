use Rattle.stream_locality.proofs.KindProducts.{kind_locality}
use Rattle.stream_locality.proofs.laws.kind_locality.Goals as goal

pub returns : goal.returns
returns c = kind_locality
