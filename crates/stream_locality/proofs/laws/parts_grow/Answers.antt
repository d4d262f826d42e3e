use Rattle.stream_locality.proofs.Growing.{parts_grow}
use Rattle.stream_locality.proofs.laws.parts_grow.Goals as goal

pub returns : goal.returns
returns c = parts_grow
