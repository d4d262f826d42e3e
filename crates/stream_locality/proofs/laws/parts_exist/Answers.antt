use Rattle.stream_locality.proofs.Growing.{parts_exist}
use Rattle.stream_locality.proofs.laws.parts_exist.Goals as goal

pub returns : goal.returns
returns c = parts_exist
