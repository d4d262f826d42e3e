use Rattle.stream_locality.proofs.Growing.{parts_continue}
use Rattle.stream_locality.proofs.laws.parts_continue.Goals as goal

pub returns : goal.returns
returns c = parts_continue
