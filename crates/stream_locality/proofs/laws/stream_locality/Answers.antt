use Rattle.stream_locality.proofs.Merging.{stream_locality}
use Rattle.stream_locality.proofs.laws.stream_locality.Goals as goal

pub returns : goal.returns
returns c = stream_locality
