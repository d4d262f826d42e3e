use Rattle.stream_locality.proofs.Parts.{parts_are_valid}
use Rattle.stream_locality.proofs.laws.parts_are_valid.Goals as goal

pub returns : goal.returns
returns c = parts_are_valid
