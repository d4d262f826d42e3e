use Rattle.world_objects.proofs.LogCapacity.{some_place_is_free}
use Rattle.world_objects.proofs.log_laws.some_place_is_free.Goals as goal

pub returns : goal.returns
returns c = some_place_is_free
