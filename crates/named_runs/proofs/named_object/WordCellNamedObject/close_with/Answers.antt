use Rattle.test_objects.specs.Forms.{IsCellReply}
use Rattle.test_objects.proofs.Forming.{cells_are_formed}
use Rattle.named_runs.proofs.ToldCalls.{words_are_formed}
use Rattle.named_runs.proofs.named_object.WordCellNamedObject.close_with.Goals as goal

pub returns : goal.returns
returns c kind n phases calls opened own told =
    words_are_formed _ _ IsCellReply cells_are_formed _ _ _ own phases calls told
