use Rattle.test_objects.specs.FaultyForms.{IsQueueReply}
use Rattle.test_objects.proofs.FaultyForming.{one_passes_are_formed}
use Rattle.named_runs.proofs.ToldCalls.{words_are_formed}
use Rattle.named_runs.proofs.named_object.OnePassNamedObject.close_with.Goals as goal

pub returns : goal.returns
returns c kind n phases calls opened own told =
    words_are_formed _ _ IsQueueReply (one_passes_are_formed _) _ _ _ own phases calls told
