use Rattle.test_objects.specs.Forms.{IsTallyReply}
use Rattle.test_objects.proofs.FaultyForming.{splits_are_formed}
use Rattle.named_runs.proofs.ToldCalls.{words_are_formed}
use Rattle.named_runs.proofs.named_object.SplitTallyNamedObject.close_with.Goals as goal

pub returns : goal.returns
returns c kind n phases calls opened own told =
    words_are_formed _ _ IsTallyReply splits_are_formed _ _ _ own phases calls told
