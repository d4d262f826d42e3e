use Rattle.std.proofs.Common.{◌∙◌, ap}
use Rattle.selfcheck.specs.Arguments.{behaviour_named}
use Rattle.selfcheck.proofs.ArgumentLemmas.{behaviour_read}
use Rattle.selfcheck.proofs.arguments.behaviour_named.Goals as goal

pub returns : goal.returns
returns c =
    behaviour_read c.as_bytes.result.now c.from_name.result c.from_name.ensures.found
    c.from_name.ensures.none ∙ ap behaviour_named c.as_bytes.ensures.value
