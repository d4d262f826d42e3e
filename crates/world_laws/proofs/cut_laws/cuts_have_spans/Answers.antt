use Rattle.world_laws.proofs.Tracing.{cuts_have_spans}
use Rattle.world_laws.proofs.cut_laws.cuts_have_spans.Goals as goal

pub returns : goal.returns
returns c = cuts_have_spans
