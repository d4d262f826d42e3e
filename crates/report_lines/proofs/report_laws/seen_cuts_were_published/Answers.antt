use Rattle.report_lines.proofs.Runs.{seen_cuts_were_published}
use Rattle.report_lines.proofs.report_laws.seen_cuts_were_published.Goals as goal

pub returns : goal.returns
returns c = seen_cuts_were_published
