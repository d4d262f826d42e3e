use Rattle.report_lines.proofs.Accounts.{the_last_call_goes_on}
use Rattle.report_lines.proofs.laws.the_last_call_goes_on.Goals as goal

pub returns : goal.returns
returns c = the_last_call_goes_on
