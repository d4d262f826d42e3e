use Rattle.judging_examples.proofs.ClosedTables.{take_leads_to_both, take_leads_not_to_one, take_stays_at_bottom}
use Rattle.judging_examples.proofs.piles.a_take_leads_to_each_level_below.Goals as goal

pub returns-clause-all : goal.returns-clause-all
returns-clause-all c = take_leads_to_both

pub returns-clause-missing : goal.returns-clause-missing
returns-clause-missing c = take_leads_not_to_one

pub returns-clause-bottom : goal.returns-clause-bottom
returns-clause-bottom c = take_stays_at_bottom
