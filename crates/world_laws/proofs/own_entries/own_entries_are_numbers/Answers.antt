use Rattle.world_laws.proofs.OwnEntries.{embedded_cuts_count_their_row, seen_cuts_count_their_call, views_count_their_call}
use Rattle.world_laws.proofs.own_entries.own_entries_are_numbers.Goals as goal

pub returns-clause-views : goal.returns-clause-views
returns-clause-views c = views_count_their_call

pub returns-clause-seen : goal.returns-clause-seen
returns-clause-seen c = seen_cuts_count_their_call

pub returns-clause-embedded : goal.returns-clause-embedded
returns-clause-embedded c = embedded_cuts_count_their_row
