use Rattle.broken_rules.proofs.ObjectStanding.{has_tells, add_tells, remove_tells}
use Rattle.broken_rules.proofs.object_laws.sets_tell_what_stands.Goals as goal

pub returns-clause-has : goal.returns-clause-has
returns-clause-has c = has_tells

pub returns-clause-add : goal.returns-clause-add
returns-clause-add c = add_tells

pub returns-clause-remove : goal.returns-clause-remove
returns-clause-remove c = remove_tells
