use Rattle.broken_rules.proofs.EntryRules.{keys_are_held_once}
use Rattle.broken_rules.proofs.object_laws.maps_hold_each_key_once.Goals as goal

pub returns : goal.returns
returns c = keys_are_held_once
