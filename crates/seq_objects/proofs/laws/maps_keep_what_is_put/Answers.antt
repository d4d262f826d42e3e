use Rattle.seq_objects.proofs.MapReading.{put_is_got, put_leaves_others, delete_leaves_others, deleted_is_none, keys_stay_once}
use Rattle.seq_objects.proofs.laws.maps_keep_what_is_put.Goals as goal

pub returns-clause-put : goal.returns-clause-put
returns-clause-put c = put_is_got

pub returns-clause-put_leaves_others : goal.returns-clause-put_leaves_others
returns-clause-put_leaves_others c = put_leaves_others

pub returns-clause-delete_leaves_others : goal.returns-clause-delete_leaves_others
returns-clause-delete_leaves_others c = delete_leaves_others

pub returns-clause-deleted : goal.returns-clause-deleted
returns-clause-deleted c = deleted_is_none

pub returns-clause-once : goal.returns-clause-once
returns-clause-once c = keys_stay_once
