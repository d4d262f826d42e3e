-- Of a local: the operation and the object steps of the call under way, whose number is the count
-- of published records, and the object steps of all calls.
use Rattle.std.specs.Prelude.{ℕ, List, [], slice_index, slice_index_or}
use Rattle.std.specs.List.{flat_map}
use Rattle.world_core.specs.Local.{Local, Object_step}

-- The operation of the call under way, which is the announced call without a published record; 0
-- where each announced call has one.
abbrev pub operation_now : Local → ℕ
operation_now l = slice_index l.operations l.published

-- The object steps of the call under way, in order; no steps where each announced call has a
-- published record.
abbrev pub steps_now : Local → List Object_step
steps_now l = slice_index_or l.object_steps l.published []

-- The object steps of all calls of a caller, call by call, and of each call in order.
abbrev pub all_steps_of : Local → List Object_step
all_steps_of l = flat_map (λ (steps : List Object_step). steps) l.object_steps
