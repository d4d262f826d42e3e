-- Which event a step of the table is, by the word that it finds.
use Rattle.std.specs.Prelude.{ℕ, ◌+◌, ◌%◌, ◌^◌, ◌==◌}
use prog.Atomic.{either}
use Rattle.world_core.specs.Event as event
use Rattle.world_core.specs.Event.{Event}
use Rattle.row_table.specs.declared.action.Opening.{Opening}
use Rattle.row_table.specs.declared.action.Opening.TheVariants.{Nothing, Scan, View}
use Rattle.row_table.specs.declared.action.Action.{Action}
use Rattle.row_table.specs.declared.action.Action.TheVariants.{Stage, Announce, Publish, Look, Peek, Load, Store, Add, Exchange}

-- What a look begins, as an event has it: nothing, a scan, or the view's scan with a reply.
abbrev pub opening_in : Opening → event.Opening
opening_in Nothing = event.Begins_none
opening_in Scan = event.Begins_scan
opening_in (View reply) = event.Begins_view reply

-- The event of a step on the object word at a place that found the word `old` there and made it the
-- word `new`.
abbrev pub object_step : ℕ → ℕ → ℕ → Event
object_step place old new = event.Object (record { place = place; old = old; new = new })

-- The event of an action that found the word x.
abbrev pub event_of : Action → ℕ → Event
event_of (Stage region place word) x = event.Stage region place word
event_of Announce x = event.Announce
event_of Publish x = event.Publish
event_of (Look region j opening) x = event.Look region j x (opening_in opening)
event_of (Peek region j row place) x = event.Peek region j row place x
event_of (Load place) x = object_step place x x
event_of (Store place word) x = object_step place x word
event_of (Add place add) x = object_step place x ((x + add) % 2 ^ 64)
event_of (Exchange place old new) x = object_step place x (either (x == old) new x)
