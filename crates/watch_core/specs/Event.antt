-- Events of the code as events of a stream.
use Rattle.streams.specs.Stream.{StreamEvent, Called, Returned, Lost}
use Rattle.watch_core.specs.declared.event.Event.{Event}
use Rattle.watch_core.specs.declared.event.Event.TheVariants as events

-- an event of the code as one of a stream
abbrev pub event_of : Event → StreamEvent
event_of (events.Call process op) = Called process op
event_of (events.Return process reply) = Returned process reply
event_of (events.Lost process) = Lost process
