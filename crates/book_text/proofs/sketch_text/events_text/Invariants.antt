use Rattle.std.proofs.Common.{◌≡◌, ◌∷◌, map, take}
use Rattle.std.specs.Prelude.{codes}
use Rattle.text_fields.specs.declared.version.Version.TheVariants.{Second}
use Rattle.text_fields.specs.Lines.{text_of}
use Rattle.text_fields.specs.Head.{title_words}
use Rattle.book_text.specs.Sketches.{event_words}
use Rattle.book_text.proofs.sketch_text.events_text.Given as goal

abbrev pub invariant-loop-event : goal.invariant-loop-event
invariant-loop-event l = l.out.items ≡ text_of (title_words Second (codes "sketch")
    ∷ map (event_words l.kind l.book) (take l.event-index l.events))
