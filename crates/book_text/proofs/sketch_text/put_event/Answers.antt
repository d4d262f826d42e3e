use Rattle.std.proofs.Common.{◌≡◌, ◌++◌, sym, subst}
use Rattle.text_fields.specs.Lines.{line_text}
use Rattle.sketch.specs.declared.event.Event.{Event}
use Rattle.book_text.specs.Sketches.{event_words}
use Rattle.book_text.proofs.sketch_text.put_event.Goals as goal

pub returns-in_ok-put_return-in-Return : goal.returns-in_ok-put_return-in-Return
returns-in_ok-put_return-in-Return c =
    subst (λ (event : Event). c.put_return.new.out.items
    ≡ c.args.out.now.items ++ line_text (event_words c.args.kind c.args.book.now event))
    (sym c.in-Return.is) (c.in_ok-put_return-in-Return.ensures c.args.kind)
