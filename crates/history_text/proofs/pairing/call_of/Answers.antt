use Rattle.std.proofs.Common.{◌∙◌, Option, None, ap, sym, if◌then◌else◌}
use Rattle.history_text.specs.declared.entry.Entry.{Entry}
use Rattle.history_text.specs.declared.event.LinedEvent.{LinedEvent}
use Rattle.history_text.specs.Pairing.{is_invocation, call_made, call_by}
use Rattle.history_text.proofs.pairing.call_of.Goals as goal

pub returns-in-OfCall : goal.returns-in-OfCall
returns-in-OfCall c = λ later known.
    let event = c.in-OfCall.event in
    let next = c.of.ensures ∙ known event.process.now in
    let made = ap (λ (o : Option LinedEvent). if is_invocation event.stage
    then call_made c.args.clock (record { line = c.args.entry.now.line; event = event }) o
    else None) next in
    c.of_event.ensures ∙ (made
    ∙ ap (λ (e : Entry). call_by c.args.clock c.args.entry.now.line e later) (sym c.in-OfCall.is))
