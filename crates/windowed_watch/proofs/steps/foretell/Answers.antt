use Rattle.std.proofs.Common.{◌≡◌, ◌∙◌, ℕ, ◌<◌, length, Some, slice_get, sym, ap, subst, arith}
use Rattle.std.proofs.lemmas.List.{length-map}
use Rattle.std.proofs.lemmas.Option.{same_Some, slice_get_within}
use Rattle.streams.specs.Stream.{Returned, process_of}
use Rattle.watch_core.specs.declared.event.Event.{Event}
use Rattle.watch_core.specs.Event.{event_of}
use Rattle.windowed_watch.specs.Ahead.{events_of}
use Rattle.windowed_watch.proofs.Foretelling.{at_event, foretold}
use Rattle.windowed_watch.proofs.steps.foretell.Goals as goal

pub returns-in-Some-checked_add-clause-taken : goal.returns-in-Some-checked_add-clause-taken
returns-in-Some-checked_add-clause-taken c stream has =
    let coming = c.args.coming.now in
    let k = c.in-Some.k in
    let reply = c.in-Return.reply in
    let next = c.in-Some.ensures in
    let within : k < length coming = (let less = slice_get_within (events_of coming) k _ next.1 in
    omega (arith, less, length-map coming event_of)) in
    let at : slice_get (events_of coming) k ≡ Some (Returned c.in-Return.process reply) =
    at_event coming k _ within ∙ ap (λ (e : Event). Some (event_of e)) c.in-Return.is in
    let same : c.in-Return.process ≡ c.args.process =
    ap process_of (same_Some _ _ (sym at ∙ next.1)) ∙ next.2 in
    foretold c.args.watch.now c.expect.new.self stream (events_of coming) k c.args.process reply
    c.in-Some-checked_add.by has
    (subst (λ (p : ℕ). slice_get (events_of coming) k ≡ Some (Returned p reply)) same at) next.3
    (omega (arith, c.in-Some-checked_add.ensures, c.taken.ensures))
    (λ near far parts count waits.
    c.expect.ensures.expected stream (events_of coming) near far has parts count waits)
