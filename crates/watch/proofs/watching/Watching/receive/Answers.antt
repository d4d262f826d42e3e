use Rattle.std.proofs.Common.{◌∙◌, ◌++◌, ◌∷◌, [], length, ℕ, refl, ap, subst, arith}
use Rattle.std.proofs.lemmas.List.{length-set}
use Rattle.std.proofs.lemmas.Option.{slice_get_read}
use Rattle.stream_text.specs.Stream.{events_of}
use Rattle.watch_core.specs.Event.{event_of}
use Rattle.watch.specs.Lines.{lines_of}
use Rattle.watch.specs.Watching.{IsWatched}
use Rattle.watch.proofs.Returning.{ok_then}
use Rattle.watch.proofs.Growing.{watched_more}
use Rattle.watch.proofs.watching.Watching.receive.Goals as goal

pub returns-in-Some-clause-objects : goal.returns-in-Some-clause-objects
returns-in-Some-clause-objects c =
    ok_then c.take.result c.take.ensures.received
    (λ received asked said names most phase size named watched number next.
    let known = c.in_ok-make_known.ensures.objects asked said names most phase size named watched
    next in
    let items = c.make_known.new.self.objects.items in
    let one = c.in-Some.one.now in
    let object = c.args.object in
    let at = slice_get_read items (length items) object one refl
    (omega (arith, c.in-Some.ensures.variant.0 refl)) (c.in-Some.ensures.item.3.1 one) in (
      length-set items object c.take.new.self ∙ known.0,
      watched_more asked said names object (event_of c.args.event) items c.take.new.self known.1
          (subst (λ (line : ℕ). IsWatched c.take.new.self said.kind asked
          (events_of object said.events ++ event_of c.args.event ∷ [])
          (lines_of object said.events ++ line ∷ []))
          (ap (λ w. w.number) c.make_known.ensures.same ∙ number)
          (received said.kind asked (events_of object said.events) (lines_of object said.events)
          (known.1 object one at))),
    ))
