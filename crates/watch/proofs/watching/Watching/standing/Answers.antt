use Rattle.std.proofs.Common.{◌≡◌, Some, length, slice_get, refl, arith}
use Rattle.std.proofs.lemmas.Option.{slice_get_read}
use Rattle.stream_text.specs.Stream.{events_of}
use Rattle.watch.specs.Lines.{lines_of}
use Rattle.watch.proofs.Growing.{watched_set}
use Rattle.watch.proofs.watching.Watching.standing.Goals as goal

pub returns-in_err-settle-in-Some-clause-objects : goal.returns-in_err-settle-in-Some-clause-objects
returns-in_err-settle-in-Some-clause-objects c asked said watched =
    let items = c.args.self.now.objects.items in
    let one = c.in-Some.one.now in
    let at = slice_get_read items (length items) c.args.object one refl
    (omega (arith, c.in-Some.ensures.variant.0 refl)) (c.in-Some.ensures.item.3.1 one) in
    watched_set asked said items c.args.object one c.settle.new.self at c.settle.ensures.same watched

pub returns-in_ok-settle-in-Some-clause-objects : goal.returns-in_ok-settle-in-Some-clause-objects
returns-in_ok-settle-in-Some-clause-objects c asked said watched =
    let items = c.args.self.now.objects.items in
    let one = c.in-Some.one.now in
    let at = slice_get_read items (length items) c.args.object one refl
    (omega (arith, c.in-Some.ensures.variant.0 refl)) (c.in-Some.ensures.item.3.1 one) in
    watched_set asked said items c.args.object one c.settle.new.self at c.settle.ensures.same watched

pub returns-in_ok-settle-in-Some-clause-some : goal.returns-in_ok-settle-in-Some-clause-some
returns-in_ok-settle-in-Some-clause-some c asked said watched =
    let items = c.args.self.now.objects.items in
    let one = c.in-Some.one.now in
    let at = slice_get_read items (length items) c.args.object one refl
    (omega (arith, c.in-Some.ensures.variant.0 refl)) (c.in-Some.ensures.item.3.1 one) in
    c.in_ok-settle-in-Some.ensures.right said.kind asked (events_of c.args.object said.events)
    (lines_of c.args.object said.events) (watched c.args.object one at)
