use Rattle.std.proofs.Common.{◌≡◌, ◌∙◌, ◌∷◌, [], ap, sym, subst, length, length-append, arith}
use Rattle.stream_text.specs.declared.reader.Phase.TheVariants as phases
use Rattle.watch.specs.Watching.{IsWatched, AreWatched}
use Rattle.watch.proofs.Growing.{watched_push}
use Rattle.watch.proofs.watching.Watching.add.Goals as goal

pub returns-in_ok-push-clause-objects : goal.returns-in_ok-push-clause-objects
returns-in_ok-push-clause-objects c asked said settings phase size named watched =
    let old = c.args.self.now.objects.items in
    let one = c.in_ok-object.object in
    let both : phases.Events c.in-Events.kind ≡ phases.Events said.kind =
    sym c.in-Events.is ∙ phase in
    let kind : c.in-Events.kind ≡ said.kind = cc in
    let items = c.in_ok-push.ensures.items in
    let fresh = subst (λ k. IsWatched one k asked [] []) kind
    (subst (λ s. IsWatched one c.in-Events.kind s [] []) settings c.in_ok-object.ensures.fresh) in (
      omega (arith, ap length items, length-append old (one ∷ []), size),
      subst (λ l. AreWatched asked l said) (sym items)
          (watched_push asked said old one named size watched fresh),
    )
