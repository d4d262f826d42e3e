use Rattle.std.proofs.Common.{◌≡◌, ℕ, ◌==◌, None, Some, if◌then◌else◌, ap, subst, ◌∙◌, arith}
use Rattle.std.proofs.lemmas.Grind.{common_steps}
use Rattle.list_pruning.specs.Sights.{place_of}
use Rattle.list_pruning.proofs.Listing.{has_place}
use Rattle.list_pruning.proofs.sight.place_for.Goals as goal

pub returns : goal.returns
returns c =
    let old = c.args.sight.now in
    let new = c.set_place.new.sight in
    let none : place_of old c.args.value ≡ None = grind (arith, common_steps) in
    has_place old new c.args.value c.len-place.result _ c.requires none
    (c.len-place.ensures ∙ old.labelled.ok.0)
    (ap (λ v. v.items) c.in_ok-set_place.ensures.labelled ∙ c.in_ok-push.ensures.items)
    (subst (λ (label : ℕ). (w : ℕ) → place_of new w ≡ (if w == label then Some c.len-place.result
    else place_of old w)) c.from-label.ensures c.in_ok-set_place.ensures.places)
