use Rattle.std.proofs.Common.{◌≡◌, ℕ, ◌<◌, ◌∙◌, [], length, get_or, Some, sym, ap, slice_get, arith}
use Rattle.std.proofs.lemmas.Bool.{false≢true}
use Rattle.std.proofs.lemmas.List.{get_or-map}
use Rattle.std.proofs.lemmas.List.Quantifiers.{position-Some}
use Rattle.std.proofs.lemmas.Map.Keys.{any_passes_from_place}
use Rattle.std.proofs.lemmas.Option.{slice_get-get_or}
use Rattle.level_refutations.specs.declared.above.Base.{Base}
use Rattle.level_refutations.specs.Stored.{lists_of}
use Rattle.level_refutations.proofs.Sets.{none_in}
use Rattle.level_refutations.proofs.Naming.{is_same_base, same_base, base_alike, names_at, lists_long}
use Rattle.level_refutations.proofs.above.Above.get.Goals as goal

pub returns-in-Some : goal.returns-in-Some
returns-in-Some c m =
    let above = c.args.self.now in
    let keys = above.bases.keys in
    let base : Base = record { value = c.args.value; below = c.args.below } in
    let index : ℕ = c.in-Some.index in
    let found = position-Some (is_same_base base) keys index base (sym c.in-Some.ensures.index) in
    let at : slice_get keys index ≡ Some base = slice_get-get_or keys index base found.0
    ∙ ap (λ (b : Base). Some b) (sym (same_base base (get_or keys index base) found.1)) in
    let inside : index < length above.levels.items = omega (
      arith,
      found.0,
      c.requires.long,
      lists_long (λ levels. levels.items) above.levels.items,
    ) in
    let is : get_or (lists_of above) index [] ≡ c.deref.result.now =
    get_or-map (λ levels. levels.items) above.levels.items index c.index.result.now [] inside
    ∙ (ap (λ levels. levels.items) (sym c.index.ensures) ∙ sym c.deref.ensures.value) in
    names_at above base index c.deref.result.now c.requires at is m

pub returns-in-None : goal.returns-in-None
returns-in-None c m =
    let keys = c.args.self.now.bases.keys in
    let base : Base = record { value = c.args.value; below = c.args.below } in (
      λ one. absurd (none_in m one),
      λ named. absurd (false≢true (c.in-None.ensures.found
          ∙ any_passes_from_place (is_same_base base) keys named.0 base named.1 (base_alike base))),
    )
