use Rattle.std.proofs.Common.{◌≡◌, ◌↔◌, ℕ, ◌<◌, ◌⊎◌, ◌∙◌, List, [], ◌∷◌, ◌++◌, length, get_or, inl, inr, sym, ap, subst, arith}
use Rattle.std.proofs.lemmas.List.{get_or-map}
use Rattle.std.proofs.lemmas.Option.{slice_get_within}
use Rattle.level_refutations.specs.declared.above.Base.{Base}
use Rattle.level_refutations.specs.Stored.{lists_of, IsNamed}
use Rattle.level_refutations.proofs.Naming.{added_names, lists_set, lists_long}
use Rattle.level_refutations.proofs.above.Above.add.Goals as goal

pub returns-clause-named : goal.returns-clause-named
returns-clause-named c v l m =
    let old = c.place.new.self in
    let keys = old.bases.keys in
    let index : ℕ = c.in_ok-index.index in
    let base : Base = record { value = c.args.value; below = c.args.below } in
    let names = c.in_ok-index.ensures.named v l m in
    let there : index < length (lists_of old) = omega (
      arith,
      slice_get_within keys index base c.in_ok-index.ensures.index,
      c.in_ok-index.ensures.even.long,
    ) in
    let inside : index < length old.levels.items =
    omega (arith, there, lists_long (λ levels. levels.items) old.levels.items) in
    let was : c.index_mut.result.now.items ≡ get_or (lists_of old) index [] =
    ap (λ levels. levels.items) c.index_mut.ensures.value
    ∙ sym (get_or-map (λ levels. levels.items) old.levels.items index c.index_mut.result.now []
    inside) in
    let lists = lists_set (λ levels. levels.items) old.levels.items index c.push.new.self
    (get_or (lists_of old) index [] ++ c.args.level ∷ [])
    (c.in_ok-push.ensures.items ∙ ap (λ (l : List ℕ). l ++ c.args.level ∷ []) was) in
    let added = subst (λ (ls : List (List ℕ)). IsNamed keys ls v l m ↔ (IsNamed keys
    (lists_of old) v l m ⊎ ((v ≡ c.args.value) × (l ≡ c.args.below) × (m ≡ c.args.level))))
    (sym lists) (added_names keys (lists_of old) index base c.args.level v l m
    c.in_ok-index.ensures.index there) in (
      λ named. elim (added.0 named) [ inl before ↦ inl (names.0 before) | inr new ↦ inr new ],
      λ named. elim named [
        | inl before ↦ added.1 (inl (names.1 before))
        | inr new ↦ added.1 (inr new)
      ],
    )
