use Rattle.std.proofs.Common.{ℕ, ◌∙◌, List, [], get_or, Some, inl, inr, sym, ap, subst, arith}
use Rattle.std.proofs.lemmas.Option.{slice_get-get_or, slice_get_within, get_or_from_slice_get}
use Rattle.level_refutations.specs.declared.node.NodeKey.{NodeKey}
use Rattle.level_refutations.specs.Stored.{IsKey}
use Rattle.level_refutations.proofs.Sets.{inserted}
use Rattle.level_refutations.proofs.Knowing.{is_same_key, same_key, key_alike}
use Rattle.level_refutations.proofs.nodes.insert.Goals as goal

pub returns-then-node-cuts : goal.returns-then-node-cuts
returns-then-node-cuts c key = (
  λ one. inl one,
  λ one. elim one [
    | inl old ↦ old
    | inr new ↦ absurd (omega (
      arith,
      c.if-node-cuts.true,
      slice_get_within c.args.cuts.now c.args.node.cut key.counts new.1,
    ))
  ],
)

pub returns : goal.returns
returns c key =
    let cuts : List (List ℕ) = c.args.cuts.now in
    let cut : ℕ = c.args.node.cut in
    let counts : List ℕ = get_or cuts cut [] in
    let made : ℕ → List ℕ → NodeKey = λ l counts. record { level = l; counts = counts } in
    let is = inserted is_same_key same_key key_alike c.args.known.now.keys
    (made c.args.node.level counts) key in (
      λ one. elim (is.0 (subst (λ (ks : List NodeKey). IsKey ks key) c.in_ok-_is_new.ensures.keys
          one)) [
            | inl old ↦ inl old
            | inr same ↦ inr (
              ap (λ (k : NodeKey). k.level) same,
              slice_get-get_or cuts cut [] c.if-node-cuts.false
                  ∙ ap (λ (k : NodeKey). Some k.counts) (sym same),
            )
          ],
      λ one. subst (λ (ks : List NodeKey). IsKey ks key) (sym c.in_ok-_is_new.ensures.keys)
          (is.1 (elim one [
            | inl old ↦ inl old
            | inr new ↦ inr (ap (λ (l : ℕ). made l key.counts) new.0
                ∙ ap (made c.args.node.level)
                (sym (get_or_from_slice_get cuts cut key.counts [] new.1)))
          ])),
    )
