use Rattle.std.proofs.Common.{◌≡◌, ◌∙◌, List, [], ◌∷◌, ◌++◌, refl, sym, ap, subst, inl, inr}
use Rattle.residue_laws.proofs.Appending.{map-both}
use Rattle.late_residue.specs.Description.{Description}
use Rattle.late_residue.specs.declared.reached.Reached.{Reached}
use Rattle.late_residue.specs.Reached.{Has, description_of, descriptions_of}
use Rattle.late_residue.specs.LateOnes.{AreApart}
use Rattle.late_residue.proofs.Items.{has-cases, has-cons, has-none, has-right}
use Rattle.late_residue.proofs.Handling.{apart-push}
use Rattle.late_residue.proofs.closing.add.Goals as goal

pub returns-clause-grows : goal.returns-clause-grows
returns-clause-grows c = (
  description_of c.args.one ∷ [],
  ap (λ (l : List Reached). descriptions_of l) c.in_ok-push.ensures.items
      ∙ map-both description_of c.args.ones.now.items (c.args.one ∷ []),
)

pub returns-clause-means : goal.returns-clause-means
returns-clause-means c at means =
    let one = description_of c.args.one in
    let old = descriptions_of c.args.ones.now.items in
    let images : descriptions_of c.push.new.self.items ≡ old ++ one ∷ [] =
    ap (λ (l : List Reached). descriptions_of l) c.in_ok-push.ensures.items
    ∙ map-both description_of c.args.ones.now.items (c.args.one ∷ []) in (
      one,
      subst (λ (l : List Description). Has l one) (sym images)
          (has-right old (one ∷ []) one (0, refl)),
      means,
    )

pub returns-clause-cases : goal.returns-clause-cases
returns-clause-cases c other has =
    let one = description_of c.args.one in
    let old = descriptions_of c.args.ones.now.items in
    let images : descriptions_of c.push.new.self.items ≡ old ++ one ∷ [] =
    ap (λ (l : List Reached). descriptions_of l) c.in_ok-push.ensures.items
    ∙ map-both description_of c.args.ones.now.items (c.args.one ∷ []) in
    elim (has-cases old (one ∷ []) other (subst (λ (l : List Description). Has l other) images has)) [
      | inl before ↦ inl before
      | inr last ↦ elim (has-cons one [] other last) [
        | inl is ↦ inr is
        | inr none ↦ absurd (has-none other none)
      ]
    ]

pub returns-clause-apart : goal.returns-clause-apart
returns-clause-apart c apart =
    let one = description_of c.args.one in
    let old = descriptions_of c.args.ones.now.items in
    let images : descriptions_of c.push.new.self.items ≡ old ++ one ∷ [] =
    ap (λ (l : List Reached). descriptions_of l) c.in_ok-push.ensures.items
    ∙ map-both description_of c.args.ones.now.items (c.args.one ∷ []) in
    subst (λ (l : List Description). AreApart l) (sym images) (apart-push old one
    c.requires apart)
