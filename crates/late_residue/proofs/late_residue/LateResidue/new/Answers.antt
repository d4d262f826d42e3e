use Rattle.std.proofs.Common.{◌≡◌, ◌∙◌, ℕ, List, [], ◌∷◌, ◌++◌, ap, sym, subst}
use Rattle.late_residue.specs.Description.{Description}
use Rattle.late_residue.specs.declared.reached.Reached.{Reached}
use Rattle.late_residue.specs.Reached.{description_of, descriptions_of}
use Rattle.late_residue.specs.LateOnes.{AreLate}
use Rattle.late_residue.proofs.Beginning.{first, late_none}
use Rattle.late_residue.proofs.late_residue.LateResidue.new.Goals as goal

pub returns : goal.returns
returns g c =
    let spec = g.O.SeqObject.spec c.args.object.now in
    let words : c.reset.new.state.words ≡ spec.init = ap (λ s. s.words) c.reset.ensures in
    let x = c.in_ok-first.field-0 in
    let here : c.push.new.self.items ≡ x ∷ [] = c.in_ok-push.ensures.items
    ∙ ap (λ (rs : List Reached). rs ++ x ∷ []) c.new-reached.ensures.items in
    let one : description_of x ≡ first spec = c.in_ok-first.ensures
    ∙ ap (λ (l : List ℕ). record { placed = []; optional = []; list = l }) words in
    let all : descriptions_of c.push.new.self.items ≡ first spec ∷ [] =
    ap (λ (rs : List Reached). descriptions_of rs) here
    ∙ ap (λ (d : Description). d ∷ []) one in
    subst (λ (l : List Description). AreLate spec [] [] l) (sym all) (late_none spec)
