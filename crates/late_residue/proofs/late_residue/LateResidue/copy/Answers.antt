use Rattle.std.proofs.Common.{◌∙◌, List, ap, sym, subst}
use Rattle.late_residue.specs.Description.{Description}
use Rattle.late_residue.specs.declared.reached.Reached.{Reached}
use Rattle.late_residue.specs.Reached.{descriptions_of}
use Rattle.late_residue.specs.LateOnes.{AreLate}
use Rattle.late_residue.proofs.late_residue.LateResidue.copy.Goals as goal

pub returns : goal.returns
returns c spec stream calls late =
    subst (λ (l : List Description). AreLate spec stream calls l)
    (sym (c.in_ok-copies.ensures
    ∙ (ap (λ (l : List Reached). descriptions_of l) c.deref.ensures.value ∙ c.self.view_is))) late
