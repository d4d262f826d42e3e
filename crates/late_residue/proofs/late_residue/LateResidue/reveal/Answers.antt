use Rattle.std.proofs.Common.{rules, ◌≡◌, List, sym, subst}
use Rattle.std.specs.List.{filter}
use Rattle.std.proofs.lemmas.Fn.{filter_same}
use Rattle.late_residue.specs.Description.{Description}
use Rattle.late_residue.specs.Reached.{descriptions_of}
use Rattle.late_residue.specs.LateOnes.{AreLate}
use Rattle.late_residue.proofs.Revealing.{only_test, reveals_all}
use Rattle.late_residue.proofs.late_residue.LateResidue.reveal.Goals as goal

pub returns : goal.returns
returns c spec stream calls found has named may late =
    let test = only_test c.args.call c.args.reply in
    let left : c.retain.new.self.items ≡ filter test c.self.inside.reached.items =
    filter_same _ test _ (λ x b f' k. search rules) _ _ c.retain.ensures.filtered in
    let before : AreLate spec stream calls (descriptions_of c.self.inside.reached.items) =
    subst (λ (l : List Description). AreLate spec stream calls l) (sym c.self.view_is) late in
    reveals_all c.args.call c.args.reply calls may spec stream found has named
    c.self.inside.reached.items c.retain.new.self.items c.forget.new.ones.items left
    c.forget.ensures before
