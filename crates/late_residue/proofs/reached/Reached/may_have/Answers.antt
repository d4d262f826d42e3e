use Rattle.std.proofs.Common.{◌≡◌, ◌∙◌, ◌==◌, ◌&&◌, sym}
use Rattle.std.specs.List.{list_any}
use Rattle.late_residue.specs.declared.reached.Placed.{Placed}
use Rattle.late_residue.proofs.Views.{holds_among, among_holds}
use Rattle.late_residue.proofs.reached.Reached.may_have.Goals as goal

pub returns : goal.returns
returns c =
    let items = c.args.self.now.optional.items in
    let place = c.args.place in
    let is : c.holds.result
    ≡ list_any (λ (p : Placed). p.call == place.call && p.reply == place.reply) items = cc in (
      λ e. holds_among items place (sym is ∙ e),
      λ among. is ∙ among_holds items place among,
    )
