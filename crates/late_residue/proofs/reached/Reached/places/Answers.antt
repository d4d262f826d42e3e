use Rattle.std.proofs.Common.{◌≡◌, ◌∙◌, ◌==◌, sym}
use Rattle.std.specs.List.{list_any}
use Rattle.late_residue.specs.declared.reached.Placed.{Placed}
use Rattle.late_residue.proofs.Views.{names_placed, placed_names}
use Rattle.late_residue.proofs.reached.Reached.places.Goals as goal

pub returns : goal.returns
returns c =
    let items = c.args.self.now.placed.items in
    let is : c.names.result ≡ list_any (λ (p : Placed). p.call == c.args.call) items = cc in (
      λ e. names_placed items c.args.call (sym is ∙ e),
      λ placed. is ∙ placed_names items c.args.call placed,
    )
