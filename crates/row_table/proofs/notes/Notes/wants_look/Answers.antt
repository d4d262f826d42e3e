use Rattle.std.proofs.Common.{ap, sym, ◌∙◌}
use Rattle.world_core.specs.Event as event
use Rattle.row_table.specs.declared.notes.Notes.{Notes}
use Rattle.row_table.proofs.Noting.{takes_kept}
use Rattle.row_table.proofs.notes.Notes.wants_look.Goals as goal

pub returns-in-Some-clause-wanted : goal.returns-in-Some-clause-wanted
returns-in-Some-clause-wanted c n me l is =
    takes_kept n me l.scan c.in-Some.scan c.args.region (event.is_look_wanted c.args.j) _
    (sym c.in-Some.is ∙ ap (λ (k : Notes). k.scan) is)
    (λ s at. c.wants_look.ensures.wanted n me s at)
