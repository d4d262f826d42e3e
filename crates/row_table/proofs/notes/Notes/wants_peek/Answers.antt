use Rattle.std.proofs.Common.{ap, sym, ◌∙◌}
use Rattle.world_core.specs.Event as event
use Rattle.row_table.specs.declared.notes.Notes.{Notes}
use Rattle.row_table.proofs.Noting.{takes_kept}
use Rattle.row_table.proofs.notes.Notes.wants_peek.Goals as goal

pub returns-in-Some-clause-wanted : goal.returns-in-Some-clause-wanted
returns-in-Some-clause-wanted c me l is =
    takes_kept c.args.n me l.scan c.in-Some.scan c.args.region
    (event.is_peek_wanted c.args.n c.args.region c.args.j c.args.row c.args.place) _
    (sym c.in-Some.is ∙ ap (λ (k : Notes). k.scan) is) (λ s at. c.wants_peek.ensures.wanted me s at)
