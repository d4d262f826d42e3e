use Rattle.std.proofs.Common.{Some, None, ap, sym, ◌∙◌}
use Rattle.row_table.specs.declared.phase.Phase.{Phase}
use Rattle.row_table.specs.declared.notes.Notes.{Notes}
use Rattle.row_table.proofs.Noting.{same_scan, notes_ended, notes_go}
use Rattle.row_table.proofs.notes.Notes.take.Goals as goal

pub returns-in-Some-take : goal.returns-in-Some-take
returns-in-Some-take c n me l s there is =
    let at = same_scan n me l.scan c.in-Some.scan s
    (sym c.in-Some.is ∙ ap (λ (k : Notes). k.scan) is) there in
    ap (λ (q : Phase).
    record c.args.self.now { phase = q; scan = None; given = Some c.in-Some-take.cut })
    c.phase_after-self.ensures
    ∙ notes_ended n me c.args.self.now c.take.new.self l s c.args.word c.in-Some-take.cut is
    (c.take.ensures.taken n me s at) (sym (c.take.ensures.ended n me s at) ∙ c.in-Some-take.is)

pub returns-in_default-take : goal.returns-in_default-take
returns-in_default-take c n me l s there is =
    let at = same_scan n me l.scan c.in-Some.scan s
    (sym c.in-Some.is ∙ ap (λ (k : Notes). k.scan) is) there in
    notes_go n me c.args.self.now c.take.new.self l s c.args.word is
    (c.take.ensures.taken n me s at) (sym (c.take.ensures.ended n me s at) ∙ c.in_default-take.is)
