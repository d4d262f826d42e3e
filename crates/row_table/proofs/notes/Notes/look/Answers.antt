use Rattle.std.proofs.Common.{ap, sym, ◌∙◌}
use Rattle.world_core.specs.Local.{Local}
use Rattle.world_core.specs.Event.{opened, with_look, is_look_wanted}
use Rattle.row_table.specs.Actions.{opening_in}
use Rattle.row_table.specs.Notes.{notes_of}
use Rattle.row_table.proofs.Noting.{fed_taken, fed_left}
use Rattle.row_table.proofs.notes.Notes.look.Goals as goal

pub returns-then-wants_look : goal.returns-then-wants_look
returns-then-wants_look c l is =
    let l1 : Local = opened l c.args.region (opening_in c.args.opening) in
    let saw : Local =
    with_look l1 (record { region = c.args.region; caller = c.args.j; count = c.args.word }) in
    let taken = sym (c.wants_look.ensures.wanted c.args.n c.args.me l1 (c.open.ensures l is))
    ∙ c.if-wants_look.true in
    let fed =
    fed_taken c.args.n saw l1.scan c.args.region (is_look_wanted c.args.j) c.args.word taken in
    c.take.ensures c.args.n c.args.me saw fed.scan fed.there (c.open.ensures l is)
    ∙ sym (ap (notes_of c.args.n c.args.me) fed.on)

pub returns-else-wants_look : goal.returns-else-wants_look
returns-else-wants_look c l is =
    let l1 : Local = opened l c.args.region (opening_in c.args.opening) in
    let saw : Local =
    with_look l1 (record { region = c.args.region; caller = c.args.j; count = c.args.word }) in
    let left = sym (c.wants_look.ensures.wanted c.args.n c.args.me l1 (c.open.ensures l is))
    ∙ c.if-wants_look.false in
    c.open.ensures l is ∙ sym (ap (notes_of c.args.n c.args.me)
    (fed_left c.args.n saw l1.scan c.args.region (is_look_wanted c.args.j) c.args.word left))
