use Rattle.std.proofs.Common.{ap, sym, ◌∙◌}
use Rattle.world_core.specs.Local.{Local}
use Rattle.world_core.specs.Event.{with_peek, is_peek_wanted}
use Rattle.row_table.specs.Notes.{notes_of}
use Rattle.row_table.proofs.Noting.{fed_taken, fed_left}
use Rattle.row_table.proofs.notes.Notes.peek.Goals as goal

pub returns-then-wants_peek : goal.returns-then-wants_peek
returns-then-wants_peek c me l is =
    let a = c.args in
    let saw : Local = with_peek l (record {
      region = c.args.region;
      caller = c.args.j;
      row = c.args.row;
      place = c.args.place;
      word = c.args.word;
    }) in
    let is_it = is_peek_wanted c.args.n c.args.region c.args.j c.args.row c.args.place in
    let taken = sym (c.wants_peek.ensures.wanted me l is) ∙ c.if-wants_peek.true in
    let fed = fed_taken c.args.n saw l.scan c.args.region is_it c.args.word taken in
    c.take.ensures c.args.n me saw fed.scan fed.there is ∙ sym (ap (notes_of c.args.n me) fed.on)

pub returns-else-wants_peek : goal.returns-else-wants_peek
returns-else-wants_peek c me l is =
    let saw : Local = with_peek l (record {
      region = c.args.region;
      caller = c.args.j;
      row = c.args.row;
      place = c.args.place;
      word = c.args.word;
    }) in
    let left = sym (c.wants_peek.ensures.wanted me l is) ∙ c.if-wants_peek.false in
    is ∙ sym (ap (notes_of c.args.n me) (fed_left c.args.n saw l.scan c.args.region
    (is_peek_wanted c.args.n c.args.region c.args.j c.args.row c.args.place) c.args.word left))
