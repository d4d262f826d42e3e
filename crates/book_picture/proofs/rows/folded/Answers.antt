use Rattle.std.proofs.Common.{◌≡◌, ◌-◌, List, length, refl, ap, arith}
use Rattle.book_picture.specs.declared.row.Row.{Row}
use Rattle.book_picture.specs.Rows.{row_height, IsRow}
use Rattle.book_picture.proofs.RowLemmas.{row_is, first_top, next_top, next_place, count_more, each_new, all_folded}
use Rattle.book_picture.proofs.rows.folded.Goals as goal

pub returns-then-left-le-ROW_PLACES : goal.returns-then-left-le-ROW_PLACES
returns-then-left-le-ROW_PLACES c =
    let places = c.args.places in
    let callers = length c.args.lanes.now in
    let top = c.args.top in
    let first = c.folding.first in
    let rows = c.folding.rows.items in
    let was = c.folding.invariant in
    let last : IsRow places callers top (length rows) _ =
    row_is places callers top (length rows) (places - first) c.min.result _ was.place was.below refl
    c.min.ensures c.in_ok-edges.ensures.count c.in_ok-edges.ensures.rising in
    all_folded places callers top first rows c.push.new.self.items _ c.in_ok-push.ensures.items
    was.place was.each last was.within was.more (omega arith)

pub folding-preserved : goal.folding-preserved
folding-preserved c =
    let places = c.args.places in
    let callers = length c.args.lanes.now in
    let top = c.args.top in
    let first = c.folding.first in
    let rows = c.folding.rows.items in
    let was = c.folding.invariant in
    let last : IsRow places callers top (length rows) _ =
    row_is places callers top (length rows) (places - first) c.min.result _ was.place was.below refl
    c.min.ensures c.in_ok-edges.ensures.count c.in_ok-edges.ensures.rising in
    record {
      place = next_place places callers top first rows c.push.new.self.items _
          c.in_ok-push.ensures.items was.place was.each last;
      below = next_top top (row_height callers) (length rows) c.folding.row_top _ _ was.below
          (omega arith) (count_more rows c.push.new.self.items _ c.in_ok-push.ensures.items);
      within = omega arith;
      more = λ _. omega arith;
      each = each_new places callers top first rows c.push.new.self.items _
          c.in_ok-push.ensures.items was.place was.each last;
    }
