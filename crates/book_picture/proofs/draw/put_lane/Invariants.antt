use Rattle.std.proofs.Common.{◌≡◌, ℕ, List, ◌++◌, take, option_map, string_bytes}
use Rattle.book_picture.specs.Bars.{IsShownOf}
use Rattle.book_picture.specs.Elements.{IsElementOf, AreElementsOf}
use Rattle.book_picture.specs.Values.{class_of_call}
use Rattle.book_picture.proofs.draw.put_lane.Given as goal

abbrev pub invariant-loop-interval : goal.invariant-loop-interval
invariant-loop-interval l =
    let class = class_of_call l.sheet.kind l.sheet.book.now l.sheet.values.now l.sheet.marks.now in
    let shows = IsShownOf l.sheet.kind l.sheet.book.now (option_map (λ o. o.now) l.sheet.order) in
    (text : List ℕ)
    × AreElementsOf (IsElementOf class shows l.sheet.rows.now) (take l.interval-index l.lane) text
    × (string_bytes l.out ≡ string_bytes l.initial.out ++ text)
