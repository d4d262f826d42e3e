use Rattle.std.proofs.Common.{◌≡◌, ℕ, List, ◌++◌, take, option_map, string_bytes}
use Rattle.sketch.specs.Intervals.{rows_of}
use Rattle.book_picture.specs.Bars.{IsShownOf}
use Rattle.book_picture.specs.Elements.{IsElementOf, AreLanesElements}
use Rattle.book_picture.specs.Values.{class_of_call}
use Rattle.book_picture.proofs.draw.put_lanes.Given as goal

abbrev pub invariant-loop-lane : goal.invariant-loop-lane
invariant-loop-lane l =
    let class = class_of_call l.sheet.kind l.sheet.book.now l.sheet.values.now l.sheet.marks.now in
    let shows = IsShownOf l.sheet.kind l.sheet.book.now (option_map (λ o. o.now) l.sheet.order) in
    (text : List ℕ)
    × AreLanesElements (IsElementOf class shows l.sheet.rows.now)
    (rows_of (take l.lane-index l.lanes)) text
    × (string_bytes l.out ≡ string_bytes l.initial.out ++ text)
