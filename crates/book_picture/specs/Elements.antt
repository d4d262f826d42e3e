-- The elements of calls in the text of a picture, and the whole text.
use Rattle.std.specs.Prelude.{◌≡◌, ℕ, ◌+◌, ◌-◌, List, [], ◌∷◌, ◌++◌, length, codes, decimal, is_some, Option, Some, None}
use Rattle.std.specs.List.{flat_map}
use Rattle.book_base.specs.declared.call.Call.{Call}
use Rattle.book_base.specs.declared.call.Place.{Place}
use Rattle.book_base.specs.Book.{Page}
use Rattle.seq_objects.specs.declared.kind.Kind.{Kind}
use Rattle.sketch.specs.declared.event.Event.{Event}
use Rattle.sketch.specs.Sketch.{IsSketch}
use Rattle.sketch.specs.declared.interval.Interval.{Interval}
use Rattle.sketch.specs.Intervals.{HaveOneEach, StandOnTheirLanes, AreTold}
use Rattle.book_picture.specs.declared.draw.TheConstants.{TOP, LINE}
use Rattle.book_picture.specs.declared.marked_calls.MarkedCalls.{MarkedCalls}
use Rattle.book_picture.specs.declared.row.Row.{Row}
use Rattle.book_picture.specs.Groups.{HasNoGroup}
use Rattle.book_picture.specs.Rows.{part_in, AreFolded}
use Rattle.book_picture.specs.Bars.{Shown, IsShownOf, drawn_part}
use Rattle.book_picture.specs.Titles.{first_lines}
use Rattle.book_picture.specs.Heads.{IsHead}
use Rattle.book_picture.specs.Values.{values_after, class_of_call}

-- What draws an interval in a row: its bar, where it has a part in the row, and else nothing.
abbrev pub part_text : Interval → Shown → Row → List ℕ
part_text interval shown row =
    drawn_part row interval shown (part_in row.first (length row.edges.items - 1) interval)

-- What draws an interval in some rows, row after row.
abbrev pub parts_text : List Row → Interval → Shown → List ℕ
parts_text rows interval shown = flat_map (part_text interval shown) rows

-- A text is the element of an interval's call: a group with the call's caller and number and its
-- classes, which holds the bars of the interval in the rows, and no further group.
pub record IsElementOf (class : Call → List ℕ) (shows : Call → Shown → Type 0) (rows : List Row)
    (interval : Interval) (text : List ℕ) : Type 0 where
  pub shown : Shown
  pub is_shown : shows interval.call shown
  pub plain : HasNoGroup (parts_text rows interval shown)
  pub text_is : text ≡ codes "<g id=\"call-"
      ++ (decimal interval.call.caller ++ (codes "-" ++ (decimal interval.call.number
      ++ (codes "\" class=\"" ++ (class interval.call ++ (codes "\">\n"
      ++ (parts_text rows interval shown ++ codes "</g>\n")))))))

-- A text is the elements of the calls of a lane's intervals, one for each, in their order, and
-- nothing else, where `is_element` says what the element of an interval is.
abbrev pub AreElementsOf : (Interval → List ℕ → Type 0) → List Interval → List ℕ → Type 0
AreElementsOf is_element [] text = text ≡ []
AreElementsOf is_element (interval ∷ lane) text =
    (first rest : List ℕ) × is_element interval first
    × AreElementsOf is_element lane rest × (text ≡ first ++ rest)

-- A text is the elements of the calls of all lanes, lane after lane, one for each interval, and
-- nothing else.
abbrev pub AreLanesElements : (Interval → List ℕ → Type 0) → List (List Interval) → List ℕ → Type 0
AreLanesElements is_element [] text = text ≡ []
AreLanesElements is_element (lane ∷ lanes) text =
    (first rest : List ℕ) × AreElementsOf is_element lane first
    × AreLanesElements is_element lanes rest × (text ≡ first ++ rest)

-- The height at which the first row begins: below the line on the first error line of a run, where
-- there is one.
abbrev pub top_of : Option Call → ℕ
top_of None = TOP
top_of (Some call) = TOP + LINE

-- A text is the picture of a book. After its head, whose first lines say whether there is an order
-- and which calls are marked, it has one element for the one interval of each call, by lanes. The
-- places of the sketch are folded into rows. A call's classes are the colour of the value that it
-- shows, by the order in which values appear, and whether the call is marked.
pub record IsPicture (kind : Kind) (book : List Page) (order : Option (List Place))
    (marks : MarkedCalls) (error : Option Call) (text : List ℕ) : Type 0 where
  pub events : List Event
  pub lanes : List (List Interval)
  pub sketched : IsSketch book events
  pub own : StandOnTheirLanes lanes
  pub once : HaveOneEach book lanes
  pub told : AreTold book events lanes
  pub rows : List Row
  pub folded : AreFolded (length events) (length book) (top_of error) rows
  pub values : List ℕ
  pub appear : values ≡ values_after kind book [] events
  pub head : List ℕ
  pub is_head : IsHead kind (first_lines (is_some order) marks error) rows (length book) head
  pub elements : List ℕ
  pub are : AreLanesElements
      (IsElementOf (class_of_call kind book values marks) (IsShownOf kind book order) rows) lanes
      elements
  pub text_is : text ≡ head ++ (elements ++ codes "</svg>\n")
