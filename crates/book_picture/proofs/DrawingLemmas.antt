-- What can be drawn of a book, and the elements that are drawn one after the other.
use Rattle.std.proofs.Common.{◌≡◌, ℕ, ◌<◌, ◌∙◌, List, Vec, [], ◌∷◌, ◌++◌, length, get_or, take, Some, refl, sym, ap, subst, ◌+◌, slice_get, append_assoc, option_map}
use Rattle.std.proofs.lemmas.Option.{slice_get-map, slice_get-get_or, slice_get_read, get_or_from_slice_get}
use Rattle.std.proofs.lemmas.List.{append-nil, map-append, take_more}
use Rattle.std.specs.declared.alloc.Global.{Global}
use Rattle.book_base.specs.Book.{Page, IsCall}
use Rattle.sketch.specs.declared.event.Event.{Event}
use Rattle.sketch.specs.declared.interval.Interval.{Interval}
use Rattle.sketch.specs.Intervals.{StandsOn, AreTold, rows_of}
use Rattle.book_picture.specs.Sheets.{AreDrawable, AreAllDrawable}
use Rattle.book_picture.specs.Elements.{AreElementsOf, AreLanesElements}

-- the row of the lane at place i is this lane's items
row_at : (lanes : List (Vec Interval Global)) (i : ℕ) (lane : Vec Interval Global)
    → slice_get lanes i ≡ Some lane → get_or (rows_of lanes) i [] ≡ lane.items
row_at lanes i lane at =
    let items : Vec Interval Global → List Interval = λ v. v.items in
    get_or_from_slice_get (rows_of lanes) i
    lane.items [] (slice_get-map items lanes i ∙ ap (option_map items) at)

-- an interval of the lane at a place is one of that place's lane
at_lane : (lanes : List (Vec Interval Global)) (i : ℕ) (lane : Vec Interval Global)
    (items : List Interval) → i < length lanes → lane ≡ get_or lanes i lane
    → items ≡ lane.items → (k : ℕ) (interval : Interval) → slice_get items k ≡ Some interval
    → StandsOn (rows_of lanes) i k interval
at_lane lanes i lane items less here same k interval at =
    let row : get_or (rows_of lanes) i [] ≡ items =
    row_at lanes i lane (slice_get_read lanes (length lanes) i lane refl less here) ∙ sym same in
    ap (λ (xs : List Interval). slice_get xs k) row ∙ at

-- where all intervals of all lanes can be drawn, those of the lane at a place can
pub drawable_lane : (book : List Page) (lanes : List (Vec Interval Global)) (i : ℕ)
    (lane : Vec Interval Global) (items : List Interval) → i < length lanes
    → lane ≡ get_or lanes i lane → items ≡ lane.items → AreAllDrawable book (rows_of lanes)
    → AreDrawable book items
drawable_lane book lanes i lane items less here same all =
    λ k interval at. all i k interval (at_lane lanes i lane items less here same k interval at)

-- an interval at a place of a lane can be drawn
pub drawable_at : (book : List Page) (lane : List Interval) (i : ℕ) (d : Interval) → i < length lane
    → AreDrawable book lane → IsCall book (get_or lane i d).call
drawable_at book lane i d less all = all i (get_or lane i d) (slice_get-get_or lane i d less)

-- the intervals of a book's events can be drawn
pub told_is_drawable : (book : List Page) (events : List Event) (lanes : List (List Interval))
    → AreTold book events lanes → AreAllDrawable book lanes
told_is_drawable book events lanes told caller k interval at = (told caller k interval at).call

module _ (is_element : Interval → List ℕ → Type 0) where
  -- the elements of a lane and then that of one more interval are those of the lane with this
  -- interval
  elements_more : (lane : List Interval) (interval : Interval) (text more : List ℕ)
      → AreElementsOf is_element lane text → is_element interval more
      → AreElementsOf is_element (lane ++ interval ∷ []) (text ++ more)
  elements_more [] interval text more none is =
      (more, [], is, refl, ap (λ (t : List ℕ). t ++ more) none ∙ sym (append-nil more))
  elements_more (x ∷ xs) interval text more (first, rest, has, are, e) is = (
    first,
    rest ++ more,
    has,
    elements_more xs interval rest more are is,
    ap (λ (t : List ℕ). t ++ more) e ∙ append_assoc first rest more,
  )

  -- the elements of some lanes and then those of one more are those of the lanes with this one
  lanes_elements_more : (lanes : List (List Interval)) (lane : List Interval) (text more : List ℕ)
      → AreLanesElements is_element lanes text → AreElementsOf is_element lane more
      → AreLanesElements is_element (lanes ++ lane ∷ []) (text ++ more)
  lanes_elements_more [] lane text more none is =
      (more, [], is, refl, ap (λ (t : List ℕ). t ++ more) none ∙ sym (append-nil more))
  lanes_elements_more (x ∷ xs) lane text more (first, rest, has, are, e) is = (
    first,
    rest ++ more,
    has,
    lanes_elements_more xs lane rest more are is,
    ap (λ (t : List ℕ). t ++ more) e ∙ append_assoc first rest more,
  )

  -- the first i elements of a lane and then that of interval i are its first i + 1 elements
  pub elements_turn : (lane : List Interval) (i : ℕ) (d : Interval) (text more : List ℕ)
      → i < length lane → AreElementsOf is_element (take i lane) text
      → is_element (get_or lane i d) more
      → AreElementsOf is_element (take (i + 1) lane) (text ++ more)
  elements_turn lane i d text more less are is =
      subst (λ (xs : List Interval). AreElementsOf is_element xs (text ++ more))
      (sym (take_more lane i d less))
      (elements_more (take i lane) (get_or lane i d) text more are is)

  -- the elements of the first i lanes and then those of lane i are those of the first i + 1 lanes
  pub lanes_turn : (lanes : List (Vec Interval Global)) (i : ℕ) (lane : Vec Interval Global)
      (text more : List ℕ) → i < length lanes → lane ≡ get_or lanes i lane
      → AreLanesElements is_element (rows_of (take i lanes)) text
      → AreElementsOf is_element lane.items more
      → AreLanesElements is_element (rows_of (take (i + 1) lanes)) (text ++ more)
  lanes_turn lanes i lane text more less here are is =
      let items : Vec Interval Global → List Interval = λ v. v.items in
      let grown : take (i + 1) lanes ≡ take i lanes ++ lane ∷ [] = take_more lanes i lane less
      ∙ ap (λ (v : Vec Interval Global). take i lanes ++ v ∷ []) (sym here) in
      let listed : rows_of (take (i + 1) lanes) ≡ rows_of (take i lanes) ++ lane.items ∷ [] =
      ap rows_of grown ∙ map-append items (take i lanes) (lane ∷ []) in
      subst (λ (ls : List (List Interval)). AreLanesElements is_element ls (text ++ more))
      (sym listed) (lanes_elements_more (rows_of (take i lanes)) lane.items text more are is)
