use Rattle.std.proofs.Common.{◌≡◌, ℕ, List, Vec, [], length, ◌++◌, codes, string_bytes, append_assoc, Option, Some, None, option_map, is_some, refl, sym, ap, subst, ◌∙◌, Bool, arith}
use Rattle.std.specs.declared.alloc.Global.{Global}
use Rattle.book_base.specs.declared.call.Place.{Place}
use Rattle.sketch.specs.declared.event.Event.{Event}
use Rattle.sketch.specs.Sketch.{IsSketch}
use Rattle.sketch.specs.declared.interval.Interval.{Interval}
use Rattle.sketch.specs.Intervals.{rows_of}
use Rattle.book_picture.specs.Sheets.{AreAllDrawable}
use Rattle.book_picture.specs.Bars.{IsShownOf, order_in}
use Rattle.book_picture.specs.Rows.{AreFolded}
use Rattle.book_picture.specs.Titles.{first_lines}
use Rattle.book_picture.specs.Heads.{IsHead}
use Rattle.book_picture.specs.Values.{values_after, class_of_call}
use Rattle.book_picture.specs.Elements.{IsElementOf, AreLanesElements, top_of}
use Rattle.book_picture.proofs.DrawingLemmas.{told_is_drawable}
use Rattle.book_picture.proofs.draw.draw_book.Goals as goal

-- whether there is a value doesn't depend on what is made of it
some_mapped : {A B : Type 0} (f : A → B) (o : Option A) → is_some o ≡ is_some (option_map f o)
some_mapped f None = refl
some_mapped f (Some a) = refl

pub values_of-requires : goal.values_of-requires
values_of-requires c =
    let sketched : IsSketch c.args.book.now c.deref-2.result.now =
    subst (IsSketch c.args.book.now) (sym c.deref-2.ensures.value) c.in_ok-events.ensures in
    λ event stands. (sketched.whole event).0 stands

pub folded-requires : goal.folded-requires
folded-requires c =
    let rows = rows_of c.in_ok-lanes.lanes.items in
    subst (λ (lanes : List (Vec Interval Global)). AreAllDrawable c.args.book.now (rows_of lanes))
    (sym c.deref-3.ensures.value)
    (told_is_drawable c.args.book.now c.deref.result.now rows c.in_ok-lanes.ensures.told)

pub put_lanes-requires : goal.put_lanes-requires
put_lanes-requires c =
    let rows = rows_of c.in_ok-lanes.lanes.items in
    subst (λ (lanes : List (Vec Interval Global)). AreAllDrawable c.args.book.now (rows_of lanes))
    (sym c.deref-6.ensures.value)
    (told_is_drawable c.args.book.now c.deref.result.now rows c.in_ok-lanes.ensures.told)

pub returns : goal.returns
returns c =
    let put = c.in_ok-put_lanes.ensures in
    let kind = c.args.kind in
    let book = c.args.book.now in
    let marks = c.args.marks.now in
    let error = c.args.error in
    let rows = c.deref-4.result.now in
    let class = class_of_call kind book c.deref-5.result.now marks in
    let count : c.len.result ≡ length c.deref.result.now =
    omega (arith, c.len.ensures, ap (length {A = Event}) c.deref.ensures.value) in
    let order : option_map (λ o. o.now) c.order_of.result ≡ order_in c.args.verdict.now =
    c.order_of.ensures in
    record {
      events = c.deref.result.now;
      lanes = rows_of c.in_ok-lanes.lanes.items;
      sketched = subst (IsSketch book) (sym c.deref.ensures.value) c.in_ok-events.ensures;
      own = c.in_ok-lanes.ensures.own;
      once = c.in_ok-lanes.ensures.once;
      told = c.in_ok-lanes.ensures.told;
      rows = rows;
      folded = subst (λ (n : ℕ). AreFolded n (length book) (top_of error) rows) count
          (subst (λ (n : ℕ). AreFolded c.len.result n (top_of error) rows)
          (ap (length {A = Vec Interval Global}) c.deref-3.ensures.value
          ∙ c.in_ok-lanes.ensures.lanes)
          (subst (λ (n : ℕ). AreFolded c.len.result (length c.deref-3.result.now) n rows)
          c.top_of.ensures
          (subst (AreFolded c.len.result (length c.deref-3.result.now) c.top_of.result)
          (sym c.deref-4.ensures.value) c.in_ok-rows.ensures)));
      values = c.deref-5.result.now;
      appear = c.deref-5.ensures.value ∙ (c.in_ok-values.ensures ∙ ap (values_after kind book [])
          (c.deref-2.ensures.value ∙ sym c.deref.ensures.value));
      head = string_bytes c.in_ok-out.out;
      is_head = subst (λ (legal : Bool). IsHead kind (first_lines legal marks error) rows
          (length book) (string_bytes c.in_ok-out.out))
          (some_mapped _ c.order_of.result ∙ ap is_some order) c.in_ok-out.ensures;
      elements = put.0;
      are = subst (λ (o : Option (List Place)). AreLanesElements
          (IsElementOf class (IsShownOf kind book o) rows) (rows_of c.in_ok-lanes.lanes.items)
          put.0) order (subst (λ (lanes : List (Vec Interval Global)). AreLanesElements
          (IsElementOf class (IsShownOf kind book (option_map (λ o. o.now) c.order_of.result)) rows)
          (rows_of lanes) put.0) c.deref-6.ensures.value put.1);
      text_is = let joined = append_assoc (string_bytes c.in_ok-out.out) put.0 (codes "</svg>\n") in
          cc (joined, put.2, c.in_ok-push_str.ensures.bytes);
    }
