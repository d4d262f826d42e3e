-- Bars: how the part of an interval in a row is drawn, and what a call's bar shows.
use Rattle.std.specs.Prelude.{◌≡◌, ℕ, ◌+◌, ◌-◌, Bool, not, ◌&&◌, ◌||◌, List, [], ◌++◌, length, codes, decimal, Option, Some, None, option_map, unwrap_or, slice_index, if◌then◌else◌, MatchOption}
use Rattle.book_base.specs.declared.call.Call.{Call}
use Rattle.book_base.specs.declared.call.Place.{Place}
use Rattle.book_base.specs.Book.{Page, operation_of, record_of}
use Rattle.book_base.specs.Order.{StandsAt}
use Rattle.seq_objects.specs.declared.kind.Kind.{Kind}
use Rattle.seq_objects.specs.Words.{operation_text}
use Rattle.seq_objects.specs.Replies.{reply_word}
use Rattle.frontier_check.specs.declared.verdict.Verdict.{Verdict}
use Rattle.frontier_check.specs.declared.verdict.Verdict.TheVariants.{Legal, Illegal}
use Rattle.sketch.specs.declared.interval.Interval.{Interval}
use Rattle.book_picture.specs.declared.label.Label.{Label}
use Rattle.book_picture.specs.declared.row.Row.{Row}
use Rattle.book_picture.specs.declared.row.IntervalPart.{IntervalPart}
use Rattle.book_picture.specs.declared.sheet.Bar.{Bar}
use Rattle.book_picture.specs.declared.sheet.TheConstants.{BAR, GAP}
use Rattle.book_picture.specs.Rows.{capped, lane_top}
use Rattle.book_picture.specs.Titles.{line_text}

-- The first line of a call's label: its operation.
abbrev pub operation_line : Kind → List Page → Call → List ℕ
operation_line kind book call = operation_text kind (unwrap_or (operation_of book call) 0)

-- The second line of a call's label, by the reply to the call: this reply, or `no reply` where
-- there is none.
abbrev pub reply_line : Option ℕ → List ℕ
reply_line (Some reply) = reply_word reply
reply_line None = codes "no reply"

-- The legal order that a verdict carries, where it carries one.
abbrev pub order_in : Verdict → Option (List Place)
order_in (Legal order) = Some order.items
order_in Illegal = None

-- The number of a call in an order is its place there, counted from 1, and `None` where the order
-- lacks the call. Without an order no call has a number.
abbrev pub IsNumberIn : Option (List Place) → Call → Option ℕ → Type 0
IsNumberIn None call number = number ≡ None
IsNumberIn (Some order) call number = MatchOption number ((k : ℕ) → ¬ (StandsAt order k call))
    (λ n. (k : ℕ) × (n ≡ k + 1) × StandsAt order k call)

-- What the bars of a call show: the two lines of a label, and a number in an order.
pub record Shown : Type 0 where
  pub operation : List ℕ
  pub reply : List ℕ
  pub number : Option ℕ

-- What a bar with this label and this number shows.
abbrev pub shown_by : Label → Option ℕ → Shown
shown_by label number =
    record { operation = label.operation.items; reply = label.reply.items; number = number }

-- What the bars of a call of a book show: its operation; its reply, or that it has none; and its
-- own number in the order, where there is an order that has it.
pub record IsShownOf (kind : Kind) (book : List Page) (order : Option (List Place)) (call : Call)
    (shown : Shown) : Type 0 where
  pub operation : shown.operation ≡ operation_line kind book call
  pub reply : shown.reply ≡ reply_line (option_map (λ r. r.reply) (record_of book call))
  pub number : IsNumberIn order call shown.number

-- The bar of an interval's part in a row, on the lane of the call's caller: from the edge at which
-- the part begins to the one at which it ends. Its left edge is drawn where the interval begins
-- there, and its right one where the interval ends there and isn't open.
abbrev pub bar_of : Row → Interval → IntervalPart → Bar
bar_of row interval part = record {
  left = capped (slice_index row.edges.items part.begin + GAP);
  right = slice_index row.edges.items part.end - GAP;
  top = lane_top row.top interval.call.caller;
  begins = part.begins;
  ends = part.ends && not interval.is_open;
  is_open = interval.is_open;
}

-- The further class of a bar's outline, where it has one: `through`, undrawn, where neither edge is
-- drawn, and else `open`, dashed, where the call is unanswered.
abbrev pub outline_class : Bar → List ℕ
outline_class bar = if not bar.begins && not bar.ends then codes " through"
    else (if bar.is_open then codes " open" else [])

-- Whether the left edge of a bar is drawn and the right one isn't.
abbrev pub is_cut_off : Bar → Bool
is_cut_off bar = bar.begins && not bar.ends

-- The x coordinate at which a bar's outline begins and ends: that of the right edge where only the
-- left one is drawn, and else that of the left edge.
abbrev pub outline_start : Bar → ℕ
outline_start bar = if is_cut_off bar then bar.right else bar.left

-- The x coordinate of the edge that a bar's outline runs down: the left edge where only this is
-- drawn, and else the right one.
abbrev pub outline_turn : Bar → ℕ
outline_turn bar = if is_cut_off bar then bar.left else bar.right

-- The path command that closes a bar's outline where both of the bar's edges are drawn or neither
-- is; else nothing.
abbrev pub outline_close : Bar → List ℕ
outline_close bar =
    if (bar.begins && not bar.ends) || (not bar.begins && bar.ends) then [] else codes " Z"

-- The SVG element of an outline of this class that begins and ends at the x coordinate `start`, and
-- runs at the height `top` to `turn`, down to `bottom`, and back.
unfoldable pub outline_at : List ℕ → ℕ → ℕ → ℕ → ℕ → List ℕ → List ℕ
outline_at class start top turn bottom close = codes "<path class=\"bar" ++ (class
    ++ (codes "\" d=\"M " ++ (decimal start ++ (codes " " ++ (decimal top
    ++ (codes " H " ++ (decimal turn ++ (codes " V " ++ (decimal bottom
    ++ (codes " H " ++ (decimal start ++ (close ++ codes "\"/>\n"))))))))))))

-- The outline of a bar.
abbrev pub outline_text : Bar → List ℕ
outline_text bar = outline_at (outline_class bar) (outline_start bar) bar.top (outline_turn bar)
    (capped (bar.top + BAR)) (outline_close bar)

-- The two lines of a label in a bar: the operation, and below it the reply.
abbrev pub label_text : Bar → List ℕ → List ℕ → List ℕ
label_text bar operation reply =
    line_text (codes "call") (capped (bar.left + 9)) (capped (bar.top + 18)) operation
    ++ line_text (codes "call") (capped (bar.left + 9)) (capped (bar.top + 36)) reply

-- The SVG elements of a number: a disc with the centre `x`, `y`, and the number with its base line
-- at the height `base`.
unfoldable pub badge_at : ℕ → ℕ → ℕ → ℕ → List ℕ
badge_at x y base number = codes "<circle class=\"badge\" cx=\"" ++ (decimal x
    ++ (codes "\" cy=\"" ++ (decimal y
    ++ (codes "\" r=\"11\"/>\n<text class=\"number\" x=\"" ++ (decimal x
    ++ (codes "\" y=\"" ++ (decimal base ++ (codes "\">"
    ++ (decimal number ++ codes "</text>\n")))))))))

-- The number in a bar, at the bar's upper right; nothing where there is no number.
abbrev pub number_text : Bar → Option ℕ → List ℕ
number_text bar None = []
number_text bar (Some number) = badge_at (bar.right - 15) (capped (bar.top + 15))
    (capped (capped (bar.top + 15) + 4)) number

-- A bar with what it shows: its outline, the label, and the number.
unfoldable pub bar_text : Bar → Shown → List ℕ
bar_text bar shown = outline_text bar
    ++ (label_text bar shown.operation shown.reply ++ number_text bar shown.number)

-- What draws a part of an interval in a row, where there is one: its bar.
abbrev pub drawn_part : Row → Interval → Shown → Option IntervalPart → List ℕ
drawn_part row interval shown None = []
drawn_part row interval shown (Some part) = bar_text (bar_of row interval part) shown
