-- The head of a picture: its first lines, how it is read, and in each row the lanes of the callers.
use Rattle.std.specs.Prelude.{◌≡◌, ℕ, zero, suc, ◌+◌, ◌-◌, ◌/◌, ◌≤◌, List, [], ◌++◌, codes, decimal, Some, slice_get}
use Rattle.std.specs.List.{flat_map}
use Rattle.book_base.specs.declared.call.Call.{Call}
use Rattle.seq_objects.specs.declared.kind.Kind.{Kind}
use Rattle.book_picture.specs.declared.row.Row.{Row}
use Rattle.book_picture.specs.declared.sheet.TheConstants.{BAR, MARGIN, LEAST_WIDTH}
use Rattle.book_picture.specs.Groups.{HasNoGroup}
use Rattle.book_picture.specs.Rows.{capped, lane_top}
use Rattle.book_picture.specs.Titles.{opening, notes_text}

-- The height of the middle of a caller's bars in a row that begins at the height `top`.
abbrev pub lane_middle : ℕ → ℕ → ℕ
lane_middle top caller = capped (lane_top top caller + BAR / 2)

-- The SVG elements of a caller's lane: a line at the height `middle`, up to `right`, and the number
-- of the caller with its base line at the height `base`.
unfoldable pub lane_at : ℕ → ℕ → ℕ → ℕ → List ℕ
lane_at middle base right caller =
    codes "<line class=\"lane\" x1=\"100\" y1=\"" ++ (decimal middle
    ++ (codes "\" x2=\"" ++ (decimal right ++ (codes "\" y2=\"" ++ (decimal middle
    ++ (codes "\"/>\n<text class=\"note\" x=\"" ++ (decimal MARGIN ++ (codes "\" y=\""
    ++ (decimal base ++ (codes "\">caller " ++ (decimal caller
    ++ codes "</text>\n")))))))))))

-- A caller's lane in a row that begins at the height `top`, up to `right`.
abbrev pub lane_text : ℕ → ℕ → ℕ → List ℕ
lane_text top right caller = lane_at (lane_middle top caller) (capped (lane_middle top caller + 4))
    right caller

-- The lanes of the first callers in a row that begins at the height `top`, by caller.
abbrev pub lanes_text : ℕ → ℕ → ℕ → List ℕ
lanes_text top right zero = []
lanes_text top right (suc callers) = lanes_text top right callers ++ lane_text top right callers

-- The lanes of all callers in each row.
abbrev pub rows_text : List Row → ℕ → ℕ → List ℕ
rows_text rows right callers = flat_map (λ row. lanes_text row.top right callers) rows

-- A text is the head of a picture of this width and height: the first lines, the lines that say how
-- the picture is read, and the lanes. The picture is at least as wide as its lines of text need,
-- and it reaches below the lanes of each row.
pub record IsHead (kind : Kind) (lines : List ℕ) (rows : List Row) (callers : ℕ)
    (text : List ℕ) : Type 0 where
  pub width : ℕ
  pub height : ℕ
  pub wide : LEAST_WIDTH ≤ width
  pub high : (k : ℕ) (row : Row) → slice_get rows k ≡ Some row → lane_top row.top callers ≤ height
  pub text_is : text ≡ opening width height
      ++ (lines ++ (notes_text kind ++ rows_text rows (width - MARGIN) callers))
  pub plain : HasNoGroup text
