-- The lines of text in a picture, and its first lines, which say what the picture is of.
use Rattle.std.specs.Prelude.{ℕ, Bool, true, false, List, [], ◌++◌, codes, decimal, Option, Some, None}
use Rattle.book_base.specs.declared.call.Call.{Call}
use Rattle.seq_objects.specs.declared.kind.Kind.{Kind}
use Rattle.seq_objects.specs.Words.{kind_name}
use Rattle.book_picture.specs.declared.marked_calls.MarkedCalls.{MarkedCalls}
use Rattle.book_picture.specs.declared.marked_calls.MarkedCalls.TheVariants.{Unasked, Smaller, TooLarge, NoMemory}
use Rattle.book_picture.specs.declared.sheet.TheConstants.{STYLE, MARGIN}
use Rattle.book_picture.specs.Escape.{escaped}

-- The SVG element of a line of text, with its class in the style sheet and its coordinates in
-- pixels.
abbrev pub line_text : List ℕ → ℕ → ℕ → List ℕ → List ℕ
line_text class x y text =
    codes "<text class=\"" ++ (class ++ (codes "\" x=\"" ++ (decimal x
    ++ (codes "\" y=\"" ++ (decimal y ++ (codes "\">" ++ (escaped text ++ codes "</text>\n")))))))

-- What the title of a picture says of the book: that it is legal, or illegal.
abbrev pub verdict_text : Bool → List ℕ
verdict_text true = codes "legal: the numbers give an order of the calls that explains all replies"
verdict_text false = codes "illegal: no order explains these replies"

-- What the title of a picture says of its marked calls, or of why none are marked.
abbrev pub marks_text : MarkedCalls → List ℕ
marks_text Unasked = []
marks_text (Smaller numbers) = codes ", nor those of the marked calls alone"
marks_text TooLarge = codes " (so many calls: none are marked)"
marks_text NoMemory = codes " (no memory: none are marked)"

-- The title of a picture: whether the book is legal, and then what is said of marked calls.
abbrev pub title : Bool → MarkedCalls → List ℕ
title legal marks = verdict_text legal ++ marks_text marks

-- What a picture says of the first error line of a run, where this line is that of the call `call`.
abbrev pub error_text : Call → List ℕ
error_text call = codes "the first error line of the run is that of call "
    ++ (decimal call.number ++ (codes " of caller " ++ decimal call.caller))

-- The line of a picture on the first error line of a run, where there is one.
abbrev pub error_line : Option Call → List ℕ
error_line None = []
error_line (Some call) = line_text (codes "note") 12 80 (error_text call)

-- The first lines of a picture: its title, and a line on the first error line of a run, where there
-- is one.
abbrev pub first_lines : Bool → MarkedCalls → Option Call → List ℕ
first_lines legal marks error =
    line_text (codes "title") 12 24 (title legal marks) ++ error_line error

-- The text of a picture before its first line of text, for a width and a height in pixels: the
-- opening tag, the style and the background.
unfoldable pub opening : ℕ → ℕ → List ℕ
opening width height =
    codes "<svg xmlns=\"http://www.w3.org/2000/svg\" width=\""
    ++ (decimal width ++ (codes "\" height=\"" ++ (decimal height ++ (codes "\">\n"
    ++ (STYLE.now ++ codes "<rect width=\"100%\" height=\"100%\" fill=\"#ffffff\"/>\n")))))

-- The two lines of text that say how a picture is read, with the text `name` before them.
unfoldable pub notes_with : List ℕ → List ℕ
notes_with name = codes "<text class=\"note\" x=\"" ++ (decimal MARGIN ++ (codes "\" y=\"44\">"
    ++ (name ++ (codes ": a bar begins where its call is first seen invoked, and ends with its "
    ++ (codes "return.</text>\n<text class=\"note\" x=\"" ++ (decimal MARGIN
    ++ (codes "\" y=\"62\">Where a bar with a reply ends left of another, its call precedes "
    ++ codes "the other.</text>\n")))))))

-- How a picture is read, with the name of the kind.
abbrev pub notes_text : Kind → List ℕ
notes_text kind = notes_with (kind_name kind)
