use Rattle.std.proofs.Common.{take, string_bytes}
use Rattle.book_picture.specs.Bars.{shown_by}
use Rattle.book_picture.specs.Elements.{parts_text}
use Rattle.book_picture.specs.Groups.{GrowsPlain}
use Rattle.book_picture.proofs.sheet.put_parts.Given as goal

abbrev pub invariant-loop-row : goal.invariant-loop-row
invariant-loop-row l = GrowsPlain
    (parts_text (take l.row-index l.rows) l.interval (shown_by l.label l.number))
    (string_bytes l.initial.out) (string_bytes l.out)
