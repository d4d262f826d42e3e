use Rattle.std.proofs.Common.{take, string_bytes}
use Rattle.book_picture.specs.Groups.{GrowsPlain}
use Rattle.book_picture.specs.Heads.{rows_text}
use Rattle.book_picture.proofs.sheet.put_rows.Given as goal

abbrev pub invariant-loop-row : goal.invariant-loop-row
invariant-loop-row l = GrowsPlain (rows_text (take l.row-index l.rows) l.right l.callers)
    (string_bytes l.initial.out) (string_bytes l.out)
