use Rattle.std.proofs.Common.{string_bytes}
use Rattle.book_picture.specs.Groups.{GrowsPlain}
use Rattle.book_picture.specs.Heads.{lanes_text}
use Rattle.book_picture.proofs.sheet.put_lanes.Given as goal

abbrev pub invariant-loop-caller : goal.invariant-loop-caller
invariant-loop-caller l = GrowsPlain (lanes_text l.top l.right l.caller)
    (string_bytes l.initial.out) (string_bytes l.out)
