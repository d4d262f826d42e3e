use Rattle.std.proofs.Common.{append_assoc}
use Rattle.book_picture.proofs.sheet.put_line.Goals as goal

pub returns : goal.returns
returns c = simp (
  c.in_ok-push_str.ensures.bytes,
  c.in_ok-put_escaped.ensures,
  c.in_ok-write.ensures.bytes,
  append_assoc,
)
