use Rattle.std.proofs.Common.{append_assoc}
use Rattle.book_picture.specs.Titles.{opening}
use Rattle.book_picture.proofs.sheet.PictureSheet.opening.Goals as goal

pub returns : goal.returns
unfolding opening
returns c = simp (
  c.in_ok-push_str-2.ensures.bytes,
  c.in_ok-push_str.ensures.bytes,
  c.in_ok-write.ensures.bytes,
  c.new-out.ensures.bytes,
  append_assoc,
)
