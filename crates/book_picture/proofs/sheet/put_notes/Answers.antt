use Rattle.std.proofs.Common.{ℕ, List, ◌++◌, string_bytes, ap, ◌∙◌}
use Rattle.book_picture.specs.Titles.{notes_with}
use Rattle.book_picture.proofs.PlainTexts.{plain_notes}
use Rattle.book_picture.proofs.sheet.put_notes.Goals as goal

pub returns : goal.returns
unfolding notes_with
returns c = record {
  plain = plain_notes c.args.kind;
  grown = c.in_ok-write.ensures.bytes
      ∙ ap (λ (t : List ℕ). string_bytes c.args.out.now ++ notes_with t) c.name-kind.ensures;
}
