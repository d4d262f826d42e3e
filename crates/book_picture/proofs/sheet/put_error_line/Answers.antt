use Rattle.std.proofs.Common.{ℕ, List, ◌++◌, codes, string_bytes, ap, ◌∙◌}
use Rattle.book_picture.specs.Titles.{line_text}
use Rattle.book_picture.proofs.PlainTexts.{on_ok}
use Rattle.book_picture.proofs.sheet.put_error_line.Goals as goal

pub returns : goal.returns
returns c =
    on_ok c.put_line.result _ _ c.put_line.ensures (λ grown.
    grown ∙ ap (λ (t : List ℕ). string_bytes c.args.out.now ++ line_text (codes "note") 12 80 t)
    (c.as_bytes.ensures.value ∙ c.in_ok-text.ensures.ok))
