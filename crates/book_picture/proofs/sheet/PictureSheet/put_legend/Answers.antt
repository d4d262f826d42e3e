use Rattle.std.proofs.Common.{List, ℕ, ◌++◌, is_some, codes, string_bytes, ap, ◌∙◌}
use Rattle.book_picture.specs.Titles.{line_text, title, error_line}
use Rattle.book_picture.proofs.PlainTexts.{on_ok, by_lines, plain_first_lines}
use Rattle.book_picture.proofs.sheet.PictureSheet.put_legend.Goals as goal

pub returns : goal.returns
returns c =
    let before = string_bytes c.args.out.now in
    let legal = is_some c.args.self.now.order in
    let marks = c.args.self.now.marks.now in
    let error = c.args.self.now.error in
    on_ok c.put_notes.result _ _ c.put_notes.ensures (λ grows.
    by_lines (line_text (codes "title") 12 24 (title legal marks)) (error_line error) _ before
    (string_bytes c.put_line.new.out) _ _ (plain_first_lines legal marks error)
    (c.in_ok-put_line.ensures ∙ ap (λ (t : List ℕ). before ++ line_text (codes "title") 12 24 t)
    (c.as_bytes.ensures.value ∙ c.in_ok-title.ensures))
    c.in_ok-put_error.ensures grows)
