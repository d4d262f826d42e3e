use Rattle.std.proofs.Common.{Option, ◌++◌, string_bytes, sym, ap, ◌∙◌}
use Rattle.std.proofs.lemmas.List.{append-nil}
use Rattle.book_base.specs.declared.call.Call.{Call}
use Rattle.book_picture.specs.Titles.{error_line}
use Rattle.book_picture.proofs.PlainTexts.{on_ok}
use Rattle.book_picture.proofs.sheet.PictureSheet.put_error.Goals as goal

pub returns-in-None : goal.returns-in-None
returns-in-None c =
    let before = string_bytes c.args.out.now in
    sym (append-nil before) ∙ ap (λ (o : Option Call). before ++ error_line o) (sym c.in-None.is)

pub returns-in-Some : goal.returns-in-Some
returns-in-Some c =
    let before = string_bytes c.args.out.now in
    on_ok c.put_error_line.result _ _ c.put_error_line.ensures
    (λ grown. grown ∙ ap (λ (o : Option Call). before ++ error_line o) (sym c.in-Some.is))
