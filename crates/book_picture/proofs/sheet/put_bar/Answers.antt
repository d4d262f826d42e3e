use Rattle.book_picture.specs.Bars.{bar_text}
use Rattle.book_picture.proofs.PlainTexts.{on_ok, grows_then}
use Rattle.book_picture.proofs.sheet.put_bar.Goals as goal

pub returns : goal.returns
unfolding bar_text
returns c =
    on_ok c.put_number.result _ _ c.put_number.ensures (λ third.
    grows_then _ _ _ _ _ c.in_ok-put_outline.ensures
    (grows_then _ _ _ _ _ c.in_ok-put_label.ensures third))
