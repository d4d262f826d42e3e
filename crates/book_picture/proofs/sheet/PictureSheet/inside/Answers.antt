use Rattle.std.proofs.Common.{ℕ, List, ◌++◌, ap, ◌∙◌}
use Rattle.book_picture.specs.Bars.{Shown, shown_by}
use Rattle.book_picture.specs.Elements.{parts_text}
use Rattle.book_picture.proofs.sheet.PictureSheet.inside.Goals as goal

pub returns : goal.returns
returns c =
    let shown : Shown = shown_by c.in_ok-label.label c.number-number.result in
    let parts : List ℕ = parts_text c.args.self.now.rows.now c.args.interval.now shown in
    let put = c.in_ok-put_parts.ensures in (
      shown,
      record {
        operation = c.in_ok-label.ensures.operation;
        reply = c.in_ok-label.ensures.reply;
        number = c.number-number.ensures;
      },
      put.plain,
      put.grown ∙ ap (λ (t : List ℕ). t ++ parts) c.new-out.ensures.bytes,
    )
