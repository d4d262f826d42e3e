use Rattle.std.proofs.Common.{ℕ, List, ◌++◌, ◌-◌, ◌≤◌, length, is_some, sym, ap, subst, ◌∙◌, arith}
use Rattle.book_picture.specs.Heads.{rows_text}
use Rattle.book_picture.specs.Rows.{lane_top}
use Rattle.book_picture.specs.Titles.{first_lines, notes_text, opening}
use Rattle.book_picture.proofs.PlainTexts.{has_no_group, head_grown, plain_opening}
use Rattle.book_picture.proofs.sheet.PictureSheet.head.Goals as goal

pub returns : goal.returns
returns c =
    let sheet = c.args.self.now in
    let width = c.width_of-width.result in
    let height = c.height_of-height.result in
    let right = c.saturating_sub.result in
    let callers = length sheet.book.now in
    let lines = first_lines (is_some sheet.order) sheet.marks.now sheet.error in
    let start = opening width height in
    let before : List ℕ → List ℕ = λ rows. start ++ (lines ++ (notes_text sheet.kind ++ rows)) in
    let grown = head_grown start lines (notes_text sheet.kind) _ _ _ _
    (plain_opening width height (omega arith) (omega arith)) c.in_ok-out.ensures
    c.in_ok-put_legend.ensures c.in_ok-put_rows.ensures in
    record {
      width = width;
      height = height;
      wide = c.width_of-width.ensures;
      high = λ k row at. subst (λ (n : ℕ). lane_top row.top n ≤ height)
          c.callers-callers.ensures.count (c.height_of-height.ensures k row at);
      text_is = grown.1
          ∙ ap (λ (n : ℕ). before (rows_text sheet.rows.now n c.callers-callers.result))
          c.saturating_sub.ensures
          ∙ ap (λ (n : ℕ). before (rows_text sheet.rows.now (width - 12) n))
          c.callers-callers.ensures.count;
      plain = has_no_group _ grown.0;
    }
