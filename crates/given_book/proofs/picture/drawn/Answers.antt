use Rattle.book_picture.specs.Bars.{order_in}
use Rattle.given_book.proofs.Judging.{judged_by, told_by}
use Rattle.given_book.proofs.picture.drawn.Goals as goal

pub marks_for-marks-requires : goal.marks_for-marks-requires
marks_for-marks-requires c = c.in_ok-verdict.ensures.verdict

pub returns-clause-shown : goal.returns-clause-shown
returns-clause-shown c =
    let kind = c.in_ok-kind.kind in
    let book = c.in_ok-kind.book in
    let verdict = c.in_ok-verdict.verdict in
    record {
      kind = kind;
      book = book;
      told = c.in_ok-kind.ensures.found;
      order = order_in verdict;
      judged = judged_by kind book verdict c.in_ok-verdict.ensures.verdict;
      marks = c.marks_for-marks.result;
      marked = c.marks_for-marks.ensures;
      error = c.in_ok-error.error;
      first = told_by c.args.bytes.now c.in_ok-error.error c.in_ok-error.ensures.found
          c.in_ok-error.ensures.none;
      drawn = c.in_ok-draw_book.ensures;
    }
