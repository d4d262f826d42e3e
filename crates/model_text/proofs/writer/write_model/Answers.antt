use Rattle.std.proofs.Common.{List, ℕ}
use Rattle.model_text.specs.Grammar.{model_book_lines, IsWrittenModel}
use Rattle.model_text.proofs.ToldTexts.{told_written, end_written, lines_more, lines_all}
use Rattle.model_text.proofs.WrittenTexts.{written_is_read}
use Rattle.model_text.proofs.writer.write_model.Goals as goal

pub loop-line-preserved : goal.loop-line-preserved
loop-line-preserved c =
    let prefix : List (List (List ℕ)) = model_book_lines c.args.book.now in
    record {
      text = told_written prefix c.args.told.now c.loop-line.out.items
          c.put_told_line.new.out.items c.loop-line.line-index _ c.loop-line-test.true
          c.loop-line.invariant.text c.in_ok-put_told_line.ensures.ok;
      may = lines_more prefix c.args.told.now c.loop-line.line-index _ c.loop-line-test.true
          c.loop-line.invariant.may c.in_ok-put_told_line.ensures.may;
    }

pub returns : goal.returns
returns c =
    let prefix : List (List (List ℕ)) = model_book_lines c.args.book.now in
    let written : IsWrittenModel c.extend_from_slice.new.self.items c.args.book.now
    c.args.told.now = record {
      writable = c.in_ok-out.ensures.writable;
      lines = lines_all prefix c.args.told.now c.loop-line.line-index c.loop-line-test.false
          c.loop-line.invariant.may;
      follow = c.requires.follow;
      text = end_written prefix c.args.told.now c.loop-line.out.items
          c.extend_from_slice.new.self.items c.loop-line.line-index c.loop-line-test.false
          c.loop-line.invariant.text c.in_ok-extend_from_slice.ensures.items;
    } in
    record {
      written = written;
      read = written_is_read c.extend_from_slice.new.self.items c.args.book.now c.args.told.now
          written;
    }
