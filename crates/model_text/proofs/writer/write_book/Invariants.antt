use Rattle.std.proofs.Common.{◌≡◌, ◌<◌}
use Rattle.book_base.specs.declared.call.Call.{Call}
use Rattle.book_base.specs.Book.{IsCall}
use Rattle.text_fields.specs.Lines.{text_of}
use Rattle.book_text.specs.Fields.{HasWords}
use Rattle.model_text.proofs.BookLines.{lines_to}
use Rattle.model_text.proofs.writer.write_book.Given as goal

abbrev pub invariant-loop-caller : goal.invariant-loop-caller
invariant-loop-caller l = record {
  text : l.out.items ≡ text_of (lines_to l.book l.caller);
  words : (call : Call) → call.caller < l.caller → IsCall l.book call → HasWords l.book call;
}
