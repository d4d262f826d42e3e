use Rattle.std.proofs.Common.{◌≡◌, take}
use Rattle.std.specs.List.{AllByRecursion}
use Rattle.text_fields.specs.Lines.{text_of}
use Rattle.model_text.specs.Grammar.{model_book_lines, IsLine}
use Rattle.model_text.proofs.ToldTexts.{lines_to}
use Rattle.model_text.proofs.writer.write_model.Given as goal

abbrev pub invariant-loop-line : goal.invariant-loop-line
invariant-loop-line l = record {
  text : l.out.items
      ≡ text_of (lines_to (model_book_lines l.book) l.told (take l.line-index l.told));
  may : AllByRecursion IsLine (take l.line-index l.told);
}
