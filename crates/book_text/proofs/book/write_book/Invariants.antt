use Rattle.std.proofs.Common.{◌≡◌, ◌<◌, ◌++◌, map, take}
use Rattle.std.specs.Prelude.{codes}
use Rattle.book_base.specs.declared.call.Call.{Call}
use Rattle.book_base.specs.Book.{announced, IsCall}
use Rattle.text_fields.specs.declared.version.Version.TheVariants.{Second}
use Rattle.text_fields.specs.Lines.{text_of}
use Rattle.text_fields.specs.Head.{head_lines}
use Rattle.text_fields.specs.Operations.{kind_operations}
use Rattle.book_text.specs.CallLines.{all_calls}
use Rattle.book_text.specs.Grammar.{line_of}
use Rattle.book_text.specs.Fields.{HasWords}
use Rattle.book_text.proofs.book.write_book.Given as goal

abbrev pub invariant-loop-caller : goal.invariant-loop-caller
invariant-loop-caller l = record {
  text : l.out.items
      ≡ text_of (head_lines Second (codes "book") l.kind (announced l.book) ++ map (line_of Second
      (kind_operations Second l.kind) l.book) (all_calls 0 (take l.caller (announced l.book))));
  words : (call : Call) → call.caller < l.caller → IsCall l.book call → HasWords l.book call;
}
