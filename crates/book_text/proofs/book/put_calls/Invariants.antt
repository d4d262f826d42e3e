use Rattle.std.proofs.Common.{◌≡◌, ℕ, ◌<◌, ◌++◌, map}
use Rattle.text_fields.specs.declared.version.Version.TheVariants.{Second}
use Rattle.text_fields.specs.Lines.{text_of}
use Rattle.text_fields.specs.Operations.{kind_operations}
use Rattle.book_text.specs.CallLines.{calls_from}
use Rattle.book_text.specs.Grammar.{line_of}
use Rattle.book_text.specs.Fields.{HasWords}
use Rattle.book_text.proofs.book.put_calls.Given as goal

abbrev pub invariant-loop-number : goal.invariant-loop-number
invariant-loop-number l = record {
  text : l.out.items ≡ l.initial.out.items ++ text_of (map
      (line_of Second (kind_operations Second l.kind) l.book) (calls_from l.caller 0 l.number));
  words : (k : ℕ) → k < l.number → HasWords l.book (record { caller = l.caller; number = k });
}
