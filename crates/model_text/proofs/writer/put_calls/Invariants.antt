use Rattle.std.proofs.Common.{◌≡◌, ℕ, ◌<◌, ◌++◌}
use Rattle.text_fields.specs.Lines.{text_of}
use Rattle.book_text.specs.CallLines.{calls_from}
use Rattle.model_text.specs.Written.{call_texts}
use Rattle.book_text.specs.Fields.{HasWords}
use Rattle.model_text.proofs.writer.put_calls.Given as goal

abbrev pub invariant-loop-number : goal.invariant-loop-number
invariant-loop-number l = record {
  text : l.out.items ≡ l.initial.out.items ++ text_of (call_texts l.book (calls_from l.caller 0 l.number));
  words : (k : ℕ) → k < l.number → HasWords l.book (record { caller = l.caller; number = k });
}
