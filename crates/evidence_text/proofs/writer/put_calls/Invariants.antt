use Rattle.std.proofs.Common.{◌≡◌, ◌++◌, take}
use Rattle.std.specs.List.{AllByRecursion, flat_map}
use Rattle.book_text.specs.CallLines.{place_words}
use Rattle.book_text.specs.Fields.{spaced}
use Rattle.certificate_text.specs.Grammar.{IsNamed}
use Rattle.evidence_text.proofs.writer.put_calls.Given as goal

abbrev pub invariant-loop-call : goal.invariant-loop-call
invariant-loop-call l = record {
  text : l.out.items
      ≡ l.initial.out.items ++ spaced (flat_map place_words (take l.call-index l.calls));
  may : AllByRecursion IsNamed (take l.call-index l.calls);
}
