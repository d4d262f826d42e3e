use Rattle.std.proofs.Common.{◌≡◌, ◌++◌, length}
use Rattle.std.specs.List.{AllByRecursion, flat_map}
use Rattle.book_text.specs.CallLines.{place_words}
use Rattle.certificate_text.specs.Grammar.{IsNamed}
use Rattle.refutation_text.proofs.fields.all_calls_of.Given as goal

abbrev pub invariant-loop-calls : goal.invariant-loop-calls
invariant-loop-calls l = record {
  named : AllByRecursion IsNamed l.calls.items;
  text : l.fn.words ≡ flat_map place_words l.calls.items ++ l.words;
}

abbrev pub decreases-loop-calls : goal.decreases-loop-calls
decreases-loop-calls l = length l.words
