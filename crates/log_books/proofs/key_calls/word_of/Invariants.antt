use Rattle.std.proofs.Common.{◌≡◌, ℕ, List, map, take, decimal}
use Rattle.std.specs.List.{AllZip}
use Rattle.log_books.specs.Words.{names_of, KeepsNames, StandsFor}
use Rattle.log_books.proofs.key_calls.word_of.Given as goal

-- the words so far are the digits of numbers that stand for the arguments so far
abbrev pub invariant-loop-argument : goal.invariant-loop-argument
invariant-loop-argument l = record {
  numbered : l.names.numbered ≡ l.initial.names.numbered;
  keeps : KeepsNames (names_of l.initial.names) (names_of l.names);
  read : (numbers : List ℕ) × AllZip (StandsFor l.names.numbered (names_of l.names))
      (map (λ value. value.now) (take l.argument-index l.argument-items)) numbers
      × (map (λ word. word.items) l.words.items ≡ map decimal numbers);
}
