use Rattle.std.proofs.Common.{◌≡◌, IsNone, take}
use Rattle.log_books.specs.Calls.{AreMadeAt}
use Rattle.log_books.specs.Words.{has_numbers, names_of}
use Rattle.log_books.proofs.key_calls.KeyCalls.of.Given as goal

-- as long as no word is wrong, the calls are those at the places so far
abbrev pub invariant-loop-place : goal.invariant-loop-place
invariant-loop-place l = record {
  numbered : l.names.numbered ≡ has_numbers l.options.kind;
  made : IsNone l.fault → AreMadeAt l.options (names_of l.names) l.log (take l.place-index l.places) l.calls.items;
}
