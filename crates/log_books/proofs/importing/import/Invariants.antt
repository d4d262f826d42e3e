use Rattle.std.proofs.Common.{IsNone, map, take}
use Rattle.log_books.specs.Keys.{key_at}
use Rattle.log_books.specs.Parts.{AreParts}
use Rattle.log_books.proofs.importing.import.Given as goal

-- the parts of the keys so far, as long as no word of the log is wrong
abbrev pub invariant-loop-of_key : goal.invariant-loop-of_key
invariant-loop-of_key l = IsNone l.fault → AreParts l.options l.log.items (map key_at (take l.of_key-index l.of_key-items))
    l.imported.has_books l.imported.text.items
