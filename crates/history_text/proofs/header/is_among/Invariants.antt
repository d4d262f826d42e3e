use Rattle.std.proofs.Common.{◌≡◌, drop, map, bytes_eq}
use Rattle.std.specs.List.{list_any}
use Rattle.history_text.specs.Words.{plain_of}
use Rattle.history_text.proofs.header.is_among.Given as goal

-- the word is among all names where it is among those that are left
abbrev pub invariant-loop-name : goal.invariant-loop-name
invariant-loop-name l =
    list_any (bytes_eq l.word) (map plain_of (map (λ name. name.now) (drop l.name-index l.names)))
    ≡ list_any (bytes_eq l.word) (map plain_of (map (λ name. name.now) l.names))
