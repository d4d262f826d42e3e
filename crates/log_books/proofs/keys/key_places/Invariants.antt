use Rattle.std.proofs.Common.{◌≤◌, length, map, take, option_map}
use Rattle.log_books.specs.Keys.{key_at}
use Rattle.log_books.proofs.Keying.{Known}
use Rattle.log_books.proofs.keys.key_places.Given as goal

-- the keys of the calls so far
abbrev pub invariant-loop-place : goal.invariant-loop-place
invariant-loop-place l = record {
  low : l.place ≤ length l.log;
  known : Known (take l.place l.log) (map (λ key. option_map (λ text. text.now) key) l.known.keys) (map key_at l.found.items);
}
