use Rattle.std.proofs.Common.{◌≡◌, ◌++◌, take, flat_map}
use Rattle.legal_prefixes.specs.Texts.{place_line}
use Rattle.legal_prefixes.proofs.text.put_places.Given as goal

abbrev pub invariant-loop-place : goal.invariant-loop-place
invariant-loop-place l =
    l.out.items ≡ l.initial.out.items ++ flat_map (place_line l.kind l.book) (take l.place-index l.places)
