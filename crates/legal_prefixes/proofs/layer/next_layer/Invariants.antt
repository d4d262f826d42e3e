use Rattle.std.proofs.Common.{◌≡◌, ◌+◌}
use Rattle.legal_prefixes.specs.declared.TheConstants.{LIST_ROOM}
use Rattle.legal_prefixes.specs.Layers.{ArePrefixesOf, AreApart, ListNext}
use Rattle.legal_prefixes.proofs.layer.next_layer.Given as goal

abbrev pub invariant-loop-prefix : goal.invariant-loop-prefix
invariant-loop-prefix l = record {
  room : l.here.room ≡ LIST_ROOM;
  right : ArePrefixesOf l.kind l.book (l.count + 1) l.next.items;
  apart : AreApart l.next.items;
  adds : ListNext l.kind l.book l.layer l.prefix-index l.next.items;
}
