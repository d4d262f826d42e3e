use Rattle.std.proofs.Common.{◌≡◌, ◌+◌}
use Rattle.legal_prefixes.specs.declared.TheConstants.{LIST_ROOM}
use Rattle.legal_prefixes.specs.Layers.{ArePrefixesOf, AreApart, AddsNext}
use Rattle.legal_prefixes.proofs.layer.push_next.Given as goal

abbrev pub invariant-loop-caller : goal.invariant-loop-caller
invariant-loop-caller l = record {
  room : l.here.room ≡ LIST_ROOM;
  right : ArePrefixesOf l.kind l.book (l.count + 1) l.next.items;
  apart : AreApart l.next.items;
  adds : AddsNext l.kind l.book l.prefix l.caller l.initial.next.items l.next.items;
}
