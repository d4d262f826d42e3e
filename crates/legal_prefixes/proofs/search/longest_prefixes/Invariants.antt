use Rattle.std.proofs.Common.{◌≡◌, ◌<◌, length}
use Rattle.legal_prefixes.specs.declared.TheConstants.{LIST_ROOM}
use Rattle.legal_prefixes.specs.Layers.{IsLayer}
use Rattle.legal_prefixes.proofs.search.longest_prefixes.Given as goal

abbrev pub invariant-loop-count : goal.invariant-loop-count
invariant-loop-count l = record {
  room : l.here.room ≡ LIST_ROOM;
  some : 0 < length l.layer.items;
  layer : IsLayer l.kind l.book l.count l.layer.items;
}
