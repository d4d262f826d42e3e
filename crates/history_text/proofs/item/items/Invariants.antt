use Rattle.std.proofs.Common.{◌≡◌, drop, map}
use Rattle.history_text.specs.Scan.{IsPlaceBefore}
use Rattle.history_text.specs.Items.{with_more, items_from, items_of}
use Rattle.history_text.proofs.item.items.Given as goal

-- the items so far and those of the bytes that are left are the items of the line
abbrev pub invariant-loop-at : goal.invariant-loop-at
invariant-loop-at l = record {
  items : with_more (map (λ item. item.now) l.found.items) (items_from l.json l.line l.place l.at (drop l.at l.line))
      ≡ items_of l.json l.line;
  place : IsPlaceBefore l.at l.place;
}
