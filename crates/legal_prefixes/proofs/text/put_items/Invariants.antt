use Rattle.std.proofs.Common.{◌≡◌, ◌++◌, take, flat_map}
use Rattle.legal_prefixes.specs.Texts.{item_text}
use Rattle.legal_prefixes.proofs.text.put_items.Given as goal

abbrev pub invariant-loop-item : goal.invariant-loop-item
invariant-loop-item l =
    l.out.items ≡ l.initial.out.items ++ flat_map (item_text l.kind) (take l.item-index l.items)
