use Rattle.std.proofs.Common.{◌≡◌, None, drop, map, option_map}
use Rattle.history_text.specs.Items.{with_more}
use Rattle.history_text.specs.Layout.{field_text}
use Rattle.history_text.specs.Fields.{fields_from}
use Rattle.history_text.proofs.fields.in_turn.Given as goal

-- the fields so far and those of the items that are left are the fields of the items
abbrev pub invariant-loop-item : goal.invariant-loop-item
invariant-loop-item l =
    with_more (map field_text l.found.items)
    (fields_from (option_map (λ name. name.now) l.name)
    (map (λ item. item.now) (drop l.item-index l.items)))
    ≡ fields_from None (map (λ item. item.now) l.items)
