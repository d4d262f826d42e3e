use Rattle.std.proofs.Common.{◌≡◌, drop, map}
use Rattle.history_text.specs.Items.{with_more}
use Rattle.history_text.specs.Layout.{field_text}
use Rattle.history_text.specs.Fields.{fields_named}
use Rattle.history_text.proofs.fields.under.Given as goal

-- the fields so far and those of the cells that are left are the fields of the cells
abbrev pub invariant-loop-at : goal.invariant-loop-at
invariant-loop-at l =
    with_more (map field_text l.found.items)
    (fields_named (map (λ name. name.now) (drop l.at l.names))
    (map (λ cell. cell.now) (drop l.at l.row)))
    ≡ fields_named (map (λ name. name.now) l.names) (map (λ cell. cell.now) l.row)
