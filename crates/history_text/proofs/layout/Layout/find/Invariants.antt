use Rattle.std.proofs.Common.{◌≡◌, drop, map}
use Rattle.history_text.specs.Layout.{field_text, value_of}
use Rattle.history_text.proofs.layout.Layout.find.Given as goal

-- the fields that are left have the value that all fields have
abbrev pub invariant-loop-field : goal.invariant-loop-field
invariant-loop-field l =
    value_of l.self (map field_text (drop l.field-index l.fields)) l.role
    ≡ value_of l.self (map field_text l.fields) l.role
