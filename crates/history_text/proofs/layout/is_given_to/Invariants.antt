use Rattle.std.proofs.Common.{◌≡◌, drop}
use Rattle.std.specs.List.{list_any}
use Rattle.history_text.specs.Layout.{is_for_name}
use Rattle.history_text.proofs.layout.is_given_to.Given as goal

-- the name is among all names where it is among those that are left
abbrev pub invariant-loop-one : goal.invariant-loop-one
invariant-loop-one l =
    list_any (is_for_name l.role l.name) (drop l.one-index l.names) ≡ list_any (is_for_name l.role l.name) l.names
