-- Which fields of a line have which role.
use Rattle.std.specs.Prelude.{ℕ, ◌==◌, ◌&&◌, ◌||◌, Bool, if◌then◌else◌, List, [], ◌∷◌, Option, Some, None, bytes_eq, codes}
use Rattle.std.specs.List.{list_any}
use Rattle.history_text.specs.declared.layout.Role.{Role}
use Rattle.history_text.specs.declared.layout.Role.TheVariants as role
use Rattle.history_text.specs.declared.layout.NamedRole.{NamedRole}
use Rattle.history_text.specs.declared.layout.Layout.{Layout}
use Rattle.history_text.specs.declared.fields.Field.{Field}

-- the role with this name
abbrev pub role_named : List ℕ → Option Role
role_named name =
    if bytes_eq name (codes "process") then Some role.Process
    else (if bytes_eq name (codes "type") then Some role.Type
    else (if bytes_eq name (codes "operation") then Some role.Operation
    else (if bytes_eq name (codes "value") then Some role.Value
    else (if bytes_eq name (codes "arguments") then Some role.Arguments
    else (if bytes_eq name (codes "key") then Some role.Key
    else (if bytes_eq name (codes "time") then Some role.Time
    else (if bytes_eq name (codes "start") then Some role.Start
    else (if bytes_eq name (codes "end") then Some role.End
    else (if bytes_eq name (codes "reply") then Some role.Reply else None)))))))))

-- whether a field with this name has the role by default
abbrev pub is_usual : Role → List ℕ → Bool
is_usual role.Process name =
    bytes_eq name (codes "process") || bytes_eq name (codes "client")
    || bytes_eq name (codes "thread")
is_usual role.Type name = bytes_eq name (codes "type")
is_usual role.Operation name =
    bytes_eq name (codes "f") || bytes_eq name (codes "op") || bytes_eq name (codes "operation")
is_usual role.Value name = bytes_eq name (codes "value") || bytes_eq name (codes "argument")
is_usual role.Arguments name = bytes_eq name (codes "args") || bytes_eq name (codes "arguments")
is_usual role.Key name = bytes_eq name (codes "key")
is_usual role.Time name = bytes_eq name (codes "time")
is_usual role.Start name =
    bytes_eq name (codes "start") || bytes_eq name (codes "call") || bytes_eq name (codes "invoke")
is_usual role.End name =
    bytes_eq name (codes "end") || bytes_eq name (codes "return")
    || bytes_eq name (codes "response")
is_usual role.Reply name = bytes_eq name (codes "reply") || bytes_eq name (codes "result")

-- the place of a role among all roles
abbrev pub role_number : Role → ℕ
role_number role.Process = 0
role_number role.Type = 1
role_number role.Operation = 2
role_number role.Value = 3
role_number role.Arguments = 4
role_number role.Key = 5
role_number role.Time = 6
role_number role.Start = 7
role_number role.End = 8
role_number role.Reply = 9

-- whether a name is given for the role
abbrev pub is_for : Role → NamedRole → Bool
is_for role named = role_number named.role == role_number role

-- whether this name is given for the role
abbrev pub is_for_name : Role → List ℕ → NamedRole → Bool
is_for_name role name named = is_for role named && bytes_eq named.name.now name

-- Whether a field of this name has the role: where the layout gives names for the role, only fields
-- of these names have it.
abbrev pub has_role : Layout → List ℕ → Role → Bool
has_role layout name role =
    if list_any (is_for role) layout.named.now
    then list_any (is_for_name role name) layout.named.now
    else is_usual role name

-- A field of a line: its name, and its value as it is written.
pub record FieldText : Type 0 where
  pub name : List ℕ
  pub value : List ℕ

abbrev pub field_text : Field → FieldText
field_text field = record { name = field.name.now; value = field.value.now }

-- the value of the first field with a role
abbrev pub value_of : Layout → List FieldText → Role → Option (List ℕ)
value_of layout [] role = None
value_of layout (field ∷ fields) role =
    if has_role layout field.name role then Some field.value else value_of layout fields role
