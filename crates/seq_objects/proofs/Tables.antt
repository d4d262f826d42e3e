-- Each kind's table: no two of its entries have one code or one name, and each name is a word that
-- doesn't begin with '#'.
use Rattle.std.proofs.Common.{rules, ◌≡◌, ◌≢◌, ℕ, Bool, true, false, not, ◌&&◌, ◌==◌, nat_lt, List, [], ◌∷◌, bytes_eq, find, Option, Some, None, IfSome, IfNone, sym, ap, refl, ◌∙◌}
use Rattle.std.specs.List.{list_all}
use Rattle.std.proofs.lemmas.Bool.{and_parts, eqb-true, eq-eqb}
use Rattle.std.proofs.lemmas.Option.{none-some}
use Rattle.std.proofs.lemmas.Slice.Eq.{bytes_eq-Decides}
use Rattle.seq_objects.specs.declared.kind.Kind.{Kind}
use Rattle.seq_objects.specs.declared.kind.Kind.TheVariants.{Queue, Stack, Register, Counter, IntSet, Pqueue, CasRegister, Map}
use Rattle.seq_objects.specs.Words.{kind_name, all_kinds, OperationEntry, entries, entry_of, is_operation_of, code_of, has_arguments}
use Rattle.seq_objects.specs.EntryView.{entry_named}
use Rattle.list_laws.proofs.Finds.{IsIn, find_inside, find_only, list_all-inside, are_distinct, are_distinct-inside}

-- Whether a byte is a printed character of ASCII.
abbrev pub is_printed : ℕ → Bool
is_printed byte = nat_lt 32 byte && nat_lt byte 127

-- Whether a name is a word that doesn't begin with '#'.
abbrev pub is_plain_name : List ℕ → Bool
is_plain_name [] = false
is_plain_name (first ∷ rest) = not (first == 35) && list_all is_printed (first ∷ rest)

-- A name that begins with '#' is no plain name.
pub marked-name : (rest : List ℕ) → is_plain_name (35 ∷ rest) ≡ true → ⊥
marked-name rest plain = cc

abbrev same_code : OperationEntry → OperationEntry → Bool
same_code a b = a.code == b.code

abbrev same_name : OperationEntry → OperationEntry → Bool
same_name a b = bytes_eq a.name b.name

-- What holds of each kind's table: its entries have different codes and names, and plain names.
abbrev is_table : List OperationEntry → Bool
is_table es =
    list_all (λ e. is_plain_name e.name) es
    && (are_distinct same_code es && are_distinct same_name es)

-- What is found for each kind by computing: that its table is right, and that it is found by its
-- name.
abbrev pub IsSound : Kind → Type 0
IsSound kind =
    (is_table (entries kind) ≡ true) × (is_plain_name (kind_name kind) ≡ true)
    × (find (λ k. bytes_eq (kind_name k) (kind_name kind)) all_kinds ≡ Some kind)

pub kinds-sound : (kind : Kind) → IsSound kind
unfolding entries kind_name
kinds-sound Queue = (refl, refl, refl)
kinds-sound Stack = (refl, refl, refl)
kinds-sound Register = (refl, refl, refl)
kinds-sound Counter = (refl, refl, refl)
kinds-sound IntSet = (refl, refl, refl)
kinds-sound Pqueue = (refl, refl, refl)
kinds-sound CasRegister = (refl, refl, refl)
kinds-sound Map = (refl, refl, refl)

-- A kind that is found by a name has this name.
pub kind_found : (name : List ℕ) (o : Option Kind)
    → o ≡ find (λ k. bytes_eq (kind_name k) name) all_kinds
    → IfSome o (λ kind. kind_name kind ≡ name)
kind_found name None found = search rules
kind_found name (Some kind) found =
    (bytes_eq-Decides (kind_name kind) name).0
    (find_inside (λ k. bytes_eq (kind_name k) name) all_kinds kind (sym found)).1

-- No kind has a name by which no kind is found.
pub no_kind_found : (name : List ℕ) (o : Option Kind)
    → o ≡ find (λ k. bytes_eq (kind_name k) name) all_kinds
    → IfNone o ((kind : Kind) → kind_name kind ≢ name)
no_kind_found name None found = λ kind same.
    none-some kind (found ∙ ap (λ n. find (λ k. bytes_eq (kind_name k) n) all_kinds) (sym same)
    ∙ (kinds-sound kind).2)
no_kind_found name (Some kind) found = search rules

table_parts : (kind : Kind)
    → (list_all (λ e. is_plain_name e.name) (entries kind) ≡ true)
    × (are_distinct same_code (entries kind) ≡ true)
    × (are_distinct same_name (entries kind) ≡ true)
table_parts kind =
    let both = and_parts (list_all (λ e. is_plain_name e.name) (entries kind))
    (are_distinct same_code (entries kind) && are_distinct same_name (entries kind))
    (kinds-sound kind).0 in
    let distinct = and_parts (are_distinct same_code (entries kind))
    (are_distinct same_name (entries kind)) both.1 in
    (both.0, distinct.0, distinct.1)

-- The name of an entry is a word that doesn't begin with '#'.
pub is_plain_name-entry : (kind : Kind) (e : OperationEntry) → IsIn e (entries kind)
    → is_plain_name e.name ≡ true
is_plain_name-entry kind e inside =
    list_all-inside (λ f. is_plain_name f.name) (entries kind) e (table_parts kind).0 inside

code-operation : (word : ℕ) (e : OperationEntry) → is_operation_of word e ≡ true
    → code_of word ≡ e.code
code-operation word e operation =
    eqb-true (code_of word) e.code
    (and_parts (code_of word == e.code) (has_arguments e.arity word) operation).0

-- The entry that is found for a word is the one of which the word is an operation.
pub entry_of-operation : (kind : Kind) (word : ℕ) (e : OperationEntry) → IsIn e (entries kind)
    → is_operation_of word e ≡ true → entry_of kind word ≡ Some e
unfolding entry_of
entry_of-operation kind word e inside operation =
    find_only (is_operation_of word) (entries kind) e inside operation (λ f f_in f_operation.
    are_distinct-inside same_code (λ a b h. eq-eqb b.code a.code (sym (eqb-true a.code b.code h)))
    (entries kind) f e (table_parts kind).1 f_in inside
    (eq-eqb f.code e.code
    (sym (code-operation word f f_operation) ∙ code-operation word e operation)))

pub entry_of-inside : (kind : Kind) (word : ℕ) (e : OperationEntry) → entry_of kind word ≡ Some e
    → IsIn e (entries kind) × (is_operation_of word e ≡ true)
unfolding entry_of
entry_of-inside kind word e found = find_inside (is_operation_of word) (entries kind) e found

-- The entry that is found by a name is the one with this name.
pub entry_named-name : (kind : Kind) (name : List ℕ) (e : OperationEntry) → IsIn e (entries kind)
    → e.name ≡ name → entry_named kind name ≡ Some e
unfolding entry_named
entry_named-name kind name e inside same =
    find_only (λ f. bytes_eq f.name name) (entries kind) e inside
    ((bytes_eq-Decides e.name name).1 same) (λ f f_in f_same.
    are_distinct-inside same_name
    (λ a b h. (bytes_eq-Decides b.name a.name).1 (sym ((bytes_eq-Decides a.name b.name).0 h)))
    (entries kind) f e (table_parts kind).2 f_in inside
    ((bytes_eq-Decides f.name e.name).1 ((bytes_eq-Decides f.name name).0 f_same ∙ sym same)))

pub entry_named-inside : (kind : Kind) (name : List ℕ) (e : OperationEntry)
    → entry_named kind name ≡ Some e
    → IsIn e (entries kind) × (e.name ≡ name)
unfolding entry_named
entry_named-inside kind name e found =
    let both = find_inside (λ f. bytes_eq f.name name) (entries kind) e found in
    (both.0, (bytes_eq-Decides e.name name).0 both.1)
