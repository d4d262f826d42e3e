-- Laws of options and of pairs.
use Rattle.std.proofs.Common.{◌≡◌, Bool, true, false, cond, ◌⊎◌, Option, Some, None, is_some, IfNone, IsSomeAnd, inl, inr, refl}
use Rattle.std.specs.Option.{option_map, option_and_then}
use Rattle.std.proofs.lemmas.Bool.{true≢false}

-- an option is nothing or something
pub cases_Option : {X : Type 0} (o : Option X) → (o ≡ None) ⊎ ((x : X) × (o ≡ Some x))
cases_Option None = inl refl
cases_Option (Some x) = inr (x, refl)

-- an option that isn't something is nothing
pub none_from_is_some : {X : Type 0} (o : Option X) → is_some o ≡ false → o ≡ None
none_from_is_some None absent = refl
none_from_is_some (Some x) absent = absurd (true≢false absent)

-- an option that is never something is nothing
pub none_from_never : {X : Type 0} (o : Option X) → ((x : X) → o ≡ Some x → ⊥) → o ≡ None
none_from_never None never = refl
none_from_never (Some x) never = absurd (never x refl)

-- an option that isn't nothing is something
pub some_from_is_some : {X : Type 0} (o : Option X) → is_some o ≡ true → (x : X) × (o ≡ Some x)
some_from_is_some None h = absurd cc
some_from_is_some (Some x) h = (x, refl)

-- an option of which something holds is something
pub some_from_is_some_and : {X : Type 0} (o : Option X) (P : X → Type 0) → IsSomeAnd o P → (x : X)
    × (o ≡ Some x)
some_from_is_some_and None P h = absurd h
some_from_is_some_and (Some x) P h = (x, refl)

-- what holds where an option is empty may be replaced by what follows from it
pub IfNone_then : {X P Q : Type 0} (o : Option X) → IfNone o P → (P → Q) → IfNone o Q
IfNone_then None holds gives = gives holds
IfNone_then (Some x) holds gives = tt

-- where two steps in a row give a value, the first one gave a value
pub and_then_some : {X Y : Type 0} (o : Option X) (f : X → Option Y) (y : Y)
    → option_and_then f o ≡ Some y → (x : X) × (o ≡ Some x) × (f x ≡ Some y)
and_then_some None f y e = absurd cc
and_then_some (Some x) f y e = (x, refl, e)

-- where an option has a value after a function is applied, this is the function's value on the one
-- that the option had before
pub map_some : {X Y : Type 0} (o : Option X) (f : X → Y) (y : Y) → option_map f o ≡ Some y → (x : X)
    × (o ≡ Some x) × (f x ≡ y)
map_some None f y e = absurd cc
map_some (Some x) f y e = (x, refl, cc)

-- an option that is kept only where a test passes has a value only where the test passes and the
-- option has it
pub if_some : {X : Type 0} (b : Bool) (o : Option X) (y : X) → cond b o None ≡ Some y → (b ≡ true)
    × (o ≡ Some y)
if_some true o y e = (refl, e)
if_some false o y e = absurd cc

-- pairs of equal parts are equal
pub pair_is : {A B : Type 0} {a c : A} {b d : B} → a ≡ c → b ≡ d → ◌≡◌ {A = A × B} (a, b) (c, d)
pair_is e f = cc
