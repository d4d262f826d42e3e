-- The names of a stream's objects.
use Rattle.std.proofs.Common.{◌≡◌, ◌∙◌, ℕ, zero, suc, ◌+◌, ◌<◌, ◌≤◌, Bool, true, false, cond, if◌then◌else◌, List, [], ◌∷◌, ◌++◌, length, get_or, map, refl, sym, ap, arith, bytes_eq, length-append}
use Rattle.std.specs.Prelude.{not, ◌||◌}
use Rattle.std.specs.List.{list_any, position_or_len}
use Rattle.std.proofs.lemmas.List.{map-append}
use Rattle.stream_text.specs.Stream.{names_with, object_named}

-- a test by a value is the same after both are mapped
pub any_mapped : {X Y : Type 0} (f : X → Y) (E : X → X → Bool) (F : Y → Y → Bool)
    → ((a b : X) → E a b ≡ F (f a) (f b)) → (x : X) (xs : List X)
    → list_any (E x) xs ≡ list_any (F (f x)) (map f xs)
any_mapped f E F same x [] = refl
any_mapped f E F same x (y ∷ ys) =
    ap (λ (r : Bool). r || list_any (E x) ys) (same x y)
    ∙ ap (λ (r : Bool). F (f x) (f y) || r) (any_mapped f E F same x ys)

-- the first place of a value is the same after both are mapped
pub place_mapped : {X Y : Type 0} (f : X → Y) (E : X → X → Bool) (F : Y → Y → Bool)
    → ((a b : X) → E a b ≡ F (f a) (f b)) → (x : X) (xs : List X)
    → position_or_len (E x) xs ≡ position_or_len (F (f x)) (map f xs)
place_mapped f E F same x [] = refl
place_mapped f E F same x (y ∷ ys) =
    ap (λ (r : Bool). cond (not r) (1 + position_or_len (E x) ys) 0) (same x y)
    ∙ ap (λ (n : ℕ). cond (not (F (f x) (f y))) (1 + n) 0) (place_mapped f E F same x ys)

with_or_without : {X Y : Type 0} (f : X → Y) (b : Bool) (xs : List X) (x : X)
    → map f (if b then xs else xs ++ x ∷ []) ≡ (if b then map f xs else map f xs ++ f x ∷ [])
with_or_without f true xs x = refl
with_or_without f false xs x = map-append f xs (x ∷ [])

-- the names after one that is there or goes last
pub names_grow : {X : Type 0} (f : X → List ℕ) (E : X → X → Bool)
    → ((a b : X) → E a b ≡ bytes_eq (f a) (f b)) → (x : X) (xs : List X)
    → map f (if list_any (E x) xs then xs else xs ++ x ∷ []) ≡ names_with (map f xs) (f x)
names_grow f E same x xs = with_or_without f (list_any (E x) xs) xs x
    ∙ ap (λ (b : Bool). if b then map f xs else map f xs ++ f x ∷ [])
    (any_mapped f E bytes_eq same x xs)

longer : (b : Bool) (names : List (List ℕ)) (name : List ℕ)
    → length names ≤ length (if b then names else names ++ name ∷ [])
longer true names name = omega arith
longer false names name = omega (arith, length-append names (name ∷ []))

-- no name goes
pub names_stay : (names : List (List ℕ)) (name : List ℕ)
    → length names ≤ length (names_with names name)
names_stay names name = longer (list_any (bytes_eq name) names) names name

-- a zero more at the end changes nothing
pub zero_more : (xs : List ℕ) (k : ℕ) → get_or (xs ++ 0 ∷ []) k 0 ≡ get_or xs k 0
zero_more [] zero = refl
zero_more [] (suc k) = refl
zero_more (x ∷ xs) zero = refl
zero_more (x ∷ xs) (suc k) = zero_more xs k

counted : (b : Bool) (names : List (List ℕ)) (name : List ℕ)
    → length (if b then names else names ++ name ∷ []) ≡ length names + (if not b then 1 else 0)
counted true names name = omega arith
counted false names name = omega (arith, length-append names (name ∷ []))

-- how many names there are after one that is there or goes last
pub names_count : {X : Type 0} (f : X → List ℕ) (E : X → X → Bool)
    → ((a b : X) → E a b ≡ bytes_eq (f a) (f b)) → (x : X) (xs : List X) (names : List (List ℕ))
    (name : List ℕ) → map f xs ≡ names → f x ≡ name → (is_new : Bool)
    → is_new ≡ not (list_any (E x) xs)
    → length (names_with names name) ≡ length names + (if is_new then 1 else 0)
names_count f E same x xs names name are is is_new added =
    let b = list_any (bytes_eq name) names in
    let found : list_any (E x) xs ≡ b = any_mapped f E bytes_eq same x xs
    ∙ ap (λ (ns : List (List ℕ)). list_any (bytes_eq (f x)) ns) are
    ∙ ap (λ (n : List ℕ). list_any (bytes_eq n) names) is in
    counted b names name ∙ ap (λ (n : Bool). length names + (if n then 1 else 0))
    (ap not (sym found) ∙ sym added)

none_here : (b c : Bool) (n : ℕ) (xs : List (List ℕ)) → (c ≡ false → n ≡ length xs)
    → b || c ≡ false → cond (not b) (1 + n) 0 ≡ suc (length xs)
none_here true c n xs rest e = absurd cc
none_here false c n xs rest e = omega (arith, rest e)

-- a name that isn't there has the next number
pub not_named : (p : List ℕ → Bool) (xs : List (List ℕ)) → list_any p xs ≡ false
    → position_or_len p xs ≡ length xs
not_named p [] e = refl
not_named p (x ∷ xs) e =
    none_here (p x) (list_any p xs) (position_or_len p xs) xs (not_named p xs) e

same_or_longer : (b : Bool) (names : List (List ℕ)) (name : List ℕ) (n : ℕ)
    → (b ≡ false → n ≡ length names) → n < length names
    → (if b then names else names ++ name ∷ []) ≡ names
same_or_longer true names name n new low = refl
same_or_longer false names name n new low = absurd (omega (arith, new refl, low))

-- a name with one of the numbers so far isn't new
pub names_same : (names : List (List ℕ)) (name : List ℕ)
    → object_named names name < length names → names_with names name ≡ names
names_same names name low =
    same_or_longer (list_any (bytes_eq name) names) names name (object_named names name)
    (not_named (bytes_eq name) names) low

-- what isn't zero is within a list
pub some_within : (xs : List ℕ) (k : ℕ) → 0 < get_or xs k 0 → k < length xs
some_within [] zero some = absurd (omega (arith, some))
some_within [] (suc k) some = absurd (omega (arith, some))
some_within (x ∷ xs) zero some = omega arith
some_within (x ∷ xs) (suc k) some = omega (arith, some_within xs k some)
