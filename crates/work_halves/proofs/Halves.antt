-- What holds place by place of the two parts of a list holds of the whole.
use Rattle.std.proofs.Common.{◌≡◌, List, [], ◌∷◌, ◌++◌}
use Rattle.std.specs.List.{AllZip}

all_zip-append : {X Y : Type 0} (R : X → Y → Type 0) (prefix suffix : List X)
    (prefix' suffix' : List Y)
    → AllZip R prefix prefix' → AllZip R suffix suffix'
    → AllZip R (prefix ++ suffix) (prefix' ++ suffix')
all_zip-append R [] suffix [] suffix' at_prefix at_after = at_after
all_zip-append R [] suffix (y ∷ ys) suffix' at_prefix at_after = absurd at_prefix
all_zip-append R (x ∷ xs) suffix [] suffix' at_prefix at_after = absurd at_prefix
all_zip-append R (x ∷ xs) suffix (y ∷ ys) suffix' at_prefix at_after =
    (at_prefix.0, all_zip-append R xs suffix ys suffix' at_prefix.1 at_after)

-- what holds place by place of the two parts holds of a whole that is said to be the two parts
pub all_zip-of_parts : {X Y : Type 0} (R : X → Y → Type 0) (whole prefix suffix : List X)
    (prefix' suffix' : List Y) → whole ≡ prefix ++ suffix
    → AllZip R prefix prefix' → AllZip R suffix suffix' → AllZip R whole (prefix' ++ suffix')
all_zip-of_parts R whole prefix suffix prefix' suffix' is at_prefix at_after =
    rw is (all_zip-append R prefix suffix prefix' suffix' at_prefix at_after)
