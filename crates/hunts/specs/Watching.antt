-- What the onlooker of a hunt is told.
use Rattle.std.specs.Prelude.{◌≡◌, ℕ, ◌++◌, List, Option, option_map}
use Rattle.client_scripts.specs.Plans.{Plan}

-- What an onlooker is told of the run of a seed: that it begins, with what its callers are to do,
-- or that it was made.
pub data RunNews : Type 0 where
  Begins : (seed : ℕ) (plan : Plan) → RunNews
  Ran : (seed : ℕ) → RunNews

-- An onlooker that keeps what it was told keeps `before` and then `news`, in order; one that keeps
-- nothing still keeps nothing.
abbrev pub Hears : Option (List RunNews) → List RunNews → Option (List RunNews) → Type 0
Hears before news after = after ≡ option_map (λ heard. heard ++ news) before
