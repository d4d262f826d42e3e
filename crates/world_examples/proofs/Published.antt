-- Which cuts of worked runs count published records alone, and which don't, by the part that fails.
use Rattle.std.proofs.Common.{◌≡◌, ℕ, zero, suc, ◌<◌, ◌≤◌, List, [], ◌∷◌, slice_index, refl, arith}
use Rattle.world_core.specs.Local.{Local}
use Rattle.world_core.specs.World.{end_of}
use Rattle.world_core.specs.Calls.{local_at, IsPublished}
use Rattle.world_examples.specs.Schedules.{pair, announced_both, two_calls}

abbrev announced : List Local
announced = (end_of pair announced_both).locals

abbrev called : List Local
called = (end_of pair two_calls).locals

none_within : (i : ℕ) → i < 2 → slice_index (0 ∷ 0 ∷ []) i ≤ (local_at announced i).published
none_within zero low = omega arith
none_within (suc zero) low = omega arith
none_within (suc (suc i)) low = absurd (omega (arith, low))

-- after two announcements, and no publication, the cut 0 0 counts published records alone
pub none_published : IsPublished announced (0 ∷ 0 ∷ [])
none_published = record { wide = refl; within = none_within }

one_within : (i : ℕ) → i < 2 → slice_index (1 ∷ 0 ∷ []) i ≤ (local_at called i).published
one_within zero low = omega arith
one_within (suc zero) low = omega arith
one_within (suc (suc i)) low = absurd (omega (arith, low))

-- after two calls the cut 1 0 counts published records alone
pub one_published : IsPublished called (1 ∷ 0 ∷ [])
one_published = record { wide = refl; within = one_within }

-- after two announcements, and no publication, the cut 1 0 counts a record that isn't published
pub announced_alone : IsPublished announced (1 ∷ 0 ∷ []) → ⊥
announced_alone p = let low : 1 ≤ 0 = p.within 0 (omega arith) in omega (arith, low)

-- after two calls the cut 1 2 counts a record that isn't published
pub too_many : IsPublished called (1 ∷ 2 ∷ []) → ⊥
too_many p = let low : 2 ≤ 1 = p.within 1 (omega arith) in omega (arith, low)

-- a cut of one count isn't a cut of the published records of two callers
pub too_narrow : IsPublished called (1 ∷ []) → ⊥
too_narrow p = let wide : 1 ≡ 2 = p.wide in omega (arith, wide)
