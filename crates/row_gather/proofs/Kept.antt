-- A book that a caller has gathered and kept stays gathered.
use Rattle.std.proofs.Common.{◌≡◌, ℕ, List, Some, None, length, sym, subst}
use Rattle.world_core.specs.Local.{Local}
use Rattle.world_core.specs.Calls.{IsGathered}
use Rattle.world_laws.proofs.Gathered.{gathered_stays}
use Rattle.row_gather.specs.declared.gathered.Gathered.{Gathered}
use Rattle.row_gather.specs.Gathered.{IsGatheredBy, GatheredByStays}

-- A kept book that is gathered with a local is gathered with each local that has all peeked words
-- of that one.
pub gathered_by_stays : GatheredByStays
gathered_by_stays l m None all h = tt
gathered_by_stays l m (Some g) all h = gathered_stays (length g.book) l m g.cut g.book all h

-- A book that a caller has gathered at a cut, and keeps with this cut, is a kept book that the
-- caller has gathered.
pub gathered_by_now : (n : ℕ) (l : Local) (cut : List ℕ) (g : Gathered) → g.cut ≡ cut
    → IsGathered n l cut g.book → IsGatheredBy l (Some g)
gathered_by_now n l cut g is h =
    subst (λ (x : List ℕ). IsGathered (length g.book) l x g.book) (sym is)
    (subst (λ (k : ℕ). IsGathered k l cut g.book) (sym h.callers) h)
