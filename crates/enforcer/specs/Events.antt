-- By which events a caller publishes a record, and by which it sees a cut afterwards; and what
-- these events add to the lists of the caller's local.
use Rattle.std.specs.Prelude.{◌≡◌, ℕ, List, [], ◌∷◌, ◌++◌}
use Rattle.world_core.specs.declared.region.Region.TheVariants.{M}
use Rattle.world_core.specs.Local.{Local}
use Rattle.world_core.specs.Event.{Publish, Begins_scan, local_after}
use Rattle.collect_scan.specs.Scanned.{HasScanned}
use Rattle.collect_scan.specs.Given.{given_with, HoldsLooks}

-- The local `after` is the local `before` of one of n callers, changed by a scan of M, the
-- publication of the row that was staged, and no other event but stages. The row embeds the cut
-- that this scan gave. This cut is the last one that was given to the caller. Each count in M that
-- the scanning caller had looked at before the scan is at most the cut's count for the caller that
-- was looked at.
pub record IsPublication (n : ℕ) (before after : Local) : Type 0 where
  pub cut : List ℕ
  pub scanned : Local
  pub scan : HasScanned n M Begins_scan cut before scanned
  pub is : after ≡ local_after n scanned Publish
  pub embedded : after.embedded_in_M ≡ before.embedded_in_M ++ cut ∷ []
  pub given : after.cuts ≡ before.cuts ++ given_with before M cut ∷ []
  pub looked : HoldsLooks M cut before

-- The local `after` is the local `before` of one of n callers, changed by a scan of M that ended
-- with this cut, and no other event. The cut is the last one that was given and the last seen cut.
-- Each count in M that the scanning caller had looked at before the scan is at most the cut's count
-- for the caller that was looked at.
pub record IsSight (n : ℕ) (cut : List ℕ) (before after : Local) : Type 0 where
  pub scan : HasScanned n M Begins_scan cut before after
  pub given : after.cuts ≡ before.cuts ++ given_with before M cut ∷ []
  pub looked : HoldsLooks M cut before
  pub seen : after.seen ≡ before.seen ++ cut ∷ []
