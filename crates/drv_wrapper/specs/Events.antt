-- Which events the announcement of a call and the taking of its view are, and what they add to the
-- lists of the caller's local.
use Rattle.std.specs.Prelude.{◌≡◌, ℕ, List, [], ◌∷◌, ◌++◌}
use Rattle.book_base.specs.declared.call.Record.{Record}
use Rattle.world_core.specs.declared.region.Region.TheVariants.{N}
use Rattle.world_core.specs.Local.{Local}
use Rattle.world_core.specs.Event.{Begins_scan, Begins_view}
use Rattle.collect_scan.specs.Scanned.{HasScanned}
use Rattle.collect_scan.specs.Given.{given_with, HoldsLooks}
use Rattle.row_table.specs.Staging.{local_announced}

-- The local `after` is the local `before` of one of n callers, changed by a scan of N, then by the
-- staging and the announcement of a row with this operation, and by no other event. The row embeds
-- the scan's cut, whose entries are at least the counts of N that the caller had looked at before;
-- and the call has no object step yet.
pub record HasAnnounced (n op : ℕ) (before after : Local) : Type 0 where
  pub cut : List ℕ
  pub scanned : Local
  pub scan : HasScanned n N Begins_scan cut before scanned
  pub is : after ≡ local_announced n op scanned
  pub embedded : after.embedded_in_N ≡ before.embedded_in_N ++ cut ∷ []
  pub given : after.cuts ≡ before.cuts ++ given_with before N cut ∷ []
  pub looked : HoldsLooks N cut before
  pub object_steps : after.object_steps ≡ before.object_steps ++ [] ∷ []

-- The local `after` is the local `before` of one of n callers, changed by a scan of N that began
-- with the reply of this record and gave its view, and by no other event. The view is the local's
-- last view and last given cut; its entries are at least the counts of N that the caller had looked at before;
-- and no object step is added.
pub record HasViewed (n : ℕ) (r : Record) (before after : Local) : Type 0 where
  pub scan : HasScanned n N (Begins_view r.reply) r.view before after
  pub replies : after.replies ≡ before.replies ++ r.reply ∷ []
  pub views : after.views ≡ before.views ++ r.view ∷ []
  pub given : after.cuts ≡ before.cuts ++ given_with before N r.view ∷ []
  pub looked : HoldsLooks N r.view before
  pub object_steps : after.object_steps ≡ before.object_steps
