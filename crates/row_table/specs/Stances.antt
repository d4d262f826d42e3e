-- What the next look of a caller begins, and what a caller means to do after it.
use Rattle.std.specs.Prelude.{◌≡◌, Option, Some, None, ℕ}
use Rattle.world_core.specs.declared.region.Region.{Region}
use Rattle.world_core.specs.declared.region.Region.TheVariants.{N, M}
use Rattle.row_table.specs.declared.action.Opening.{Opening}
use Rattle.row_table.specs.declared.action.Opening.TheVariants.{Nothing, Scan, View}
use Rattle.row_table.specs.declared.stance.Stance.{Stance}

-- What a look begins, by the region of the scan that it is to begin, if any, and by the reply that
-- is kept, if any: nothing where it is to begin no scan; the view's scan where it is to begin one
-- of N and a reply is kept; and otherwise a scan that isn't the view's.
abbrev pub opening_with : Option Region → Option ℕ → Opening
opening_with None reply = Nothing
opening_with (Some N) None = Scan
opening_with (Some N) (Some reply) = View reply
opening_with (Some M) reply = Scan

-- What the next look of a caller with this stance begins.
abbrev pub opening_by : Stance → Opening
opening_by s = opening_with s.begins s.reply

-- The reply that is kept after a look with this opening: none after one that begins the view's
-- scan, which carries the reply, and else the one kept before.
abbrev pub reply_kept : Opening → Option ℕ → Option ℕ
reply_kept (View x) reply = None
reply_kept _ reply = reply

-- The stance after a look: the caller means to begin no scan any more, and keeps no reply that the
-- look carried.
abbrev pub looked : Stance → Stance
looked s = record s { begins = None; reply = reply_kept (opening_by s) s.reply }

-- Where the next look is to begin a scan, that scan is one of this region.
abbrev pub FitsRegion : Option Region → Region → Type 0
FitsRegion None region = Unit {0}
FitsRegion (Some r) region = r ≡ region
