-- A scan that its caller makes in turns, one step a turn.
use Rattle.std.specs.Prelude.{◌≡◌, ℕ, ◌<◌, Bool, true, false, IsTrue, List, [], ◌∷◌, ◌++◌, length, Option, Some, None}
use Rattle.world_core.specs.declared.region.Region.{Region}
use Rattle.world_core.specs.Shape.{Meaning}
use Rattle.world_core.specs.Scan.{wanted, is_done, first_caller}
use Rattle.world_core.specs.Local.{Local}
use Rattle.world_core.specs.Event as event
use Rattle.row_table.specs.declared.stance.Stance.{Stance}
use Rattle.row_table.specs.declared.caller.Caller.{Caller}
use Rattle.row_table.specs.declared.rows.Rows.{Rows}
use Rattle.row_table.specs.Actions.{opening_in}
use Rattle.row_table.specs.Stances.{opening_with, looked}
use Rattle.row_table.specs.Callers.{shape_of, who_of, local_with, stance_of}
use Rattle.collect_scan.specs.declared.turns.Scan.{Scan}
use Rattle.collect_scan.specs.Scanned.{local_in_scan, most_words, HasScanned}

-- The stance of a caller that had the stance `s`, after it began a scan of a region: the caller
-- means to begin no scan any more, and where the region is N it has handed over the reply that it
-- kept, if there was one.
abbrev pub stance_scanned : Stance → Region → Stance
stance_scanned s region = looked (record s { begins = Some region })

-- The stance of a caller after a turn of its scan: the first turn begins the scan, and each later
-- one keeps the stance.
abbrev pub stance_turned : Bool → Stance → Region → Stance
stance_turned false s region = stance_scanned s region
stance_turned true s region = s

-- A scan of this region of n callers is under way on the local `l` and isn't done, and its caller
-- has made no step since the scan began but those of the scan.
pub record IsScanning (n : ℕ) (region : Region) (l : Local) : Type 0 where
  pub before : Local
  pub opening : event.Opening
  pub taken : List ℕ
  pub is : l ≡ local_in_scan n before region opening taken
  pub goes : is_done (wanted n taken) ≡ false

-- What one turn has done of a scan that began on the local `before` and had taken these words.
-- Where the turn answers no cut, the scan is under way, has taken one word more, and has taken
-- fewer than the most words that a scan of n callers may take; where the turn answers a cut, the
-- local `now` is `before`, changed by one whole scan that ended with this cut.
abbrev pub HasTurned : ℕ → Region → event.Opening → List ℕ → Option (List ℕ) → Local
    → Local → Type 0
HasTurned n region opening taken None before now =
    (x : ℕ) × (now ≡ local_in_scan n before region opening (taken ++ x ∷ []))
    × (length (taken ++ x ∷ []) < most_words n)
HasTurned n region opening taken (Some cut) before now = HasScanned n region opening cut before now

module _ {P : Type 0} where
  -- The number of the caller that makes a scan.
  abbrev pub scanner_of : Scan P → ℕ
  scanner_of s = s.who

  -- The region of a scan.
  abbrev pub region_of : Scan P → Region
  region_of s = s.region

  -- Whether a scan has made its first turn.
  abbrev pub has_begun : Scan P → Bool
  has_begun s = s.begun

  -- What the first look of this caller's scan of this region begins: the view's scan where the
  -- region is N and the caller keeps a reply, and else a scan without a reply.
  abbrev pub opening_at : Caller P → Region → event.Opening
  opening_at c region = opening_in (opening_with (Some region) (stance_of c).reply)

  -- The caller may begin a scan of this region: the view's scan isn't under way, and where this
  -- scan is the view's, the caller is in the phase ask and the reply that it keeps is a word that
  -- the program allows.
  pub record MayScan (meaning : P → ℕ → ℕ → Meaning) (r : Rows P) (c : Caller P)
      (region : Region) : Type 0 where
    pub free : event.is_view_under_way (local_with c).scan ≡ false
    pub begins : IsTrue (event.may_begin (shape_of meaning r) (who_of c)
        (local_with c) region first_caller (opening_at c region))

  -- The caller may make a further step of its scan of this region: that scan is under way and isn't
  -- done, the caller has made no other step since it began, and it means to begin no other scan.
  pub record MayGoOn (r : Rows P) (c : Caller P) (region : Region) : Type 0 where
    pub plain : (stance_of c).begins ≡ None
    pub scanning : IsScanning r.callers region (local_with c)

  -- The caller may make the next turn of a scan of this region: where the scan hasn't begun, it may
  -- begin the scan; and where the scan has begun, it may make a further step of it.
  abbrev pub MayTurnAs : Bool → (P → ℕ → ℕ → Meaning) → Rows P → Caller P → Region → Type 0
  MayTurnAs false meaning r c region = MayScan meaning r c region
  MayTurnAs true meaning r c region = MayGoOn r c region

  -- The scan is this caller's, and the caller may make its next turn.
  pub record MayTurn (meaning : P → ℕ → ℕ → Meaning) (r : Rows P) (c : Caller P)
      (s : Scan P) : Type 0 where
    pub who : scanner_of s ≡ who_of c
    pub may : MayTurnAs (has_begun s) meaning r c (region_of s)
