-- The state of a scan: what is kept of the words that it has taken. The words make rounds of one
-- word for each caller: those of a collect, or those of the peeks at an embedded cut.
use Rattle.std.specs.Prelude.{ℕ, zero, suc, List, Option, Some, None}
use Rattle.world_core.specs.declared.region.Region.{Region}
use Rattle.world_core.specs.declared.course.Course.{Course}
use Rattle.world_core.specs.Scan.{rounds, round, last_of, open_round, course}

-- The words of the first of the k whole rounds of a scan of n callers, or none where k is 0.
abbrev pub first_of : ℕ → List ℕ → ℕ → Option (List ℕ)
first_of n taken zero = None
first_of n taken (suc k) = Some (round n taken 0)

-- The state of a scan: how many callers there are, the number of the caller that scans, and the
-- region; the words of the first and of the last whole round, if there is one; the words of the
-- round under way; and what the scan does now.
pub record ScanState : Type 0 where
  pub callers : ℕ
  pub me : ℕ
  pub region : Region
  pub first : Option (List ℕ)
  pub last : Option (List ℕ)
  pub current : List ℕ
  pub course : Course

-- The state of a scan of a region by caller `me` of n callers that has taken these words.
abbrev pub standing : ℕ → ℕ → Region → List ℕ → ScanState
standing n me region taken =
    record {
      callers = n;
      me = me;
      region = region;
      first = first_of n taken (rounds n taken);
      last = last_of n taken (rounds n taken);
      current = open_round n taken;
      course = course n taken;
    }
