-- How the fields of `ScanCore` keep the state of a scan: the words of the round under way are the
-- first counts of a cut, whose other counts have no meaning.
use Rattle.std.specs.Prelude.{◌≡◌, ◌<◌, ℕ, List, length, take, Option, MatchOption}
use Rattle.world_core.specs.declared.course.Course.{Course}
use Rattle.world_core.specs.declared.course.Course.TheVariants.{Collects, Borrows, Ends}
use Rattle.world_core.specs.declared.scan_core.ScanCore.TheInside.{Inside}
use Rattle.world_core.specs.Standing.{ScanState}

-- The state of a scan, read off the fields of its `ScanCore`.
abbrev pub standing_of : Inside → ScanState
standing_of c =
    record {
      callers = length c.current;
      me = c.me;
      region = c.region;
      first = c.first;
      last = c.last;
      current = take c.taken c.current;
      course = c.course;
    }

-- A round of a scan of n callers, if there is one, has n words.
abbrev pub FitsRound : ℕ → Option (List ℕ) → Type 0
FitsRound n round = MatchOption round (Unit {0}) (λ words. length words ≡ n)

-- What a scan of n callers does at present fits them: it collects, borrows from one of them, or has
-- ended with a cut of n counts.
abbrev pub FitsCourse : ℕ → Course → Type 0
FitsCourse n Collects = Unit {0}
FitsCourse n (Borrows j row) = j < n
FitsCourse n (Ends cut) = length cut ≡ n

-- The fields of a `ScanCore` fit one another: the caller that scans is one of the callers, the
-- round under way has fewer words than there are callers, the first and the last round, if there is
-- one, have one word for each caller, and what the scan does fits the callers.
pub record IsWhole (c : Inside) : Type 0 where
  pub me : c.me < length c.current
  pub lacks : c.taken < length c.current
  pub first : FitsRound (length c.current) c.first
  pub last : FitsRound (length c.current) c.last
  pub course : FitsCourse (length c.current) c.course
