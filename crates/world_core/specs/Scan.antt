-- The scan with embedded cuts (Afek, Attiya, Dolev, Gafni, Merritt and Shavit 1993): what a scan of
-- n callers has found, and what it needs next, as functions of the list of words that it has taken.
use Rattle.std.specs.Prelude.{◌≡◌, ◌<◌, ◌≤◌, ℕ, zero, suc, ◌+◌, ◌-◌, ◌*◌, ◌/◌, Bool, true, false, nat_lt, if◌then◌else◌, List, ◌∷◌, length, take, drop, Option, Some, None, slice_index, IsTrue, count_by}
use Rattle.std.specs.Str.{bytes_eq}
use Rattle.std.specs.List.{range_with_len}
use Rattle.world_core.specs.declared.course.Course.{Course}
use Rattle.world_core.specs.declared.course.Course.TheVariants.{Collects, Borrows, Ends}
use Rattle.world_core.specs.declared.want.Want.{Want}
use Rattle.world_core.specs.declared.want.Want.TheVariants.{Look, Peek, Done}

-- Whether two cuts are equal, count by count.
abbrev pub is_same_cut : List ℕ → List ℕ → Bool
is_same_cut a b = bytes_eq a b

-- How many whole rounds the words of a scan of n callers make. A round has n words: those of a
-- collect, which is one look at each caller, or those of the peeks at an embedded cut, one for each
-- of its entries.
abbrev pub rounds : ℕ → List ℕ → ℕ
rounds n taken = length taken / n

-- The words of round k, where rounds are counted from 0 and have n words each.
abbrev pub round : ℕ → List ℕ → ℕ → List ℕ
round n taken k = take n (drop (k * n) taken)

-- The words of the round that is under way: those after the last whole round.
abbrev pub open_round : ℕ → List ℕ → List ℕ
open_round n taken = drop (rounds n taken * n) taken

-- Given two lists with the counts of the callers from number j on, the least caller whose count in
-- the second list is at least 2 above its count in the first, if there is such a caller.
abbrev pub mover_from : ℕ → List ℕ → List ℕ → Option ℕ
mover_from j (a ∷ first) (b ∷ latest) =
    if nat_lt (a + 1) b then Some j else mover_from (suc j) first latest
mover_from j _ _ = None

-- The least caller whose count in the second of two collects is at least 2 above its count in the
-- first, if there is such a caller. A caller of this kind has moved twice.
abbrev pub mover : List ℕ → List ℕ → Option ℕ
mover first latest = mover_from 0 first latest

-- What a scan does next, given its latest collect and the caller that has moved twice since the
-- first, if there is one. It borrows the cut that this caller's latest row embeds; the number of
-- that row is 1 less than the caller's count in the latest collect. Where no caller has moved twice
-- the scan makes the next collect.
abbrev pub lent_by : List ℕ → Option ℕ → Course
lent_by latest None = Collects
lent_by latest (Some j) = Borrows j (slice_index latest j - 1)

-- What a scan does after its latest collect, given the first collect and the one before the latest,
-- if there is one. After its first collect it makes another. After a later one it ends with the
-- latest collect as its cut where the one before is equal; otherwise it borrows from the least
-- caller that has moved twice since the first collect, and makes another collect where no caller
-- has.
abbrev pub course_by : List ℕ → Option (List ℕ) → List ℕ → Course
course_by first None latest = Collects
course_by first (Some before) latest =
    if is_same_cut before latest then Ends latest else lent_by latest (mover first latest)

-- The words of the last of the first k rounds, or none where k is 0.
abbrev pub last_of : ℕ → List ℕ → ℕ → Option (List ℕ)
last_of n taken zero = None
last_of n taken (suc k) = Some (round n taken k)

-- What a scan does after a round, given the first round, the round before the latest, if there is
-- one, the latest round, and what the scan did in the latest. After a collect it ends, borrows or
-- collects again, as `course_by` says. After the round in which it peeked a borrowed cut it ends
-- with that cut. A scan that has ended stays ended with its cut.
abbrev pub course_on : List ℕ → Option (List ℕ) → List ℕ → Course → Course
course_on first last latest Collects = course_by first last latest
course_on first last latest (Borrows j row) = Ends latest
course_on first last latest (Ends cut) = Ends cut

-- What a scan that takes these words does after its first k rounds: before its first round it
-- collects.
abbrev pub course_after : ℕ → List ℕ → ℕ → Course
course_after n taken zero = Collects
course_after n taken (suc k) =
    course_on (round n taken 0) (last_of n taken k) (round n taken k) (course_after n taken k)

-- What a scan does that has taken these words: what it does after all of its whole rounds.
abbrev pub course : ℕ → List ℕ → Course
course n taken = course_after n taken (rounds n taken)

-- What a scan needs next, given what it does now and the words of the round under way: in a collect
-- the look at the first caller that the collect lacks, while it borrows the peek at the first entry
-- that it lacks, and nothing where it has ended with a cut.
abbrev pub wanted_by : Course → List ℕ → Want
wanted_by Collects words = Look (length words)
wanted_by (Borrows j row) words = Peek j row (length words)
wanted_by (Ends cut) words = Done cut

-- What a scan of n callers that has taken these words needs next.
abbrev pub wanted : ℕ → List ℕ → Want
wanted n taken = wanted_by (course n taken) (open_round n taken)

-- The number of the caller at whose count each scan looks first.
abbrev pub first_caller : ℕ
first_caller = 0

-- What a scan needs next fits n callers: a look is at the count of one of them; a peek is into a
-- row of one of them, at an entry for one of them; and the cut of a scan that is done has n counts.
abbrev pub FitsCallers : ℕ → Want → Type 0
FitsCallers n (Look j) = j < n
FitsCallers n (Peek j row entry) = (j < n) × (entry < n)
FitsCallers n (Done cut) = length cut ≡ n

-- Whether a scan that does this has ended.
abbrev pub has_ended : Course → Bool
has_ended (Ends cut) = true
has_ended _ = false

-- Whether what a scan needs next is nothing, since it is done with a cut.
abbrev pub is_done : Want → Bool
is_done (Done cut) = true
is_done _ = false

-- Whether what a scan needs next is a look.
abbrev pub is_look : Want → Bool
is_look (Look j) = true
is_look _ = false

-- Whether what a scan needs next is a peek.
abbrev pub is_peek : Want → Bool
is_peek (Peek j row entry) = true
is_peek _ = false

-- How many of the words that a scan took came of looks: those before which the scan needed a look.
abbrev pub looks : ℕ → List ℕ → ℕ
looks n taken = count_by (λ k. is_look (wanted n (take k taken))) (range_with_len 0 (length taken))

-- How many of the words that a scan took came of peeks: those before which the scan needed a peek.
abbrev pub peeks : ℕ → List ℕ → ℕ
peeks n taken = count_by (λ k. is_peek (wanted n (take k taken))) (range_with_len 0 (length taken))

-- The words of a scan by caller `me` of n callers are steady where each look of a collect after the
-- first found at least what the look at the same caller in the collect before found, and exactly
-- that where the caller looked at is `me`. Words are steady where no count falls and the count of
-- `me` stays as it is during the scan.
pub record IsSteady (n me : ℕ) (taken : List ℕ) : Type 0 where
  pub rises : (p : ℕ) → p + n < length taken → IsTrue (is_look (wanted n (take (p + n) taken)))
      → slice_index taken p ≤ slice_index taken (p + n)
  pub own : (p k : ℕ) → p ≡ k * n + me → p + n < length taken
      → IsTrue (is_look (wanted n (take (p + n) taken)))
      → slice_index taken (p + n) ≡ slice_index taken p

-- Each of these words was taken by a scan that hadn't ended with the words before it.
abbrev pub AreWanted : ℕ → List ℕ → Type 0
AreWanted n taken = (p : ℕ) → p < length taken → has_ended (course n (take p taken)) ≡ false

-- The words of a scan of n callers are few: at most n * (n + 1) came of looks, which make n + 1
-- collects, and at most n of peeks; and where each word was taken by a scan that hadn't ended,
-- there are at most n * (n + 1) + n words.
pub record IsShort (n : ℕ) (taken : List ℕ) : Type 0 where
  pub looks : looks n taken ≤ n * (n + 1)
  pub peeks : peeks n taken ≤ n
  pub words : AreWanted n taken → length taken ≤ n * (n + 1) + n
