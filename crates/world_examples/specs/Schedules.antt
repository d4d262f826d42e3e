-- Worked schedules: runs of one, two and three callers, written out.
use Rattle.std.specs.Prelude.{ℕ, suc, ◌*◌, Bool, not, List, [], ◌∷◌, ◌++◌, map, take, drop}
use Rattle.std.specs.List.{list_all}
use Rattle.book_base.specs.SeqSpec.{SeqSpec}
use Rattle.world_core.specs.declared.region.Region.{Region}
use Rattle.world_core.specs.declared.region.Region.TheVariants.{N, M}
use Rattle.world_core.specs.Shape.{Shape}
use Rattle.world_core.specs.Programs.{outside, scrap}
use Rattle.world_core.specs.Local.{Phase, Given, Local, Object_step}
use Rattle.world_core.specs.Event.{Event, Stage, Announce, Object, Look, Peek, Publish, Opening, Begins_none, Begins_scan, Begins_view}
use Rattle.world_core.specs.World.{Step, local_of, end_of, is_possible}
use Rattle.world_core.specs.Snapshot.{ScanSpan}

-- Two callers with one row each and no object words: the words of the table are the four counts,
-- the row of caller 0, and the row of caller 1.
abbrev pub pair : Shape
pair = record { callers = 2; cap = 1; program = outside }

-- The step in which this caller makes this event.
abbrev pub by : ℕ → Event → Step
by who event = record { who = who; event = event }

-- The looks of a caller at the counts of a region, from caller j on, that find these counts and
-- begin nothing.
abbrev pub looks_from : ℕ → Region → ℕ → List ℕ → List Step
looks_from who region j [] = []
looks_from who region j (x ∷ xs) =
    by who (Look region j x Begins_none) ∷ looks_from who region (suc j) xs

-- The looks of a collect of a region that finds these counts, and begins nothing.
abbrev pub collect : ℕ → Region → List ℕ → List Step
collect who region counts = looks_from who region 0 counts

-- The looks of a collect of a region that finds these counts, and whose first look begins what the
-- opening says.
abbrev pub first_collect : ℕ → Region → Opening → List ℕ → List Step
first_collect who region opening [] = []
first_collect who region opening (x ∷ xs) =
    by who (Look region 0 x opening) ∷ looks_from who region 1 xs

-- The looks of a scan that makes two collects of a region, both with these counts, and that begins
-- as the opening says.
abbrev pub scan : ℕ → Region → Opening → List ℕ → List Step
scan who region opening counts =
    first_collect who region opening counts ++ collect who region counts

-- The stages of these words at the places of a region, in order, from place p on.
abbrev pub stages : ℕ → Region → ℕ → List ℕ → List Step
stages who region p [] = []
stages who region p (x ∷ xs) = by who (Stage region p x) ∷ stages who region (suc p) xs

-- A caller scans N, which gives this cut, stages a row that embeds the cut, and announces the
-- operation with this low word and the high word 0.
abbrev pub announcement : ℕ → ℕ → List ℕ → List Step
announcement who low cut =
    scan who N Begins_scan cut ++ stages who N 0 (low ∷ 0 ∷ cut) ++ by who Announce ∷ []

-- A caller scans M, which gives this cut, stages a row that embeds the cut, and publishes this
-- reply and this view.
abbrev pub publication : ℕ → ℕ → List ℕ → List ℕ → List Step
publication who reply view cut =
    scan who M Begins_scan cut ++ stages who M 0 (reply ∷ view ++ cut) ++ by who Publish ∷ []

-- The local of a caller after these steps from the start.
abbrev pub local_after_all : Shape → List Step → ℕ → Local
local_after_all s steps who = local_of (end_of s steps) who

-- The local of a caller after these steps from the start, in the world of `pair`.
abbrev pub local_at : List Step → ℕ → Local
local_at steps who = local_after_all pair steps who

-- The phase of a caller after the first k of these steps, for each of the numbers k listed, in the
-- world of `pair`.
abbrev pub phases_at : List Step → ℕ → List ℕ → List Phase
phases_at steps who moments = map (λ k. (local_at (take k steps) who).phase) moments

-- Whether each of the further steps is enabled right after these steps from the start.
abbrev pub allows_in : Shape → List Step → List Step → Bool
allows_in s steps further = list_all (λ (step : Step). is_possible s (end_of s steps) step) further

-- Whether none of the further steps is enabled right after these steps from the start.
abbrev pub refuses_in : Shape → List Step → List Step → Bool
refuses_in s steps further =
    list_all (λ (step : Step). not (is_possible s (end_of s steps) step)) further

-- Whether each of the further steps is enabled right after these steps, in the world of `pair`.
abbrev pub allows : List Step → List Step → Bool
allows steps further = allows_in pair steps further

-- Whether none of the further steps is enabled right after these steps, in the world of `pair`.
abbrev pub refuses : List Step → List Step → Bool
refuses steps further = refuses_in pair steps further

-- Caller 0 announces the operation 5, and its object replies 50. Caller 1 announces the operation 6
-- right after the first collect of the view of caller 0, so this view needs a third collect, of
-- which the first look is made.
abbrev pub announced_both : List Step
announced_both =
    announcement 0 5 (0 ∷ 0 ∷ [])
    ++ by 0 (Look N 0 1 (Begins_view 50))
    ∷ by 0 (Look N 1 0 Begins_none)
    ∷ announcement 1 6 (1 ∷ 0 ∷ [])
    ++ by 0 (Look N 0 1 Begins_none)
    ∷ by 0 (Look N 1 1 Begins_none)
    ∷ by 0 (Look N 0 1 Begins_none)
    ∷ []

-- Caller 0 makes the last look of its view, scans M, stages its row, and publishes; meanwhile the
-- object replies 60 to caller 1, which makes the first collect of its view.
abbrev pub published_one : List Step
published_one =
    by 0 (Look N 1 1 Begins_none)
    ∷ by 1 (Look N 0 1 (Begins_view 60))
    ∷ scan 0 M Begins_scan (0 ∷ 0 ∷ [])
    ++ by 0 (Stage M 0 50)
    ∷ by 0 (Stage M 1 1)
    ∷ by 1 (Look N 1 1 Begins_none)
    ∷ by 0 (Stage M 2 1)
    ∷ by 0 (Stage M 3 0)
    ∷ by 0 (Stage M 4 0)
    ∷ by 0 Publish
    ∷ []

-- Caller 0 scans M, which gives it the seen cut 1 0: it sees its own record alone.
abbrev pub judged_one : List Step
judged_one = scan 0 M Begins_scan (1 ∷ 0 ∷ [])

-- Caller 1 ends its view, scans M, stages the places of its row out of order, publishes, and sees
-- the records of both callers.
abbrev pub judged_both : List Step
judged_both =
    collect 1 N (1 ∷ 1 ∷ [])
    ++ scan 1 M Begins_scan (1 ∷ 0 ∷ [])
    ++ by 1 (Stage M 2 1)
    ∷ by 1 (Stage M 0 60)
    ∷ by 1 (Stage M 1 1)
    ∷ by 1 (Stage M 4 0)
    ∷ by 1 (Stage M 3 1)
    ∷ by 1 Publish
    ∷ scan 1 M Begins_scan (1 ∷ 1 ∷ [])

-- Both callers make one whole call each.
abbrev pub two_calls : List Step
two_calls = ((announced_both ++ published_one) ++ judged_one) ++ judged_both

-- The span of the view's scan of caller 0 in `two_calls`.
abbrev pub view_span : ScanSpan
view_span =
    record {
      before = take 9 two_calls;
      first = by 0 (Look N 0 1 (Begins_view 50));
      between = take 13 (drop 10 two_calls);
      last = by 0 (Look N 1 1 Begins_none);
    }

-- Caller 0 begins a scan of M and gives it up for a scan of N, which gives the cut to embed. While
-- it stages its row it begins another scan of N, which its announcement gives up. Its look after
-- the announcement belongs to no scan.
abbrev pub scans_given_up : List Step
scans_given_up =
    by 0 (Look M 0 0 Begins_scan)
    ∷ by 0 (Look M 1 0 Begins_none)
    ∷ by 0 (Look N 0 0 Begins_scan)
    ∷ by 0 (Look M 0 0 Begins_none)
    ∷ by 0 (Look N 1 0 Begins_none)
    ∷ by 0 (Look N 0 0 Begins_none)
    ∷ by 0 (Look N 1 0 Begins_none)
    ∷ by 0 (Stage N 0 5)
    ∷ by 0 (Look N 0 0 Begins_scan)
    ∷ by 0 (Stage N 1 0)
    ∷ by 0 (Stage N 2 0)
    ∷ by 0 (Look N 1 0 Begins_none)
    ∷ by 0 (Stage N 3 0)
    ∷ by 0 Announce
    ∷ by 0 (Look N 0 1 Begins_none)
    ∷ []

-- Caller 0, in the phase ask, makes a whole scan of N that doesn't carry the object's reply, and
-- whose cut becomes neither the view nor a cut to embed.
abbrev pub scan_for_nothing : List Step
scan_for_nothing = scan 0 N Begins_scan (1 ∷ 0 ∷ [])

-- The first look of the view's scan of caller 0, which carries the reply 50.
abbrev pub reply_carried : List Step
reply_carried = by 0 (Look N 0 1 (Begins_view 50)) ∷ []

-- Caller 0 ends its view, scans M and stages its row. It publishes while another scan of M is under
-- way, and its look after the publication belongs to no scan.
abbrev pub published_in_a_scan : List Step
published_in_a_scan =
    by 0 (Look N 1 0 Begins_none)
    ∷ collect 0 N (1 ∷ 0 ∷ [])
    ++ scan 0 M Begins_scan (0 ∷ 0 ∷ [])
    ++ stages 0 M 0 (50 ∷ 1 ∷ 0 ∷ 0 ∷ 0 ∷ [])
    ++ by 0 (Look M 0 0 Begins_scan)
    ∷ by 0 (Look M 1 0 Begins_none)
    ∷ by 0 Publish
    ∷ by 0 (Look M 0 1 Begins_none)
    ∷ []

-- Caller 0 scans N twice, with an announcement of caller 1 between, and stages nothing: the cut of
-- the second scan is the one to embed.
abbrev pub scanned_twice : List Step
scanned_twice = scan 0 N Begins_scan (0 ∷ 0 ∷ []) ++ announcement 1 6 (0 ∷ 0 ∷ [])
    ++ scan 0 N Begins_scan (0 ∷ 1 ∷ [])

-- Caller 0 scans N twice, with an announcement of caller 1 between, and stages a word before the
-- second scan: the cut of the first scan is the one to embed, and that of the second has no use.
abbrev pub scanned_late : List Step
scanned_late = scan 0 N Begins_scan (0 ∷ 0 ∷ []) ++ announcement 1 6 (0 ∷ 0 ∷ [])
    ++ by 0 (Stage N 0 5) ∷ scan 0 N Begins_scan (0 ∷ 1 ∷ [])

-- Three callers with two rows each and no object words.
abbrev pub trio : Shape
trio = record { callers = 3; cap = 2; program = outside }

-- The first collect of a scan of N by caller 2 finds that no caller has announced; then caller 0
-- announces the operation 5, and the second collect finds that call; then caller 1 announces the
-- operation 7, and the third collect finds both calls.
abbrev pub three_collects : List Step
three_collects =
    first_collect 2 N Begins_scan (0 ∷ 0 ∷ 0 ∷ [])
    ++ announcement 0 5 (0 ∷ 0 ∷ 0 ∷ [])
    ++ collect 2 N (1 ∷ 0 ∷ 0 ∷ [])
    ++ announcement 1 7 (1 ∷ 0 ∷ 0 ∷ [])
    ++ collect 2 N (1 ∷ 1 ∷ 0 ∷ [])

-- Caller 0 ends its first call, and announces the operation 6 after a scan that gave the cut 1 1 0.
abbrev pub moved_again : List Step
moved_again =
    scan 0 N (Begins_view 50) (1 ∷ 1 ∷ 0 ∷ [])
    ++ publication 0 50 (1 ∷ 1 ∷ 0 ∷ []) (0 ∷ 0 ∷ 0 ∷ [])
    ++ scan 0 M Begins_scan (1 ∷ 0 ∷ 0 ∷ [])
    ++ announcement 0 6 (1 ∷ 1 ∷ 0 ∷ [])

-- The fourth collect of caller 2 finds that caller 0 has moved twice since the first, and caller 2
-- peeks the cut that the second row of caller 0 embeds. Between its peeks it makes a look and
-- another peek that the scan doesn't need, and whose words the scan doesn't take.
abbrev pub borrowed : List Step
borrowed =
    collect 2 N (2 ∷ 1 ∷ 0 ∷ [])
    ++ by 2 (Peek N 0 1 2 1)
    ∷ by 2 (Look N 1 1 Begins_none)
    ∷ by 2 (Peek N 0 0 3 0)
    ∷ by 2 (Peek N 0 1 3 1)
    ∷ by 2 (Peek N 0 1 4 0)
    ∷ []

-- The steps of the run `borrowing` before the fourth collect of caller 2.
abbrev pub moved_twice : List Step
moved_twice = three_collects ++ moved_again

-- The whole run in which caller 2 borrows a cut.
abbrev pub borrowing : List Step
borrowing = moved_twice ++ borrowed

-- The span of the scan of caller 2 in `borrowing`.
abbrev pub borrowing_span : ScanSpan
borrowing_span =
    record {
      before = [];
      first = by 2 (Look N 0 0 Begins_scan);
      between = drop 1 moved_twice ++ take 7 borrowed;
      last = by 2 (Peek N 0 1 4 0);
    }

-- The words that the scan of caller 2 takes in `borrowing`: those of four collects, and then the
-- three entries of the borrowed cut.
abbrev pub borrowed_words : List ℕ
borrowed_words =
    (0 ∷ 0 ∷ 0 ∷ []) ++ (1 ∷ 0 ∷ 0 ∷ []) ++ (1 ∷ 1 ∷ 0 ∷ []) ++ (2 ∷ 1 ∷ 0 ∷ []) ++ 1 ∷ 1 ∷ 0 ∷ []

-- The span of a scan of N by caller 0, after caller 1 has announced. Between the looks of the scan
-- caller 0 peeks a word of a row that it knows of, and stages two words of its own row.
abbrev pub span_beside_stages : ScanSpan
span_beside_stages =
    record {
      before = announcement 1 6 (0 ∷ 0 ∷ []);
      first = by 0 (Look N 0 0 Begins_scan);
      between =
          by 0 (Look N 1 1 Begins_none)
          ∷ by 0 (Peek N 1 0 0 6)
          ∷ by 0 (Stage N 0 5)
          ∷ by 0 (Look N 0 0 Begins_none)
          ∷ by 0 (Stage N 1 0)
          ∷ [];
      last = by 0 (Look N 1 1 Begins_none);
    }

-- One caller with one row and no object words.
abbrev pub single : Shape
single = record { callers = 1; cap = 1; program = outside }

-- The scan of N that a caller alone makes at the start.
abbrev pub scan_alone : List Step
scan_alone = scan 0 N Begins_scan (0 ∷ [])

-- The span of a scan of N that a caller alone makes once it has announced.
abbrev pub span_after_announcement : ScanSpan
span_after_announcement =
    record {
      before = announcement 0 5 (0 ∷ []);
      first = by 0 (Look N 0 1 Begins_scan);
      between = [];
      last = by 0 (Look N 0 1 Begins_none);
    }

-- The cut of a region with this one count, given by a scan before which its caller had looked at
-- two counts.
abbrev pub given_alone : Region → ℕ → Given
given_alone region count = record { region = region; cut = count ∷ []; since = 2 }

-- Two callers with one row each, and one object word, where every step and every reply is allowed.
abbrev pub scrap_pair : Shape
scrap_pair = record { callers = 2; cap = 1; program = scrap }

-- The step on the object word at this place that finds the old word and leaves the new one.
abbrev pub object_step : ℕ → ℕ → ℕ → Object_step
object_step place old new = record { place = place; old = old; new = new }

-- Caller 0 announces, and raises the object word from 0 to 3 and to 6; caller 1 announces, and
-- raises it to 9; then caller 0 begins its view's scan with the reply 3.
abbrev pub object_steps_made : List Step
object_steps_made =
    announcement 0 5 (0 ∷ 0 ∷ [])
    ++ by 0 (Object (object_step 0 0 3))
    ∷ by 0 (Object (object_step 0 3 6))
    ∷ announcement 1 6 (1 ∷ 0 ∷ [])
    ++ by 1 (Object (object_step 0 6 9))
    ∷ by 0 (Look N 0 1 (Begins_view 3))
    ∷ []

-- An object whose reply is ten times the operation, and whose list never changes.
abbrev pub tenfold : SeqSpec
tenfold = record { init = []; next = λ list operation. (list, operation * 10) }

-- An object whose reply is always 0, and whose list never changes.
abbrev pub silent : SeqSpec
silent = record { init = []; next = λ list operation. (list, 0) }
