-- Values for which the definitions of the world hold, or fail because of one part alone.
use Rattle.std.specs.Prelude.{ℕ, ◌+◌, ◌*◌, ◌^◌, Bool, true, List, [], ◌∷◌, ◌++◌, map, replicate, Some}
use Rattle.book_base.specs.Book.{Page}
use Rattle.world_core.specs.declared.region.Region.{Region}
use Rattle.world_core.specs.declared.region.Region.TheVariants.{N, M}
use Rattle.world_core.specs.Shape.{Shape}
use Rattle.world_core.specs.Programs.{scrap}
use Rattle.world_core.specs.Local.{Phase, Announcing, Asking, Viewing, Publishing, Judging, Local, fresh, Scan, Staged, Given, Looked, Peeked}
use Rattle.world_core.specs.Event.{Purpose, purpose_of, Stage, Look, Begins_none, Begins_scan, Begins_view}
use Rattle.world_core.specs.World.{World, Step}
use Rattle.world_core.specs.Snapshot.{ScanSpan}
use Rattle.world_examples.specs.Schedules.{by, scan, announcement, publication, single, local_after_all}

-- The five phases of a call, in order.
abbrev pub phases : List Phase
phases = Announcing ∷ Asking ∷ Viewing ∷ Publishing ∷ Judging ∷ []

-- A scan of a region, the view's or another, that has taken no word.
abbrev pub scan_of : Region → Bool → Scan
scan_of region is_view = record { region = region; is_view = is_view; since = 0; taken = [] }

-- A word as staged at a place.
abbrev pub staged_word : ℕ → ℕ → Staged
staged_word place word = record { place = place; word = word }

-- What the cut of a scan becomes in each of the five phases (the cut to embed, the view, the seen
-- cut, or nothing), given the staged words, the scan's region, and whether it is the view's scan.
abbrev pub purposes : List Staged → Region → Bool → List Purpose
purposes staged region is_view = map (λ p. purpose_of p staged (scan_of region is_view)) phases

-- A look at the count of a caller in N that found this count.
abbrev pub look_at : ℕ → ℕ → Looked
look_at caller count = record { region = N; caller = caller; count = count }

-- A local with three looks, of which the newest found the count 0 of caller 1, the middle one the
-- count 2 of caller 0, and the oldest the count 0 of caller 0.
abbrev pub with_looks : Local
with_looks = record fresh { looked = look_at 1 0 ∷ look_at 0 2 ∷ look_at 0 0 ∷ [] }

-- A local with two cuts that scans gave: first the cut 2 0 of N, and then the cut 0 1 of M.
abbrev pub with_cuts : Local
with_cuts = record fresh {
  cuts = record { region = N; cut = 2 ∷ 0 ∷ []; since = 0 }
      ∷ record { region = M; cut = 0 ∷ 1 ∷ []; since = 0 } ∷ [];
}

-- A local in the phase publish whose row under way in M is the second one, which a cap of 1 doesn't
-- have.
abbrev pub rowless : Local
rowless = record fresh { phase = Publishing; announced = 2; published = 1 }

-- A span with these steps before the first, this first step and these steps between, whose last
-- step is a look of caller 0 at its count in N that finds 1.
abbrev pub span_to_look : List Step → Step → List Step → ScanSpan
span_to_look before first between = record {
  before = before;
  first = first;
  between = between;
  last = by 0 (Look N 0 1 Begins_none);
}

-- A span whose first look finds a count that the table doesn't have.
abbrev pub span_of_no_run : ScanSpan
span_of_no_run = span_to_look [] (by 0 (Look N 0 1 Begins_scan)) []

-- A span whose first step begins no scan, since the scan began in a step before.
abbrev pub span_begun_before : ScanSpan
span_begun_before = span_to_look (announcement 0 5 (0 ∷ []) ++ by 0 (Look N 0 1 Begins_scan) ∷ [])
    (by 0 (Look M 0 0 Begins_none)) []

-- A span in which the scan is given up for another one.
abbrev pub span_given_up : ScanSpan
span_given_up = span_to_look (announcement 0 5 (0 ∷ [])) (by 0 (Look N 0 1 Begins_scan))
    (by 0 (Look N 0 1 Begins_scan) ∷ [])

-- The cut of N with the one count 1, given by a scan before which its caller had looked at this
-- many counts.
abbrev pub given_since : ℕ → Given
given_since since = record { region = N; cut = 1 ∷ []; since = since }

-- The shape of a world without callers and with one object word.
abbrev pub nobody : Shape
nobody = record { callers = 0; cap = 1; program = scrap }

-- A world without callers whose one word isn't 0.
abbrev pub stepped : World
stepped = record { words = 7 ∷ []; locals = [] }

-- A peek at a place of a region in a row of a caller that found this word.
abbrev pub peek_of : Region → ℕ → ℕ → ℕ → ℕ → Peeked
peek_of region caller row place word =
    record { region = region; caller = caller; row = row; place = place; word = word }

-- The fresh local, but with these peeks.
abbrev pub with_peeks : List Peeked → Local
with_peeks peeked = record fresh { peeked = peeked }

-- The peek of the low word of the operation in the first row of the caller that is alone.
abbrev pub low_peek : Peeked
low_peek = peek_of N 0 0 0 5

-- The peek of the high word of the operation in the first row of the caller that is alone.
abbrev pub high_peek : Peeked
high_peek = peek_of N 0 0 1 7

-- The peek of the reply in the first row of the caller that is alone.
abbrev pub reply_peek : Peeked
reply_peek = peek_of M 0 0 0 50

-- The peek of the view's entry in the first row of the caller that is alone, which found this
-- count.
abbrev pub entry_peek : ℕ → Peeked
entry_peek count = peek_of M 0 0 1 count

-- A local that has peeked all four words of the first call, with this count as the view's entry,
-- and both words of the operation of a second call.
abbrev pub lacking_none : ℕ → Local
lacking_none count = with_peeks (low_peek ∷ high_peek ∷ reply_peek ∷ entry_peek count
    ∷ peek_of N 0 1 0 6 ∷ peek_of N 0 1 1 0 ∷ [])

-- A local that has peeked all words of the first call but the low word of the operation.
abbrev pub lacking_low : Local
lacking_low = with_peeks (high_peek ∷ reply_peek ∷ entry_peek 1 ∷ [])

-- A local that has peeked all words of the first call but the high word of the operation.
abbrev pub lacking_high : Local
lacking_high = with_peeks (low_peek ∷ reply_peek ∷ entry_peek 1 ∷ [])

-- A local that has peeked all words of the first call but the reply.
abbrev pub lacking_reply : Local
lacking_reply = with_peeks (low_peek ∷ high_peek ∷ entry_peek 1 ∷ [])

-- A local that has peeked all words of the first call but the view's entry.
abbrev pub lacking_entry : Local
lacking_entry = with_peeks (low_peek ∷ high_peek ∷ reply_peek ∷ [])

-- A page with these operations and one record, of the reply 50 and this view.
abbrev pub page_of_one : List ℕ → List ℕ → Page
page_of_one operations view =
    record { operations = operations; records = record { reply = 50; view = view } ∷ [] }

-- The operation with the low word 5 and the high word 7.
abbrev pub operation_alone : ℕ
operation_alone = 5 + 7 * 2 ^ 64

-- The book of one caller with one answered call, whose view holds this call.
abbrev pub book_alone : List Page
book_alone = page_of_one (operation_alone ∷ []) (1 ∷ []) ∷ []

-- The book of the one answered call with a second page, which has no call.
abbrev pub book_of_another : List Page
book_of_another =
    page_of_one (operation_alone ∷ []) (1 ∷ []) ∷ record { operations = []; records = [] } ∷ []

-- The book of the one answered call with a second call, which no view holds.
abbrev pub book_unheld : List Page
book_unheld = page_of_one (operation_alone ∷ 6 ∷ []) (1 ∷ []) ∷ []

-- A book of one call whose view holds a second call, which the book doesn't have.
abbrev pub book_lacking : List Page
book_lacking = page_of_one (operation_alone ∷ []) (2 ∷ []) ∷ []

-- A book of one caller with a view of two counts.
abbrev pub book_too_wide : List Page
book_too_wide = page_of_one (operation_alone ∷ []) (1 ∷ 0 ∷ []) ∷ []

-- The caller that is alone announces the operation 5, takes its view, scans M, and stages its
-- reply.
abbrev pub reply_staged : List Step
reply_staged = announcement 0 5 (0 ∷ []) ++ scan 0 N (Begins_view 50) (1 ∷ [])
    ++ scan 0 M Begins_scan (0 ∷ []) ++ by 0 (Stage M 0 50) ∷ []

-- The caller that is alone announces the operation 5, takes its view, and publishes its record.
abbrev pub published_alone : List Step
published_alone = announcement 0 5 (0 ∷ []) ++ scan 0 N (Begins_view 50) (1 ∷ [])
    ++ publication 0 50 (1 ∷ []) (0 ∷ [])

-- A local in the phase announce that has announced one call and published no record; the lengths of
-- its lists fit these counts.
abbrev pub uncounted : Local
uncounted = record fresh {
  announced = 1;
  operations = 5 ∷ [];
  embedded_in_N = (0 ∷ []) ∷ [];
  object_steps = [] ∷ [];
}

-- A local in the phase ask that has announced two calls, where the cap is 1; all words of these
-- calls are 0.
abbrev pub crowded : Local
crowded =
    record fresh {
      operations = 0 ∷ 0 ∷ [];
      announced = 2;
      published = 1;
      replies = 0 ∷ [];
      views = (0 ∷ []) ∷ [];
      seen = (0 ∷ []) ∷ [];
      embedded_in_N = (0 ∷ []) ∷ (0 ∷ []) ∷ [];
      embedded_in_M = (0 ∷ []) ∷ [];
      object_steps = [] ∷ [] ∷ [];
      phase = Asking;
    }

-- The local of a caller that is alone, in the phase ask of its first call, with the operation 5.
abbrev pub asking_alone : Local
asking_alone = local_after_all single (announcement 0 5 (0 ∷ [])) 0

-- The local `asking_alone`, but with a staged word.
abbrev pub asking_staged : Local
asking_staged = record asking_alone { staged = staged_word 0 0 ∷ [] }

-- The local `asking_alone`, but with a cut to embed.
abbrev pub asking_embeds : Local
asking_embeds = record asking_alone { to_embed = Some (0 ∷ []) }

-- The local `asking_alone`, but with the view's scan under way.
abbrev pub asking_views : Local
asking_views = record asking_alone { scan = Some (scan_of N true) }

-- A local that has staged a word of its second row of N, which a cap of 1 doesn't have.
abbrev pub staged_past : Local
staged_past = record fresh { announced = 1; staged = staged_word 0 0 ∷ [] }

-- A local that has staged a word at place 3 of N, which a row of one caller doesn't have.
abbrev pub staged_beside : Local
staged_beside = record fresh { staged = staged_word 3 0 ∷ []; to_embed = Some (0 ∷ []) }

-- A local that has staged 5 at place 2 of N, where the entry of the cut to embed is 0.
abbrev pub staged_entry : Local
staged_entry = record fresh { staged = staged_word 2 5 ∷ []; to_embed = Some (0 ∷ []) }

-- A local that has staged 5 at place 0 of N.
abbrev pub staged_low : Local
staged_low = record fresh { staged = staged_word 0 5 ∷ [] }

-- Eight words 0, as many as the table of the caller that is alone has: two counts, the three places
-- of its row in N, and the three in M.
abbrev pub no_words : List ℕ
no_words = replicate 8 0

-- The words that a scan by caller 1 of two callers takes where caller 0 moves twice and its row
-- embeds the cut 0 0: three collects, and two peeked entries.
abbrev pub lent_words : List ℕ
lent_words = 0 ∷ 0 ∷ 1 ∷ 0 ∷ 2 ∷ 0 ∷ 0 ∷ 0 ∷ []
