-- The six kinds of event, each of which is one atomic step of one caller: where an event is
-- allowed, and what it does to the words of the table and to its caller's local.
use Rattle.std.specs.Prelude.{ℕ, zero, suc, ◌+◌, ◌^◌, Bool, true, false, not, ◌&&◌, ◌||◌, ◌==◌, nat_lt, if◌then◌else◌, List, [], ◌∷◌, ◌++◌, length, Option, Some, None, slice_index, slice_set}
use Rattle.std.specs.List.{list_any}
use Rattle.std.specs.Option.{unwrap_or}
use Rattle.book_base.specs.OperationWord.{joined}
use Rattle.world_core.specs.declared.region.Region.{Region}
use Rattle.world_core.specs.declared.region.Region.TheVariants.{N, M}
use Rattle.world_core.specs.declared.want.Want.{Want}
use Rattle.world_core.specs.declared.want.Want.TheVariants.{Look as Wants_look, Peek as Wants_peek, Done}
use Rattle.world_core.specs.Layout.{Content, Low, High, View_entry, Embedded_entry, places, content, embedded_place, count_index, place_index, object_index}
use Rattle.world_core.specs.Shape.{Shape}
use Rattle.world_core.specs.Scan.{wanted, first_caller}
use Rattle.world_core.specs.Local.{Phase, Announcing, Asking, Viewing, Publishing, Judging, Staged, Scan, Given, Looked, Peeked, Object_step, Local, own_count, word_of, with_step}

-- What a look begins: nothing; a scan that isn't the view's; or the view's scan, in which case the
-- look carries the reply that the object gave.
pub data Opening : Type 0 where
  Begins_none : Opening
  Begins_scan : Opening
  Begins_view : (reply : ℕ) → Opening

-- An event of a caller. Stage puts a word at a place of the caller's row under way in a region;
-- Announce raises its count in N by 1, and Publish its count in M; Object makes a step on an object
-- word; Look loads the count word of caller j in a region; and Peek loads the word at a place of a
-- region in a row of caller j.
pub data Event : Type 0 where
  Stage : (region : Region) (place word : ℕ) → Event
  Announce : Event
  Object : (step : Object_step) → Event
  Look : (region : Region) (j word : ℕ) (opening : Opening) → Event
  Peek : (region : Region) (j row place word : ℕ) → Event
  Publish : Event

-- Whether two regions are equal.
abbrev pub is_same_region : Region → Region → Bool
is_same_region N N = true
is_same_region M M = true
is_same_region _ _ = false

-- Whether a number is below 2^64, as each word of the table is.
abbrev pub is_word : ℕ → Bool
is_word x = nat_lt x (2 ^ 64)

-- Whether words of a region are staged in a phase: words of N in the phase announce, words of M in
-- the phase publish, and no words in other phases.
abbrev pub is_staging : Phase → Region → Bool
is_staging Announcing N = true
is_staging Publishing M = true
is_staging _ _ = false

-- Whether x is the entry for caller j of the cut to embed; false where there is no cut to embed.
abbrev pub is_entry_to_embed : Option (List ℕ) → ℕ → ℕ → Bool
is_entry_to_embed None j x = false
is_entry_to_embed (Some cut) j x = x == slice_index cut j

-- Whether x belongs at a place of the row under way, given what the place is for: the low and the
-- high word of the operation may be any words; an entry of the embedded cut is that of the cut to
-- embed; and the reply and the view's entries are those of the call under way, whose number is the
-- count of published records.
abbrev pub is_due : Local → Content → ℕ → Bool
is_due l Low x = is_word x
is_due l High x = is_word x
is_due l (Embedded_entry region j) x = is_entry_to_embed l.to_embed j x
is_due l part x = x == word_of l l.published part

-- Whether a word is staged at a place.
abbrev pub is_staged : List Staged → ℕ → Bool
is_staged staged place = list_any (λ (w : Staged). w.place == place) staged

-- Whether a word is staged at each place below a number.
abbrev pub are_staged : List Staged → ℕ → Bool
are_staged staged zero = true
are_staged staged (suc p) = is_staged staged p && are_staged staged p

-- Whether the phase of a local stages words of a region, and a word is staged at each place that a
-- row has there, with n callers.
abbrev pub is_row_staged : ℕ → Local → Region → Bool
is_row_staged n l region = is_staging l.phase region && are_staged l.staged (places n region)

-- The word that was staged last at a place, or 0 where no word was staged there.
abbrev pub staged_at : List Staged → ℕ → ℕ
staged_at [] place = 0
staged_at (w ∷ ws) place = if w.place == place then w.word else staged_at ws place

-- The operation that was staged: its low word is the one at place 0, and its high word the one at
-- place 1.
abbrev pub staged_operation : List Staged → ℕ
staged_operation staged = joined (staged_at staged 0) (staged_at staged 1)

-- Whether a scan is under way and is the view's.
abbrev pub is_view_under_way : Option Scan → Bool
is_view_under_way None = false
is_view_under_way (Some scan) = scan.is_view

-- Whether the phase is ask: the call under way is announced, and no look has carried its reply yet.
abbrev pub is_asking : Phase → Bool
is_asking Asking = true
is_asking _ = false

-- Whether a look of caller `me` at the count of caller j in a region may begin what its opening
-- says. Every look may begin nothing. A look may begin a scan that isn't the view's where j is the
-- first caller and the view's scan isn't under way. It may begin the view's scan where j is the
-- first caller, the region is N, the phase is ask, and the reply is a word that the program allows.
abbrev pub may_begin : Shape → ℕ → Local → Region → ℕ → Opening → Bool
may_begin s me l region j Begins_none = true
may_begin s me l region j Begins_scan = j == first_caller && not (is_view_under_way l.scan)
may_begin s me l region j (Begins_view reply) =
    j == first_caller && (is_same_region region N
    && (is_asking l.phase && (is_word reply && s.program.may_reply me l reply)))

-- Whether a place with this content is for the view's entry for caller j.
abbrev pub is_view_entry : Content → ℕ → Bool
is_view_entry (View_entry i) j = i == j
is_view_entry _ j = false

-- Whether a caller knows that row k of caller j is counted in a region, by a number above k: a
-- count of j in that region that it looked at; the entry for j of a cut that a scan of that region
-- gave it; or, in N, the entry for j of a view that it peeked from a row of M.
abbrev pub knows_row : ℕ → Local → Region → ℕ → ℕ → Bool
knows_row n l region j k =
    list_any (λ (look : Looked). is_same_region look.region region
    && (look.caller == j && nat_lt k look.count)) l.looked
    || (list_any (λ (given : Given). is_same_region given.region region
    && nat_lt k (slice_index given.cut j)) l.cuts
    || (is_same_region region N && list_any (λ (p : Peeked). is_same_region p.region M
    && (is_view_entry (content n M p.place) j && nat_lt k p.word)) l.peeked))

-- Whether the condition of an event holds for caller `me` with this local. A stage needs a phase
-- that stages the region, a row below the cap, a place that the region has, and a word that belongs
-- there; an announcement needs a whole staged row of N, and a publication one of M; an object step
-- needs the phase ask, an object word at its place, a number below 2^64 to write, and a program
-- that allows the step; a look needs a caller with its number j, and an opening that it may begin;
-- and a peek needs a caller with its number j, a place that the region has, and a row that is known
-- to be counted. The condition speaks of the shape, the caller's number, its own local and the
-- event alone, and of no word of the table.
abbrev pub is_enabled : Shape → ℕ → Local → Event → Bool
is_enabled s me l (Stage region place x) =
    is_staging l.phase region && (nat_lt (own_count l region) s.cap
    && (nat_lt place (places s.callers region) && is_due l (content s.callers region place) x))
is_enabled s me l Announce = is_row_staged s.callers l N
is_enabled s me l (Object step) =
    is_asking l.phase
    && (nat_lt step.place s.program.objects && (is_word step.new && s.program.may_step me l step))
is_enabled s me l (Look region j x opening) =
    nat_lt j s.callers && may_begin s me l region j opening
is_enabled s me l (Peek region j k place x) = nat_lt j s.callers
    && (nat_lt place (places s.callers region) && knows_row s.callers l region j k)
is_enabled s me l Publish = is_row_staged s.callers l M

-- Whether `me` is the number of a caller, and the condition of the event holds for this caller.
abbrev pub is_allowed : Shape → ℕ → Local → Event → Bool
is_allowed s me l event = nat_lt me s.callers && is_enabled s me l event

-- Whether an event loads the word that the table has: as the old word of an object step, as the
-- count of a look, or as the word of a peek. A stage, an announcement and a publication load no
-- word, and for them the answer is yes.
abbrev pub is_loaded : Shape → List ℕ → Event → Bool
is_loaded s words (Object step) =
    step.old == slice_index words (object_index s.callers s.cap step.place)
is_loaded s words (Look region j x opening) =
    x == slice_index words (count_index s.callers region j)
is_loaded s words (Peek region j k place x) =
    x == slice_index words (place_index s.callers s.cap region j k place)
is_loaded s words (Stage region place x) = true
is_loaded s words Announce = true
is_loaded s words Publish = true

-- The words of the table after an event of caller `me`: a stage, an announcement, an object step
-- and a publication each write one word, and a look and a peek write no word.
abbrev pub words_after : Shape → ℕ → Local → List ℕ → Event → List ℕ
words_after s me l words (Stage region place x) =
    slice_set words (place_index s.callers s.cap region me (own_count l region) place) x
words_after s me l words Announce = slice_set words (count_index s.callers N me) (l.announced + 1)
words_after s me l words (Object step) =
    slice_set words (object_index s.callers s.cap step.place) step.new
words_after s me l words (Look region j x opening) = words
words_after s me l words (Peek region j k place x) = words
words_after s me l words Publish = slice_set words (count_index s.callers M me) (l.published + 1)

-- What the cut of a scan serves: the row under way, which is to embed it; the view, which it
-- becomes; the seen cut, which it becomes; or nothing.
pub data Purpose : Type 0 where
  For_row : Purpose
  For_view : Purpose
  For_seen : Purpose
  For_nothing : Purpose

-- Whether no word of the row under way is staged.
abbrev pub is_unstaged : List Staged → Bool
is_unstaged [] = true
is_unstaged (w ∷ ws) = false

-- What the cut of a scan serves, given the phase and the staged words where the scan ends. In the
-- phase announce a scan of N, and in the phase publish a scan of M, serves the row under way if no
-- word is staged; in the phase view the view's scan of N serves the view; in the phase judge a scan
-- of M serves the seen cut; and any other scan serves nothing.
abbrev pub purpose_of : Phase → List Staged → Scan → Purpose
purpose_of Announcing staged scan =
    if is_same_region scan.region N && is_unstaged staged then For_row else For_nothing
purpose_of Publishing staged scan =
    if is_same_region scan.region M && is_unstaged staged then For_row else For_nothing
purpose_of Viewing staged scan =
    if is_same_region scan.region N && scan.is_view then For_view else For_nothing
purpose_of Judging staged scan = if is_same_region scan.region M then For_seen else For_nothing
purpose_of Asking staged scan = For_nothing

-- The local after a cut has served its purpose: the cut becomes the one to embed; or it is added as
-- the last view, and the phase becomes publish; or it is added as the last seen cut, and the phase
-- becomes announce; or nothing changes.
abbrev pub served : Local → Purpose → List ℕ → Local
served l For_row cut = record l { to_embed = Some cut }
served l For_view cut = record l { views = l.views ++ cut ∷ []; phase = Publishing }
served l For_seen cut = record l { seen = l.seen ++ cut ∷ []; phase = Announcing }
served l For_nothing cut = l

-- A cut that a scan gave, noted with the scan's region, and with how many counts were looked at
-- before the scan began.
abbrev pub given_by : Scan → List ℕ → Given
given_by scan cut = record { region = scan.region; cut = cut; since = scan.since }

-- The local after its scan under way took a word, given what the scan needs next. A scan that is
-- done with a cut ends, and its cut is added to those that were given and serves its purpose. Any
-- other scan stays under way.
abbrev pub went_on : Local → Scan → Want → Local
went_on l scan (Done cut) =
    served (record l { scan = None; cuts = l.cuts ++ given_by scan cut ∷ [] })
    (purpose_of l.phase l.staged scan) cut
went_on l scan _ = record l { scan = Some scan }

-- Whether what a scan needs next is the look at the count of caller j.
abbrev pub is_look_wanted : ℕ → Want → Bool
is_look_wanted j (Wants_look i) = i == j
is_look_wanted j _ = false

-- Whether what a scan needs next is the peek at this place of a region in row k of caller j, where
-- the row has an entry of the cut that it embeds in that region.
abbrev pub is_peek_wanted : ℕ → Region → ℕ → ℕ → ℕ → Want → Bool
is_peek_wanted n region j k place (Wants_peek i row entry) =
    i == j && (row == k && embedded_place n region entry == place)
is_peek_wanted n region j k place _ = false

-- A scan once it has taken one more word.
abbrev pub with_word : Scan → ℕ → Scan
with_word scan x = record scan { taken = scan.taken ++ x ∷ [] }

-- The local after a word x of a region was loaded. The scan under way takes x where it is a scan of
-- that region and what it needs next passes the test `is_it`; where the scan is of the other
-- region, or what it needs fails the test, or no scan is under way, nothing changes.
abbrev pub fed : ℕ → Local → Option Scan → Region → (Want → Bool) → ℕ → Local
fed n l None region is_it x = l
fed n l (Some scan) region is_it x =
    if is_same_region scan.region region && is_it (wanted n scan.taken)
    then went_on l (with_word scan x) (wanted n (with_word scan x).taken)
    else l

-- The scan of a region that the local's caller is about to begin: it has taken no word.
abbrev pub begun : Local → Region → Bool → Scan
begun l region is_view =
    record { region = region; is_view = is_view; since = length l.looked; taken = [] }

-- The local once a look has begun what its opening says, and before it loads its count. A scan that
-- begins takes the place of one that was under way; and where the view's scan begins, the reply is
-- added to the replies, and the phase becomes view.
abbrev pub opened : Local → Region → Opening → Local
opened l region Begins_none = l
opened l region Begins_scan = record l { scan = Some (begun l region false) }
opened l region (Begins_view reply) = record l {
  replies = l.replies ++ reply ∷ [];
  phase = Viewing;
  scan = Some (begun l region true);
}

-- The local with one more count that its caller looked at.
abbrev pub with_look : Local → Looked → Local
with_look l look = record l { looked = look ∷ l.looked }

-- The local with one more word that its caller peeked.
abbrev pub with_peek : Local → Peeked → Local
with_peek l peek = record l { peeked = peek ∷ l.peeked }

-- The cut that the row under way is to embed, or the empty cut where there is no cut to embed.
abbrev pub cut_to_embed : Local → List ℕ
cut_to_embed l = unwrap_or l.to_embed []

-- The local after its caller loaded x as the count of caller j in a region: the look is noted, and
-- the scan under way takes x where it needs that look.
abbrev pub looked_at : ℕ → Local → Region → ℕ → ℕ → Local
looked_at n l region j x =
    let saw : Local = with_look l (record { region = region; caller = j; count = x }) in
    fed n saw saw.scan region (is_look_wanted j) x

-- The local after its caller loaded x as the word at a place of a region in row k of caller j: the
-- peek is noted, and the scan under way takes x where it needs that peek.
abbrev pub peeked_at : ℕ → Local → Region → ℕ → ℕ → ℕ → ℕ → Local
peeked_at n l region j k place x =
    let saw : Local =
    with_peek l (record { region = region; caller = j; row = k; place = place; word = x }) in
    fed n saw saw.scan region (is_peek_wanted n region j k place) x

-- The local of a caller after an event of its own. An announcement adds the staged operation to the
-- operations and an empty list to the object steps, and the phase becomes ask; after a publication
-- the phase is judge. Each of the two raises its count by 1 and adds the cut to embed to the
-- embedded cuts of its region; and after each of them there is no staged word, no cut to embed and
-- no scan under way. A stage, an object step, a look and a peek are noted. A look first begins what
-- its opening says, and the scan under way takes the word of a look or a peek that it needs.
abbrev pub local_after : ℕ → Local → Event → Local
local_after n l (Stage region place x) =
    record l { staged = record { place = place; word = x } ∷ l.staged }
local_after n l Announce =
    record l {
      operations = l.operations ++ staged_operation l.staged ∷ [];
      announced = l.announced + 1;
      embedded_in_N = l.embedded_in_N ++ cut_to_embed l ∷ [];
      object_steps = l.object_steps ++ [] ∷ [];
      phase = Asking;
      staged = [];
      to_embed = None;
      scan = None;
    }
local_after n l (Object step) =
    record l { object_steps = with_step l.object_steps l.published step }
local_after n l (Look region j x opening) = looked_at n (opened l region opening) region j x
local_after n l (Peek region j k place x) = peeked_at n l region j k place x
local_after n l Publish =
    record l {
      published = l.published + 1;
      embedded_in_M = l.embedded_in_M ++ cut_to_embed l ∷ [];
      phase = Judging;
      staged = [];
      to_embed = None;
      scan = None;
    }
