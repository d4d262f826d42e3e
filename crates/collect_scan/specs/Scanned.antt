-- What a scan of a region has found with the words that it took, and its caller's local during the
-- scan and after it (Afek and others 1993).
use Rattle.std.specs.Prelude.{◌≡◌, ℕ, ◌+◌, ◌*◌, ◌≤◌, Bool, true, false, List, [], ◌∷◌, ◌++◌, length, Some}
use Rattle.world_core.specs.declared.region.Region.{Region}
use Rattle.world_core.specs.declared.want.Want.{Want}
use Rattle.world_core.specs.declared.want.Want.TheVariants.{Look, Peek, Done}
use Rattle.world_core.specs.Layout.{embedded_place}
use Rattle.world_core.specs.Scan.{wanted}
use Rattle.world_core.specs.Local.{Scan, Looked, Peeked, Local}
use Rattle.world_core.specs.Event.{Opening, Begins_view, opened, went_on}

-- The counts that a scan has looked at, and the row words that it has peeked, each list newest
-- first.
pub record ScannedWords : Type 0 where
  pub looks : List Looked
  pub peeks : List Peeked

-- What a scan that has found `found` has found after one more word `x`: where it needed a look at a
-- caller, one more look, which found the count `x`; where it needed a peek into a row, one more
-- peeked word of the cut that the row embeds; and nothing more where it was done.
abbrev pub found_with : ℕ → Region → Want → ℕ → ScannedWords → ScannedWords
found_with n region (Look j) x found =
    record found { looks = record { region = region; caller = j; count = x } ∷ found.looks }
found_with n region (Peek j row entry) x found =
    record found {
      peeks = record {
        region = region;
        caller = j;
        row = row;
        place = embedded_place n region entry;
        word = x;
      } ∷ found.peeks;
    }
found_with n region (Done cut) x found = found

-- What a scan of a region of n callers has found once it takes these further words in turn, after
-- the words `taken`, with which it had found `found`: each further word is that of the look or peek
-- that the scan needed when it took the word.
abbrev pub found_from : ℕ → Region → List ℕ → ScannedWords → List ℕ → ScannedWords
found_from n region taken found [] = found
found_from n region taken found (x ∷ words) =
    found_from n region (taken ++ x ∷ []) (found_with n region (wanted n taken) x found) words

-- What a scan of a region of n callers has found, from its beginning, with the words that it has
-- taken.
abbrev pub found_by : ℕ → Region → List ℕ → ScannedWords
found_by n region taken = found_from n region [] (record { looks = []; peeks = [] }) taken

-- Whether this opening begins the view's scan, the one that begins with a reply.
abbrev pub is_view_opening : Opening → Bool
is_view_opening (Begins_view reply) = true
is_view_opening _ = false

-- The scan of a region that began on the local `before` with this opening, and has taken these
-- words.
abbrev pub scan_with : Local → Region → Opening → List ℕ → Scan
scan_with before region opening taken =
    record {
      region = region;
      is_view = is_view_opening opening;
      since = length before.looked;
      taken = taken;
    }

-- A caller's local during a scan that began on the local `before` with this opening and has taken
-- these words: the scan is under way, and what it has found is among what the caller has looked at
-- and peeked.
abbrev pub local_in_scan : ℕ → Local → Region → Opening → List ℕ → Local
local_in_scan n before region opening taken =
    let found : ScannedWords = found_by n region taken in
    record (opened before region opening) {
      scan = Some (scan_with before region opening taken);
      looked = found.looks ++ before.looked;
      peeked = found.peeks ++ before.peeked;
    }

-- A caller's local after a scan that began on the local `before` with this opening, took these
-- words and ended with this cut: no scan is under way, the cut is the last one that was given, and
-- it has served the purpose that `purpose_of` says.
abbrev pub local_after_scan : ℕ → Local → Region → Opening → List ℕ → List ℕ → Local
local_after_scan n before region opening taken cut =
    went_on (local_in_scan n before region opening taken)
    (scan_with before region opening taken) (Done cut)

-- A caller's local once a scan, which began on the local `before` with this opening, has taken
-- these words: the local during the scan where it needs a further word, and the local after the
-- scan where it is done.
abbrev pub local_stood : ℕ → Local → Region → Opening → List ℕ → Local
local_stood n before region opening taken =
    went_on (local_in_scan n before region opening taken) (scan_with before region opening taken)
    (wanted n taken)

-- The most words that a scan of n callers may take: those of n + 1 collects with n looks each, and
-- the n entries of an embedded cut.
abbrev pub most_words : ℕ → ℕ
most_words n = n * (n + 1) + n

-- The local `after` is the local `before`, changed by one scan of the region and no other event of
-- the caller: the scan began with this opening, took no more words than a scan of n callers may
-- take, and ended with this cut.
pub record HasScanned (n : ℕ) (region : Region) (opening : Opening) (cut : List ℕ)
    (before after : Local) : Type 0 where
  pub taken : List ℕ
  pub done : wanted n taken ≡ Done cut
  pub few : length taken ≤ most_words n
  pub is : after ≡ local_after_scan n before region opening taken cut

-- The local `after` is the local `before`, changed by one scan as `HasScanned` says, and the
-- counter of steps has risen from `first` to `last` by the number of words that this scan took.
pub record HasTicked (n : ℕ) (region : Region) (opening : Opening) (cut : List ℕ)
    (before after : Local) (first last : ℕ) : Type 0 where
  pub scanned : HasScanned n region opening cut before after
  pub ticks : last ≡ first + length scanned.taken
