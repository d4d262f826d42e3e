-- The words of the lines after a refutation's title.
use Rattle.std.specs.Prelude.{◌≡◌, ℕ, ◌-◌, ◌<◌, ◌⊎◌, ◌^◌, true, false, List, [], ◌∷◌, length, map, decimal, codes, slice_index}
use Rattle.std.specs.List.{AllByRecursion, flat_map}
use Rattle.book_base.specs.declared.call.Call.{Call}
use Rattle.refutations.specs.declared.entry.Entry.{Entry}
use Rattle.pair_refutations.specs.declared.entry.Move.{Move}
use Rattle.pair_refutations.specs.declared.entry.Move.TheVariants.{Finds, Callers}
use Rattle.pair_refutations.specs.declared.entry.PairEntry.{PairEntry}
use Rattle.level_refutations.specs.Said as table
use Rattle.level_refutations.specs.Said.{EntrySaid}
use Rattle.text_fields.specs.declared.version.Version.TheVariants.{Second}
use Rattle.text_fields.specs.Counts.{AreNumbers, pair_words}
use Rattle.text_fields.specs.Head.{title_words}
use Rattle.book_text.specs.CallLines.{place_words}
use Rattle.book_text.specs.Grammar.{end_words}
use Rattle.certificate_text.specs.Grammar.{IsNamed}
use Rattle.refutation_text.specs.declared.TheConstants.{STEP_CALLERS}
use Rattle.refutation_text.specs.Said.{At, Keys, Leave, LineSaid, StepLine, ImpossibleLine, TakesLine, FindLine, PlainLine, PairsLine, LevelsLine, ItemLine, MoveLine, TableLine, EndLine, Keep}

-- the title of a refutation, which is the line after the book's lines
abbrev pub refutation_words : List (List ℕ)
refutation_words = title_words Second (codes "refutation")

-- counts that a line can say: one for each of 16 callers, each below 2^64
abbrev pub AreCounts : List ℕ → Type 0
AreCounts counts = (length counts ≡ STEP_CALLERS) × AreNumbers counts

-- an entry that a line can say
abbrev pub IsEntry : Entry → Type 0
IsEntry entry = (entry.item < 2 ^ 64) × (entry.caller < 2 ^ 64)

-- a move that a line can say
abbrev pub IsMove : Move → Type 0
IsMove Finds = Unit {0}
IsMove (Callers i j) = (i < 2 ^ 64) × (j < 2 ^ 64)

-- the words of a move
abbrev pub move_words : Move → List (List ℕ)
move_words Finds = codes "find" ∷ []
move_words (Callers i j) = decimal i ∷ decimal j ∷ []

-- an entry that makes a standing, where a line can say it
abbrev pub IsPairEntry : PairEntry → Type 0
IsPairEntry entry = (entry.item < 2 ^ 64) × IsMove entry.by

-- the words of an entry that makes a standing
abbrev pub pair_entry_words : PairEntry → List (List ℕ)
pair_entry_words entry = decimal entry.item ∷ move_words entry.by

-- numbers that a line can say, of which there is at least one
abbrev pub AreSome : List ℕ → Type 0
AreSome numbers = (0 < length numbers) × AreNumbers numbers

-- an entry of a table of levels, where a line can say it
abbrev pub IsTableEntry : EntrySaid → Type 0
IsTableEntry (table.Cut p i) = (p < 2 ^ 64) × (i < 2 ^ 64)
IsTableEntry (table.Level v below) = (v < 2 ^ 32) × AreSome below
IsTableEntry (table.At l cuts) = (l < 2 ^ 64) × AreSome cuts

-- the words of an entry of a table of levels
abbrev pub table_words : EntrySaid → List (List ℕ)
table_words (table.Cut p i) = codes "cut" ∷ decimal p ∷ decimal i ∷ []
table_words (table.Level v below) = codes "level" ∷ decimal v ∷ map decimal below
table_words (table.At l cuts) = codes "at" ∷ decimal l ∷ map decimal cuts

-- the value at a place is below 2^32, and above the one before
abbrev pub IsValueAt : List ℕ → ℕ → Type 0
IsValueAt values k = (slice_index values k < 2 ^ 32)
    × ((k ≡ 0) ⊎ (slice_index values (k - 1) < slice_index values k))

-- values that a line can say: at least one, rising, and each below 2^32
pub record AreValues (values : List ℕ) : Type 0 where
  pub some : 0 < length values
  pub each : (k : ℕ) → k < length values → IsValueAt values k

-- a caller and a number that a line can say, where both are any numbers
abbrev pub IsAnyCall : Call → Type 0
IsAnyCall call = (call.caller < 2 ^ 64) × (call.number < 2 ^ 64)

-- the words of a line that begins with `counts takes`
abbrev pub takes_words : ℕ → ℕ → List (List ℕ)
takes_words value moment =
    codes "counts" ∷ codes "takes" ∷ decimal value ∷ decimal moment ∷ []

-- the words of a line that begins with `counts find`
abbrev pub find_words : Call → List ℕ → List (List ℕ)
find_words call values = codes "counts" ∷ codes "find" ∷ decimal call.caller
    ∷ decimal call.number ∷ map decimal values

-- what a line can say
abbrev pub MaySay : LineSaid → Type 0
MaySay (StepLine (At counts)) = AreCounts counts
MaySay (StepLine (Keys these keys)) = AreNumbers keys
MaySay (StepLine (Leave call)) = IsNamed call
MaySay (StepLine (Keep calls)) = AllByRecursion IsNamed calls
MaySay (ImpossibleLine call) = IsNamed call
MaySay (TakesLine value moment) = (value < 2 ^ 32) × (moment < 2 ^ 64)
MaySay (FindLine call values) = IsAnyCall call × AreValues values
MaySay PlainLine = Unit {0}
MaySay PairsLine = Unit {0}
MaySay LevelsLine = Unit {0}
MaySay (ItemLine entry) = IsEntry entry
MaySay (MoveLine entry) = IsPairEntry entry
MaySay (TableLine entry) = IsTableEntry entry
MaySay EndLine = Unit {0}

-- the words of a line
abbrev pub line_words : LineSaid → List (List ℕ)
line_words (StepLine (At counts)) = codes "at" ∷ pair_words 0 counts
line_words (StepLine (Keys true keys)) = codes "without" ∷ map decimal keys
line_words (StepLine (Keys false keys)) = codes "only" ∷ map decimal keys
line_words (StepLine (Leave call)) = codes "leave" ∷ place_words call
line_words (StepLine (Keep calls)) = codes "keep" ∷ flat_map place_words calls
line_words (ImpossibleLine call) = codes "impossible" ∷ place_words call
line_words (TakesLine value moment) = takes_words value moment
line_words (FindLine call values) = find_words call values
line_words PlainLine = codes "closed" ∷ codes "plain" ∷ []
line_words PairsLine = codes "closed" ∷ codes "pairs" ∷ []
line_words LevelsLine = codes "closed" ∷ codes "levels" ∷ []
line_words (ItemLine entry) = decimal entry.item ∷ decimal entry.caller ∷ []
line_words (MoveLine entry) = pair_entry_words entry
line_words (TableLine entry) = table_words entry
line_words EndLine = end_words

-- the words are the line that says this
pub record IsLine (words : List (List ℕ)) (line : LineSaid) : Type 0 where
  pub may : MaySay line
  pub text : words ≡ line_words line
