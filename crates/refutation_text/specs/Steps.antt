-- What part of a book each step of a refutation leaves, and when a step can't be made.
use Rattle.std.specs.Prelude.{◌≡◌, ℕ, zero, suc, ◌<◌, ◌≤◌, min, Bool, true, false, not, ◌&&◌, ◌==◌, List, length, map, filter, Some, slice_get, slice_index}
use Rattle.std.specs.List.{list_any, range_with_len}
use Rattle.book_base.specs.declared.call.Call.{Call}
use Rattle.book_base.specs.Book.{Page, IsCall, IsValid, calls_of, answers_of}
use Rattle.book_base.specs.BookAt.{IsBookAt}
use Rattle.book_base.specs.Pruning.{HasOneOpen}
use Rattle.seq_objects.specs.declared.kind.Kind.{Kind}
use Rattle.seq_objects.specs.Objects.{kind_next}
use Rattle.smaller_book.specs.Part.{numbers_of, count_below, original, IsPart, KeepsAnswers}
use Rattle.smaller_book.specs.Numbers.{composed}
use Rattle.smaller_book.specs.Keys.{all_without}
use Rattle.smaller_book.specs.Earliest.{all_numbers}
use Rattle.smaller_book.specs.Minimal.{all_but}
use Rattle.smaller_book.specs.ReadOnly.{IsReadOnly}
use Rattle.smaller_book.specs.Settings.{LacksOnlyUnseen}
use Rattle.refutation_text.specs.declared.part_steps.StepFault.{StepFault}
use Rattle.refutation_text.specs.declared.part_steps.StepFault.TheVariants.{Lacks, Open, Changes}
use Rattle.refutation_text.specs.Said.{StepSaid, At, Keys, Leave, Keep}

-- Numbers of calls of a whole book go with a part of it: a list for each caller of the part, with a
-- number for each of the caller's calls.
pub record AreNamesOf (names : List (List ℕ)) (part : List Page) : Type 0 where
  pub valid : IsValid part
  pub wide : length names ≡ length part
  pub inside : (i k : ℕ) → IsCall part (record { caller = i; number = k })
      → k < length (numbers_of names i)

-- a call of a part is, in the whole book, the one that is named
pub record IsCalled (names : List (List ℕ)) (part : List Page) (named call : Call) : Type 0 where
  pub inside : IsCall part call
  pub is : original names call ≡ named

-- Each of these calls of the book is in the part.
abbrev pub AreCalled : List (List ℕ) → List Page → List Call → Type 0
AreCalled names part calls = (k : ℕ) (named : Call) → slice_get calls k ≡ Some named
    → (call : Call) × IsCalled names part named call

-- whether a call is one of these
abbrev pub is_listed : List Call → Call → Bool
is_listed calls call =
    list_any (λ other. other.caller == call.caller && other.number == call.number) calls

-- the numbers in a part of those calls of a caller that are, in the book, among these
abbrev pub row_listed : List (List ℕ) → List Call → List Page → ℕ → List ℕ
row_listed names calls part i =
    filter (λ number. is_listed calls (original names (record { caller = i; number = number })))
    (range_with_len 0 (calls_of part i))

-- for each caller of a part the numbers in it of those calls that are, in the book, among these
abbrev pub all_listed : List (List ℕ) → List Call → List Page → List (List ℕ)
all_listed names calls part = map (row_listed names calls part) (range_with_len 0 (length part))

-- the keys whose calls go: those of a list, or all others
abbrev pub keys_gone : Bool → List ℕ → ℕ → Bool
keys_gone true keys key = list_any (λ other. other == key) keys
keys_gone false keys key = not (list_any (λ other. other == key) keys)

-- The cut of a part that holds the answered calls whose numbers in the book are below the counts.
pub record IsCutOf (names : List (List ℕ)) (part : List Page) (counts cut : List ℕ) : Type 0 where
  pub wide : length cut ≡ length part
  pub count : (i : ℕ) → slice_index cut i
      ≡ min (count_below (numbers_of names i) (slice_index counts i)) (answers_of part i)

-- a count above 0 is that of a caller whom the book lacks
abbrev pub HasFurther : List Page → List ℕ → Type 0
HasFurther part counts = (i : ℕ) × (length part ≤ i) × (0 < slice_index counts i)

-- A part of a part has the calls at these places, answered where they were answered.
pub record HasPlaces (part : List Page) (places : List (List ℕ)) (left : List Page) : Type 0 where
  pub is_part : IsPart part places left
  pub answers : KeepsAnswers part places left

-- A step leaves a part of a part, with the calls that are at these places there; `names` are the
-- numbers in the book of the calls of the part before.
abbrev pub IsStep : Kind → List (List ℕ) → List Page → StepSaid → List (List ℕ) → List Page → Type 0
IsStep kind names part (At counts) places left = (HasFurther part counts → ⊥)
    × ((cut : List ℕ) × IsCutOf names part counts cut × IsBookAt part cut left)
    × (places ≡ all_numbers left)
IsStep kind names part (Keys these keys) places left = HasOneOpen part
    × (places ≡ all_without kind (keys_gone these keys) part) × HasPlaces part places left
IsStep kind names part (Leave named) places left = (call : Call)
    × IsCalled names part named call × IsReadOnly (kind_next kind) part call
    × (places ≡ all_but part call) × HasPlaces part places left
IsStep kind names part (Keep calls) places left = AreCalled names part calls
    × LacksOnlyUnseen kind part (all_listed names calls part)
    × (places ≡ all_listed names calls part) × HasPlaces part places left

-- a step leaves a valid part, with the numbers that its calls have in the book
abbrev pub Leaves : Kind → List (List ℕ) → List Page → StepSaid → List (List ℕ) → List Page → Type 0
Leaves kind names part step after left = (places : List (List ℕ))
    × IsStep kind names part step places left × (after ≡ composed names places) × IsValid left

-- A step of a part can't be made, for this reason.
abbrev pub StepFails : Kind → List (List ℕ) → List Page → StepSaid → StepFault → Type 0
StepFails kind names part (At counts) Lacks = HasFurther part counts
StepFails kind names part (Keys these keys) Open = HasOneOpen part → ⊥
StepFails kind names part (Leave named) Lacks =
    (call : Call) → IsCalled names part named call → ⊥
StepFails kind names part (Leave named) Changes = (call : Call)
    × IsCalled names part named call × (IsReadOnly (kind_next kind) part call → ⊥)
StepFails kind names part (Keep calls) Lacks = AreCalled names part calls → ⊥
StepFails kind names part (Keep calls) Changes = AreCalled names part calls
    × (LacksOnlyUnseen kind part (all_listed names calls part) → ⊥)
StepFails kind names part step why = ⊥

-- The first steps, as many as the count says, leave a part of a book, one after another; these are
-- the numbers that its calls have in the book.
abbrev pub LeaveAfter : Kind → List Page → List StepSaid → ℕ → List (List ℕ) → List Page → Type 0
LeaveAfter kind book steps zero names part =
    IsValid book × (names ≡ all_numbers book) × (part ≡ book)
LeaveAfter kind book steps (suc s) names part = (step : StepSaid) × (before : List (List ℕ))
    × (whole : List Page) × (slice_get steps s ≡ Some step)
    × LeaveAfter kind book steps s before whole × Leaves kind before whole step names part

-- The step with this number, counted from 0, can't be made, for this reason; all before it can.
pub record IsFirstStepFault (kind : Kind) (book : List Page) (steps : List StepSaid) (s : ℕ)
    (why : StepFault) : Type 0 where
  pub step : StepSaid
  pub names : List (List ℕ)
  pub part : List Page
  pub there : slice_get steps s ≡ Some step
  pub before : LeaveAfter kind book steps s names part
  pub fails : StepFails kind names part step why
