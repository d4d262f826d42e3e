-- What the rounds of monitors say of the books of a reachable world.
use Rattle.std.specs.Prelude.{◌≡◌, ℕ, ◌+◌, ◌-◌, ◌<◌, ◌≤◌, ◌⊎◌, List, ◌++◌, length, map, Option, Some, slice_get}
use Rattle.book_base.specs.SeqSpec.{SeqSpec}
use Rattle.book_base.specs.Book.{Page}
use Rattle.book_base.specs.BookAt.{book_at}
use Rattle.book_base.specs.Order.{HasLegalOrder}
use Rattle.world_core.specs.declared.region.Region.TheVariants.{M}
use Rattle.world_core.specs.Shape.{Shape}
use Rattle.world_core.specs.Local.{Local, Given}
use Rattle.world_core.specs.Calls.{AreTogether, IsPublished, book_in, local_at}
use Rattle.drv_wrapper.specs.Growth.{Grows}
use Rattle.monitor.specs.declared.witness.Witness.{Witness}
use Rattle.monitor.specs.declared.round.Round.{Round}
use Rattle.monitor.specs.declared.round.Round.TheVariants.{Legal, Illegal}
use Rattle.monitor.specs.Rounds.{HasMadeRounds, WasCutShort}
use Rattle.monitor.specs.Monitors.{HasFound}

-- How many records each caller has published.
abbrev pub published_of : List Local → List ℕ
published_of locals = map (λ (l : Local). l.published) locals

-- The book of all published records.
abbrev pub published_book : List Local → List Page
published_book locals = book_at (published_of locals) (book_in locals)

-- A witness is right for the calls of these locals: its cut counts published records alone, and its
-- book is that of the calls at this cut, and has no legal order.
pub record IsWitnessOf (spec : SeqSpec) (locals : List Local) (w : Witness) : Type 0 where
  pub published : IsPublished locals w.cut
  pub book : w.book ≡ book_at w.cut (book_in locals)
  pub none : ¬ HasLegalOrder spec w.book

-- What a round found is right for the calls of these locals: its cut counts published records
-- alone. After a legal round the book at the cut has a legal order. After an illegal round the own
-- witness is the book at the cut, and has no legal order.
abbrev pub IsRightRound : SeqSpec → List Local → Option Witness → Round → Type 0
IsRightRound spec locals own (Legal cut) = IsPublished locals cut
    × HasLegalOrder spec (book_at cut (book_in locals))
IsRightRound spec locals own (Illegal cut) = (w : Witness) × (own ≡ Some w) × (w.cut ≡ cut)
    × IsWitnessOf spec locals w

-- What a round of caller i found is right for the locals of each later moment.
abbrev pub RoundsAreRight : Type 0
RoundsAreRight =
    (spec : SeqSpec) (s : Shape) (locals : List Local) (i : ℕ)
    (l m : Local) (own : Option Witness) (round : Round)
    → AreTogether s locals → i < s.callers → Grows m (local_at locals i)
    → HasFound spec s.callers l m own round → IsRightRound spec locals own round

-- The cuts are those of at most `most` rounds over the calls of this book. A scan of M gave each,
-- and at each cut but the last the book has a legal order.
pub record AreRoundsOver (spec : SeqSpec) (book : List Page) (most : ℕ)
    (rounds : List Given) : Type 0 where
  pub few : length rounds ≤ most
  pub regions : (k : ℕ) (given : Given) → slice_get rounds k ≡ Some given → given.region ≡ M
  pub legal : (k : ℕ) (given : Given) → slice_get rounds k ≡ Some given → k + 1 < length rounds
      → HasLegalOrder spec (book_at given.cut book)

-- The cuts are those of rounds over the calls of this book, up to the end: there are `most` cuts, or
-- the book at the last one has no legal order.
pub record AreJudgedRounds (spec : SeqSpec) (book : List Page) (most : ℕ)
    (rounds : List Given) : Type 0 where
  pub over : AreRoundsOver spec book most rounds
  pub ends : (length rounds ≡ most)
      ⊎ ((last : Given) × (slice_get rounds (length rounds - 1) ≡ Some last)
      × ¬ HasLegalOrder spec (book_at last.cut book))

-- The cuts of the rounds that caller i made follow the cuts that it had before. They are those of
-- rounds over the book of all callers' calls.
abbrev pub RoundsAreJudged : Type 0
RoundsAreJudged =
    (spec : SeqSpec) (s : Shape) (locals : List Local) (i most : ℕ)
    (before : Local) (own : Option Witness)
    → AreTogether s locals → i < s.callers
    → HasMadeRounds spec s.callers most before (local_at locals i) own
    → (rounds : List Given) × ((local_at locals i).cuts ≡ before.cuts ++ rounds)
    × AreJudgedRounds spec (book_in locals) most rounds

-- Where caller i was cut short for want of memory, the cuts that it was given, after those that it
-- had before, are those of rounds over the book of all callers' calls. Nothing is said of the book
-- at the last one.
abbrev pub ShortRoundsAreRounds : Type 0
ShortRoundsAreRounds =
    (spec : SeqSpec) (s : Shape) (locals : List Local) (i most : ℕ) (before : Local)
    → AreTogether s locals → i < s.callers
    → WasCutShort spec s.callers most before (local_at locals i)
    → (rounds : List Given) × ((local_at locals i).cuts ≡ before.cuts ++ rounds)
    × AreRoundsOver spec (book_in locals) most rounds

-- The own witness that rounds of caller i found is right for the calls of all callers.
abbrev pub OwnIsAWitness : Type 0
OwnIsAWitness =
    (spec : SeqSpec) (s : Shape) (locals : List Local) (i most : ℕ)
    (before : Local) (w : Witness)
    → AreTogether s locals → i < s.callers
    → HasMadeRounds spec s.callers most before (local_at locals i) (Some w)
    → IsWitnessOf spec locals w

-- Where a witness is right for the calls of some locals, the book of all published records has no
-- legal order.
abbrev pub WitnessesAreFinal : Type 0
WitnessesAreFinal =
    (spec : SeqSpec) (s : Shape) (locals : List Local) (w : Witness)
    → AreTogether s locals → IsWitnessOf spec locals w
    → ¬ HasLegalOrder spec (published_book locals)
