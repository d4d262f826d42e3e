-- What the rounds of a monitor leave in its caller's local: for each round a cut, and a verdict on
-- the book that was gathered at it.
use Rattle.std.specs.Prelude.{◌≡◌, ℕ, ◌<◌, ◌≤◌, Bool, true, false, List, [], ◌∷◌, ◌++◌, Option, None, Some, length, slice_get}
use Rattle.book_base.specs.SeqSpec.{SeqSpec}
use Rattle.book_base.specs.Book.{Page}
use Rattle.book_base.specs.Order.{HasLegalOrder}
use Rattle.world_core.specs.declared.region.Region.TheVariants.{M}
use Rattle.world_core.specs.Local.{Local, Given}
use Rattle.world_core.specs.Calls.{IsGathered}
use Rattle.report_lines.specs.Phases.{progress_of}
use Rattle.collect_scan.specs.Given.{AddsCut}
use Rattle.monitor.specs.declared.witness.Witness.{Witness}

-- From local `l` to local `m` a caller made one scan of M, which gave this cut, and peeked words;
-- its progress is unchanged.
pub record HasScannedOnce (cut : List ℕ) (l m : Local) : Type 0 where
  pub adds : AddsCut M cut l m
  pub progress : progress_of m ≡ progress_of l

module _ (spec : SeqSpec) (n : ℕ) where
  -- A caller of n with local `l` has gathered a book at this cut that has a legal order.
  pub record IsLegalAt (l : Local) (cut : List ℕ) : Type 0 where
    pub book : List Page
    pub gathered : IsGathered n l cut book
    pub order : HasLegalOrder spec book

  -- The witness has the book that a caller of n with local `l` gathered at its cut, and this book
  -- has no legal order.
  pub record IsIllegalAt (l : Local) (w : Witness) : Type 0 where
    pub gathered : IsGathered n l w.cut w.book
    pub none : ¬ HasLegalOrder spec w.book

  -- The given cut is that of a legal round: a scan of M gave it, and the book that a caller with
  -- local `l` gathered at it has a legal order.
  pub record IsLegalRound (l : Local) (given : Given) : Type 0 where
    pub region : given.region ≡ M
    pub legal : IsLegalAt l given.cut

  -- Each of these given cuts is that of a legal round.
  abbrev pub AreLegal : Local → List Given → Type 0
  AreLegal l rounds = (k : ℕ) (given : Given) → slice_get rounds k ≡ Some given
      → IsLegalRound l given

  -- The last of these rounds is illegal, with this witness, and those before it are legal.
  pub record EndsIllegal (l : Local) (rounds : List Given) (w : Witness) : Type 0 where
    pub before : List Given
    pub since : ℕ
    pub is : rounds ≡ before ++ record { region = M; cut = w.cut; since = since } ∷ []
    pub legal : AreLegal l before
    pub illegal : IsIllegalAt l w

  -- The rounds of a monitor that may make `most` of them. Without an own witness there are `most`
  -- rounds, all legal. With one there are at most `most`, and the last round alone is illegal, with
  -- this witness.
  abbrev pub AreRounds : ℕ → Local → List Given → Option Witness → Type 0
  AreRounds most l rounds None = (length rounds ≡ most) × AreLegal l rounds
  AreRounds most l rounds (Some w) = (length rounds ≤ most) × EndsIllegal l rounds w

  -- From local `l` to local `m` a monitor made its rounds, at most `most`: their cuts follow those
  -- that its caller had been given before, and its progress is unchanged.
  pub record HasMadeRounds (most : ℕ) (l m : Local) (own : Option Witness) : Type 0 where
    pub rounds : List Given
    pub cuts : m.cuts ≡ l.cuts ++ rounds
    pub are : AreRounds most m rounds own
    pub progress : progress_of m ≡ progress_of l

  -- From local `l` to local `m` a monitor that may make `most` rounds was cut short for want of
  -- memory: it made legal rounds, and its scan of M for the next one gave the last cut. Its progress
  -- is unchanged. Nothing is said of the book at the last cut.
  pub record WasCutShort (most : ℕ) (l m : Local) : Type 0 where
    pub before : List Given
    pub last : Given
    pub cuts : m.cuts ≡ l.cuts ++ (before ++ last ∷ [])
    pub few : length before < most
    pub legal : AreLegal m before
    pub region : last.region ≡ M
    pub progress : progress_of m ≡ progress_of l

  -- From local `l` to local `m` a monitor made its rounds, at most `most`. Or it lacked memory in
  -- one of them, was cut short there, and has no own witness.
  abbrev pub HasRounds : Bool → ℕ → Local → Local → Option Witness → Type 0
  HasRounds false most l m own = HasMadeRounds most l m own
  HasRounds true most l m own = WasCutShort most l m × (own ≡ None)
