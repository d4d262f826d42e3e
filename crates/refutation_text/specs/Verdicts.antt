-- What a refutation shows of its book.
use Rattle.std.specs.Prelude.{◌≡◌, ◌≢◌, ℕ, ◌⊎◌, true, false, List, [], ◌∷◌, length}
use Rattle.book_base.specs.declared.call.Call.{Call}
use Rattle.book_base.specs.Book.{Page}
use Rattle.book_base.specs.Order.{HasLegalOrder}
use Rattle.seq_objects.specs.declared.kind.Kind.{Kind}
use Rattle.seq_objects.specs.Objects.{kind_spec}
use Rattle.broken_rules.specs.Deeds.{reading_of}
use Rattle.broken_rules.specs.Rules.{holds_values}
use Rattle.refutations.specs.Closed.{MakeClosed}
use Rattle.pair_refutations.specs.declared.entry.PairEntry.{PairEntry}
use Rattle.pair_refutations.specs.declared.fault.PairFault.{PairFault}
use Rattle.pair_refutations.specs.declared.fault.PairFault.TheVariants as pairs
use Rattle.pair_refutations.specs.Fault.{Refute, HasTable}
use Rattle.pair_refutations.specs.Fault as pair_tests
use Rattle.level_refutations.specs.declared.entry.LevelEntry.{LevelEntry}
use Rattle.level_refutations.specs.declared.fault.LevelFault.{LevelFault}
use Rattle.level_refutations.specs.Said.{EntrySaid, entries_said}
use Rattle.level_refutations.specs.Closed as tables
use Rattle.level_refutations.specs.Fault as level_tests
use Rattle.seq_objects.specs.declared.kind.Kind.TheVariants as kinds
use Rattle.smaller_book.specs.Part.{original}
use Rattle.refutations.specs.Counts.{TakesExceedPuts, FindMissesPuts}
use Rattle.refutations.specs.Fault.{IsFirstFault}
use Rattle.refutations.specs.Impossible.{IsImpossible}
use Rattle.refutation_text.specs.declared.fault.RefutationFault.{RefutationFault}
use Rattle.refutation_text.specs.declared.fault.RefutationFault.TheVariants as faults
use Rattle.refutation_text.specs.declared.part_steps.StepFault.{StepFault}
use Rattle.refutation_text.specs.declared.part_steps.StepFault.TheVariants as reasons
use Rattle.refutation_text.specs.declared.verdict.RefutationVerdict.{RefutationVerdict}
use Rattle.refutation_text.specs.declared.verdict.RefutationVerdict.TheVariants.{Illegal, Faulty}
use Rattle.refutation_text.specs.Said.{StepSaid, EndingSaid, Impossible, Takes, Find, Closed, Pairs, Levels}
use Rattle.refutation_text.specs.RefutationRules.{IsRefutationText}
use Rattle.refutation_text.specs.Steps.{IsCalled, LeaveAfter, IsFirstStepFault}

-- What an ending says of a part is so.
abbrev pub IsShown : Kind → List (List ℕ) → List Page → EndingSaid → Type 0
IsShown kind names part (Impossible named) = (call : Call) × IsCalled names part named call
    × IsImpossible (kind_spec kind) part call
IsShown kind names part (Takes value moment) = (holds_values kind ≡ true)
    × TakesExceedPuts (reading_of kind) part (value ∷ []) moment
IsShown kind names part (Find named values) = (holds_values kind ≡ true)
    × (call : Call) × IsCalled names part named call
    × FindMissesPuts (reading_of kind) part values call
IsShown kind names part (Closed entries) = MakeClosed (kind_spec kind) part entries
IsShown kind names part (Pairs entries) = (kind ≡ kinds.Queue) × HasTable part
    × Refute part entries
IsShown kind names part (Levels said) = (kind ≡ kinds.Stack) × (entries : List LevelEntry)
    × (entries_said entries ≡ said) × tables.MakeClosed part entries

-- the fault of a refutation with the number `s` of its ending, whose entries fail a test of
-- standings: a call has the number that it has in the book
abbrev pub pairs_fault : List (List ℕ) → ℕ → PairFault → RefutationFault
pairs_fault names s pairs.Open = faults.Open s
pairs_fault names s (pairs.Odd call) = faults.Pairs (pairs.Odd (original names call))
pairs_fault names s (pairs.Unlisted e) = faults.Pairs (pairs.Unlisted e)
pairs_fault names s (pairs.Whole e) = faults.Pairs (pairs.Whole e)
pairs_fault names s (pairs.Leads e move) = faults.Pairs (pairs.Leads e move)

-- Entries of standings don't refute a part, for this fault: the object is no queue, or a test fails.
abbrev pub PairsFail : Kind → List (List ℕ) → List Page → ℕ → List PairEntry → RefutationFault
    → Type 0
PairsFail kind names part s entries fault =
    ((kind ≢ kinds.Queue) × (fault ≡ faults.Kind))
    ⊎ ((kind ≡ kinds.Queue) × (why : PairFault) × pair_tests.IsFirstFault part entries why
    × (fault ≡ pairs_fault names s why))

-- Entries of a table of levels don't refute a part, for this fault: the object is no stack, or a test
-- fails.
abbrev pub LevelsFail : Kind → List Page → List EntrySaid → RefutationFault → Type 0
LevelsFail kind part said fault = ((kind ≢ kinds.Stack) × (fault ≡ faults.Kind))
    ⊎ ((kind ≡ kinds.Stack) × (entries : List LevelEntry) × (entries_said entries ≡ said)
    × (why : LevelFault) × level_tests.IsFirstFault part entries why
    × (fault ≡ faults.Levels why))

-- What an ending with the number `s` says of a part isn't so, for this fault.
abbrev pub EndingFails : Kind → List (List ℕ) → List Page → ℕ → EndingSaid
    → RefutationFault → Type 0
EndingFails kind names part s (Impossible named) (faults.Lacks at) =
    (at ≡ s) × ((call : Call) → IsCalled names part named call → ⊥)
EndingFails kind names part s (Impossible named) faults.Possible = (call : Call)
    × IsCalled names part named call × (IsImpossible (kind_spec kind) part call → ⊥)
EndingFails kind names part s (Takes value moment) faults.Kind = holds_values kind ≡ false
EndingFails kind names part s (Takes value moment) faults.Possible = (holds_values kind ≡ true)
    × (TakesExceedPuts (reading_of kind) part (value ∷ []) moment → ⊥)
EndingFails kind names part s (Find named values) faults.Kind = holds_values kind ≡ false
EndingFails kind names part s (Find named values) (faults.Lacks at) = (holds_values kind ≡ true)
    × (at ≡ s) × ((call : Call) → IsCalled names part named call → ⊥)
EndingFails kind names part s (Find named values) faults.Possible = (holds_values kind ≡ true)
    × (call : Call) × IsCalled names part named call
    × (FindMissesPuts (reading_of kind) part values call → ⊥)
EndingFails kind names part s (Closed entries) (faults.Closed fault) =
    IsFirstFault (kind_spec kind) part entries fault
EndingFails kind names part s (Pairs entries) fault = PairsFail kind names part s entries fault
EndingFails kind names part s (Levels said) fault = LevelsFail kind part said fault
EndingFails kind names part s ending fault = ⊥

-- A refutation is right: all its steps can be made, and what the ending says of the part that they
-- leave is so.
pub record IsRefutation (kind : Kind) (book : List Page) (steps : List StepSaid)
    (ending : EndingSaid) : Type 0 where
  pub names : List (List ℕ)
  pub part : List Page
  pub left : LeaveAfter kind book steps (length steps) names part
  pub shown : IsShown kind names part ending

-- the fault of a refutation whose step with this number can't be made
abbrev pub step_fault : ℕ → StepFault → RefutationFault
step_fault s reasons.Lacks = faults.Lacks s
step_fault s reasons.Open = faults.Open s
step_fault s reasons.Changes = faults.Changes s

-- The first fault of a refutation: that of its first step that can't be made; or, where all can be,
-- that of its ending.
abbrev pub IsFaultOf : Kind → List Page → List StepSaid → EndingSaid → RefutationFault → Type 0
IsFaultOf kind book steps ending fault =
    ((s : ℕ) × (why : StepFault) × IsFirstStepFault kind book steps s why
    × (fault ≡ step_fault s why))
    ⊎ ((names : List (List ℕ)) × (part : List Page)
    × LeaveAfter kind book steps (length steps) names part
    × EndingFails kind names part (length steps) ending fault)

-- the verdict on a refutation
abbrev pub IsVerdictOf : Kind → List Page → List StepSaid → EndingSaid → RefutationVerdict → Type 0
IsVerdictOf kind book steps ending Illegal = IsRefutation kind book steps ending
IsVerdictOf kind book steps ending (Faulty fault) = IsFaultOf kind book steps ending fault

-- the verdict on the refutation that the bytes are the text of
unfoldable pub IsRefutationVerdict : List ℕ → RefutationVerdict → Type 0
IsRefutationVerdict bytes verdict = (kind : Kind) × (book : List Page) × (steps : List StepSaid)
    × (ending : EndingSaid) × IsRefutationText bytes kind book steps ending
    × IsVerdictOf kind book steps ending verdict

-- The bytes are the text of a refutation whose book has no legal order.
unfoldable pub IsOfIllegalBook : List ℕ → Type 0
IsOfIllegalBook bytes = (kind : Kind) × (book : List Page) × (steps : List StepSaid)
    × (ending : EndingSaid) × IsRefutationText bytes kind book steps ending
    × (HasLegalOrder (kind_spec kind) book → ⊥)
