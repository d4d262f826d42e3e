-- What is found of a book without a legal order.
use Rattle.std.specs.Prelude.{ℕ, ◌<◌, ◌≤◌, List, [], length, Result, Ok, Err, Vec}
use Rattle.std.specs.declared.alloc.Global.{Global}
use Rattle.std.specs.List.{AllByRecursion}
use Rattle.book_base.specs.declared.call.Call.{Call}
use Rattle.book_base.specs.Book.{Page}
use Rattle.book_base.specs.Order.{HasLegalOrder}
use Rattle.seq_objects.specs.declared.kind.Kind.{Kind}
use Rattle.seq_objects.specs.Objects.{kind_spec}
use Rattle.refutations.specs.Impossible.{IsImpossible, IsLesser}
use Rattle.refutation_text.specs.Said.{StepSaid, EndingSaid, Impossible, steps_said}
use Rattle.refutation_text.specs.RefutationRules.{IsRefutationText}
use Rattle.refutation_text.specs.Verdicts.{IsRefutation}
use Rattle.evidence_text.specs.declared.evidence.Limit.{Limit}
use Rattle.evidence_text.specs.declared.evidence.Limit.TheVariants.{Items, Bytes}
use Rattle.evidence_text.specs.declared.evidence.Limits.{Limits}
use Rattle.evidence_text.specs.declared.parts.Parts.{Parts}
use Rattle.evidence_text.specs.Written.{HasCounts}

-- The last part has no legal order, and each step back to a cut has 16 counts.
pub record AreParts (kind : Kind) (parts : Parts) : Type 0 where
  pub steps : AllByRecursion HasCounts (steps_said parts.steps.items)
  pub illegal : ¬ (HasLegalOrder (kind_spec kind) parts.last.book)

-- the text is that of a right refutation of this book
unfoldable pub IsRefutationOf : Kind → List Page → List ℕ → Type 0
IsRefutationOf kind book text = (steps : List StepSaid) × (ending : EndingSaid)
    × IsRefutationText text kind book steps ending × IsRefutation kind book steps ending

-- A text that was found has this property, and is within the limit of bytes. Where this limit was
-- met, some longer text has the property. Where the limit of items was met, `Unfound` holds.
abbrev pub IsWithin : (List ℕ → Type 0) → Type 0 → Limits → Result (Vec ℕ Global) Limit → Type 0
IsWithin HasIt Unfound limits (Ok text) = HasIt text.items × (length text.items ≤ limits.bytes)
IsWithin HasIt Unfound limits (Err Items) = Unfound
IsWithin HasIt Unfound limits (Err Bytes) =
    (text : List ℕ) × HasIt text × (limits.bytes < length text)

-- what is found is a right refutation of this book
abbrev pub IsFinding : Kind → List Page → Limits → Result (Vec ℕ Global) Limit → Type 0
IsFinding kind book limits found = IsWithin (IsRefutationOf kind book) (Unit {0}) limits found

-- the text is that of the refutation that names the first call of this book with an impossible
-- reply, without a step
abbrev pub NamesFirst : Kind → List Page → List ℕ → Type 0
NamesFirst kind book text = (call : Call) × IsImpossible (kind_spec kind) book call
    × ((other : Call) → IsLesser other call → IsImpossible (kind_spec kind) book other → ⊥)
    × IsRefutationText text kind book [] (Impossible call)

-- That refutation is found, unless its text is longer than the limit of bytes.
abbrev pub IsFirstNamed : Kind → List Page → Limits → Result (Vec ℕ Global) Limit → Type 0
IsFirstNamed kind book limits found = IsWithin (NamesFirst kind book) ⊥ limits found
