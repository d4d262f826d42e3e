-- What a client keeps from call to call.
use Rattle.std.specs.Prelude.{◌≡◌, ◌≤◌, vec_capacity}
use Rattle.book_base.specs.SeqSpec.{SeqSpec}
use Rattle.world_core.specs.Local.{Local}
use Rattle.row_gather.specs.Gathered.{IsGatheredBy}
use Rattle.enforcer.specs.Verdicts.{OrderStandsIn}
use Rattle.client_calls.specs.declared.sheet.Sheet.{Sheet}

-- The kept order of a client's sheet stands in the kept book of that sheet, judged by a sequential
-- object.
abbrev pub KeepsStanding : {E : Type 0} → SeqSpec → Sheet E → Type 0
KeepsStanding object sheet = OrderStandsIn object sheet.gathered sheet.standing

module _ {E : Type 0} (object : E → SeqSpec) where
  -- What a sheet keeps is right for a caller with this local: the caller has peeked each word of
  -- the kept book, where one is kept, and the kept order stands in this book, judged by the object
  -- of the sheet's ending.
  pub record KeepsFor (l : Local) (sheet : Sheet E) : Type 0 where
    pub gathered : IsGatheredBy l sheet.gathered
    pub stands : KeepsStanding (object sheet.ending) sheet

  -- The sheet k is h at a later moment: it has the same caller and operations, at least the
  -- capacity for lines that h has, and an ending that judges by the same object.
  pub record IsSameSheet (h k : Sheet E) : Type 0 where
    pub who : k.who ≡ h.who
    pub operations : k.operations.now ≡ h.operations.now
    pub lines : vec_capacity h.lines ≤ vec_capacity k.lines
    pub judges : object k.ending ≡ object h.ending
