-- What is written of a run that two monitors watched.
use Rattle.std.specs.Prelude.{◌≡◌, ℕ, List, ◌++◌, codes, Option, Some, None}
use Rattle.book_base.specs.Order.{HasLegalOrder}
use Rattle.book_text.specs.Grammar.{IsWrittenText}
use Rattle.seq_objects.specs.declared.kind.Kind.{Kind}
use Rattle.seq_objects.specs.Objects.{kind_spec}
use Rattle.text_fields.specs.declared.version.Version.TheVariants.{Second}
use Rattle.world_core.specs.Local.{Local}
use Rattle.monitor.specs.declared.witness.Witness.{Witness}
use Rattle.monitor.specs.Worlds.{published_book, IsWitnessOf}
use Rattle.byte_streams.specs.declared.status.Status.{Status}
use Rattle.byte_streams.specs.declared.status.Status.TheVariants.{Fine, Found}

-- The text of the answer of a monitored run: `legal` where there is no witness, and `illegal` with
-- the text of the witness's book where there is one.
abbrev pub IsAnswerText : Kind → Option Witness → List ℕ → Type 0
IsAnswerText kind None text = text ≡ codes "legal\n"
IsAnswerText kind (Some w) text = (shown : List ℕ) × IsWrittenText Second shown kind w.book
    × (text ≡ codes "illegal\n" ++ shown)

-- The status that comes with the answer of a monitored run: `Fine` where there is no witness, and
-- `Found` where there is one.
abbrev pub status_of : Option Witness → Status
status_of None = Fine
status_of (Some w) = Found

-- The output of the answer of a monitored run: a status and a text.
abbrev pub IsAnswerOutput : Kind → Option Witness → Status → List ℕ → Type 0
IsAnswerOutput kind answer status text = IsAnswerText kind answer text × (status ≡ status_of answer)

-- The book of all records that these callers have published has a legal order, for this kind.
abbrev pub HasLegalRecords : Kind → List Local → Type 0
HasLegalRecords kind locals =
    HasLegalOrder (kind_spec kind) (published_book locals)

-- The status and the text that are right for the calls of these callers: `Fine` and `legal` where
-- the book of all published records has a legal order; `Found`, and `illegal` with the text of a
-- witness's book, where it has none.
abbrev pub IsMonitorText : Kind → List Local → Status → List ℕ → Type 0
IsMonitorText kind locals Fine text = HasLegalRecords kind locals × (text ≡ codes "legal\n")
IsMonitorText kind locals Found text =
    (¬ HasLegalRecords kind locals)
    × (w : Witness) × IsWitnessOf (kind_spec kind) locals w × (shown : List ℕ)
    × IsWrittenText Second shown kind w.book × (text ≡ codes "illegal\n" ++ shown)
IsMonitorText kind locals _ text = ⊥
