-- What the program writes, by its task, of the input that it reads.
use Rattle.std.specs.Prelude.{◌≡◌, ℕ, ◌≤◌, ◌⊎◌, List, length, codes}
use Rattle.book_base.specs.declared.fault.TextFault.{TextFault}
use Rattle.text_fields.specs.declared.version.Version.TheVariants.{Second}
use Rattle.book_text.specs.BookRules.{IsFirstBookFault}
use Rattle.evidence_text.specs.declared.evidence.Limit.{Limit}
use Rattle.evidence_text.specs.declared.evidence.Limit.TheVariants.{Items, Bytes}
use Rattle.evidence_text.specs.declared.evidence.Evidence.TheVariants.{NotFound}
use Rattle.evidence_text.specs.Evidence.{Refutes, IsEvidenceFor}
use Rattle.certificate_text.specs.Books.{Certifies}
use Rattle.witness_tool.specs.declared.task.TheConstants.{LIMITS}
use Rattle.given_book.specs.Given.{IsFirstGivenFault}
use Rattle.given_book.specs.Explaining.{IsExplained, SaysNoneBroken}
use Rattle.given_book.specs.Texts.{IsPictureOf, IsLegalGiven, IsSmallerWitness}
use Rattle.witness_tool.specs.declared.task.Task.{Task}
use Rattle.witness_tool.specs.declared.task.Task.TheVariants.{Picture, Smaller, Explain, Evidence}

-- The text is written of the bytes with the status `Fine`: the picture of the book that they give,
-- whatever its verdict; that the book that they give is legal; that it breaks none of the rules of
-- its kind; or a certificate of the book whose text they are.
abbrev pub IsFineFor : Task → List ℕ → List ℕ → Type 0
IsFineFor Picture bytes text = IsPictureOf bytes text
IsFineFor Smaller bytes text = IsLegalGiven bytes × (text ≡ codes "legal\n")
IsFineFor Explain bytes text = SaysNoneBroken bytes text
IsFineFor Evidence bytes text = Certifies bytes text

-- what is written of an illegal book where no refutation was found within a limit
abbrev pub not_found_text : Limit → List ℕ
not_found_text Items = codes "illegal\nno refutation within 300000 items\n"
not_found_text Bytes = codes "illegal\nno refutation within 1048576 bytes\n"

-- The text is written of the bytes with the status `Found`: a smaller book of the one that they
-- give; why that book has no legal order; or, of the book whose text they are, a refutation that
-- programs read, or that it is illegal and a limit was met.
abbrev pub IsFoundFor : Task → List ℕ → List ℕ → Type 0
IsFoundFor Picture bytes text = ⊥
IsFoundFor Smaller bytes text = IsSmallerWitness bytes text
IsFoundFor Explain bytes text = IsExplained bytes text
IsFoundFor Evidence bytes text = (Refutes bytes text × (length text ≤ LIMITS.bytes))
    ⊎ ((limit : Limit) × IsEvidenceFor bytes LIMITS (NotFound limit)
    × (text ≡ not_found_text limit))

-- The bytes are refused for this fault: the first one of what they give, or of the bytes as the
-- text of a book in version 2, where evidence is asked for.
abbrev pub IsFaultFor : Task → List ℕ → TextFault → Type 0
IsFaultFor Evidence bytes fault = IsFirstBookFault Second bytes fault
IsFaultFor task bytes fault = IsFirstGivenFault bytes fault
