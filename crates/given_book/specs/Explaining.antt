-- What is said of a book: which rule it breaks, or how far a legal order of it could begin.
use Rattle.std.specs.Prelude.{◌≡◌, ◌⊎◌, ℕ, List, codes}
use Rattle.book_base.specs.Book.{Page}
use Rattle.book_base.specs.Order.{HasLegalOrder}
use Rattle.broken_rules.specs.declared.rule.BrokenRule.{BrokenRule}
use Rattle.broken_rules.specs.Rules.{Breaks}
use Rattle.broken_rules.specs.Texts.{broken_text}
use Rattle.given_book.specs.Given.{IsGiven}
use Rattle.legal_prefixes.specs.declared.prefix.LegalPrefix.{LegalPrefix}
use Rattle.legal_prefixes.specs.Longest.{AreLongest}
use Rattle.legal_prefixes.specs.Texts.{TellsPrefixes}
use Rattle.seq_objects.specs.declared.kind.Kind.{Kind}
use Rattle.seq_objects.specs.Objects.{kind_spec}
use Rattle.given_book.specs.declared.explained.Explanation.{Explanation}
use Rattle.given_book.specs.declared.explained.Explanation.TheVariants.{Illegal, NoneBroken}

-- a book breaks none of the rules of its kind
abbrev pub BreaksNone : Kind → List Page → Type 0
BreaksNone kind book = (broken : BrokenRule) → Breaks kind book broken → ⊥

-- A book breaks a rule of its kind, and the text says which, and by which calls.
pub record SaysBroken (kind : Kind) (book : List Page) (text : List ℕ) : Type 0 where
  pub broken : BrokenRule
  pub breaks : Breaks kind book broken
  pub written : text ≡ broken_text kind book broken

-- A book breaks none of the rules of its kind, and the text is that of its longest legal prefixes,
-- each with all calls that may come next after it, and with the reply that the object gives each call
-- there, which isn't the recorded one.
pub record SaysLongest (kind : Kind) (book : List Page) (text : List ℕ) : Type 0 where
  pub none : BreaksNone kind book
  pub prefixes : List LegalPrefix
  pub longest : AreLongest kind book prefixes
  pub written : TellsPrefixes kind book prefixes text

-- The bytes give a book that has no legal order, and the text says why: which rule it breaks, or how
-- far a legal order could begin.
pub record IsExplained (bytes text : List ℕ) : Type 0 where
  pub kind : Kind
  pub book : List Page
  pub told : IsGiven bytes kind book
  pub illegal : ¬ (HasLegalOrder (kind_spec kind) book)
  pub why : SaysBroken kind book text ⊎ SaysLongest kind book text

-- A book has a legal order, and the text says that it breaks none of the rules of its kind; or the
-- text says that it breaks none, and that the search for the longest legal prefixes gave up.
abbrev pub SaysOnlyNone : Kind → List Page → List ℕ → Type 0
SaysOnlyNone kind book text =
    (HasLegalOrder (kind_spec kind) book × (text ≡ codes "no rule of these is broken\n"))
    ⊎ (text ≡ codes "no rule of these is broken, and there are too many legal prefixes to try\n")

-- The bytes give a book that breaks none of the rules of its kind, and the text says so.
pub record SaysNoneBroken (bytes text : List ℕ) : Type 0 where
  pub kind : Kind
  pub book : List Page
  pub told : IsGiven bytes kind book
  pub none : BreaksNone kind book
  pub says : SaysOnlyNone kind book text

-- Which explanations are right for the book that the bytes give.
abbrev pub IsExplanationOf : List ℕ → Explanation → Type 0
IsExplanationOf bytes (Illegal text) = IsExplained bytes text.items
IsExplanationOf bytes (NoneBroken text) = SaysNoneBroken bytes text.items
