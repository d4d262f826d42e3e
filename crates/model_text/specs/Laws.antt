-- Laws of the texts of models.
use Rattle.std.specs.Prelude.{◌≡◌, ◌↔◌, ℕ, List, [], ◌++◌}
use Rattle.book_base.specs.declared.fault.TextFault.{TextFault}
use Rattle.book_base.specs.Book.{Page}
use Rattle.book_text.specs.AnyTextBeginnings.{LeavesAt}
use Rattle.model_text.specs.declared.told_line.ToldLine.{ToldLine}
use Rattle.model_text.specs.Grammar.{IsWrittenModel}
use Rattle.model_text.specs.ModelRules.{IsModelText, IsFirstModelFault}

-- Bytes are the text of one book and one list of told lines at most.
abbrev pub OneModelPerText : Type 0
OneModelPerText = (bytes : List ℕ) (a b : List Page) (p q : List ToldLine)
    → IsModelText bytes a p → IsModelText bytes b q → (a ≡ b) × (p ≡ q)

-- A book and a list of told lines have one text at most.
abbrev pub OneTextPerModel : Type 0
OneTextPerModel = (a b : List ℕ) (pages : List Page) (told : List ToldLine)
    → IsModelText a pages told → IsModelText b pages told → a ≡ b

-- Bytes have one first fault at most.
abbrev pub OneFirstFault : Type 0
OneFirstFault = (bytes : List ℕ) (a b : TextFault) → IsFirstModelFault bytes a
    → IsFirstModelFault bytes b → a ≡ b

-- A model's text has no fault.
abbrev pub NoFaultOfAText : Type 0
NoFaultOfAText = (bytes : List ℕ) (pages : List Page) (told : List ToldLine) (fault : TextFault)
    → IsModelText bytes pages told → ¬ (IsFirstModelFault bytes fault)

-- Bytes are read as a book and told lines exactly where they are what is written of them.
abbrev pub ATextIsItsLines : Type 0
ATextIsItsLines = (bytes : List ℕ) (pages : List Page) (told : List ToldLine)
    → IsWrittenModel bytes pages told ↔ IsModelText bytes pages told

-- No model's text is a proper prefix of another's: where more bytes follow it, the whole is no
-- model's text.
abbrev pub NoTextBeginsAnother : Type 0
NoTextBeginsAnother = (bytes more : List ℕ) (a b : List Page) (p q : List ToldLine)
    → IsModelText bytes a p → IsModelText (bytes ++ more) b q → more ≡ []

-- A first fault is where bytes stop being the beginning of a model's text: some text begins with
-- the lines before the fault's line, and none begins with these and that line; or that line isn't
-- whole, or bytes follow a whole text.
abbrev pub FirstFaultsLeaveTexts : Type 0
FirstFaultsLeaveTexts = (bytes : List ℕ) (fault : TextFault) → IsFirstModelFault bytes fault
    → LeavesAt {Said = List Page × List ToldLine} (λ bytes said. IsModelText bytes said.0 said.1)
    bytes fault
