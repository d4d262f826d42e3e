-- What `upgrade` takes, and what it writes: it takes a text of version 1 of a script or a book, and
-- writes the text of version 2 of the same script or book.
use Rattle.std.specs.Prelude.{◌≡◌, ◌⊎◌, ℕ, List, ◌++◌, codes}
use Rattle.book_base.specs.declared.fault.TextFault.{TextFault}
use Rattle.book_base.specs.Book.{Page}
use Rattle.book_text.specs.BookRules.{IsBookText, IsFirstBookFault}
use Rattle.book_text.specs.Grammar as books
use Rattle.client_scripts.specs.Grammar as scripts
use Rattle.client_scripts.specs.Plans.{Plan}
use Rattle.client_scripts.specs.ScriptRules.{IsScriptText, IsFirstScriptFault}
use Rattle.seq_objects.specs.declared.kind.Kind.{Kind}
use Rattle.text_fields.specs.declared.version.Version.TheVariants.{First, Second}

-- the first line is the title of a script of version 1
unfoldable pub BeginsAsScript : List ℕ → Type 0
BeginsAsScript bytes = (rest : List ℕ) × (bytes ≡ codes "script 1\n" ++ rest)

-- Where the first line of the bytes is the title of a script of version 1, `Script` is true; and
-- where it isn't, `Book` is true.
abbrev pub ByTitle : List ℕ → Type 0 → Type 0 → Type 0
ByTitle bytes Script Book = (BeginsAsScript bytes × Script) ⊎ (¬ (BeginsAsScript bytes) × Book)

-- the bytes are the text of a script or of a book, in version 1
unfoldable pub IsOldInput : List ℕ → Type 0
IsOldInput bytes = ByTitle bytes ((plan : Plan) × IsScriptText First bytes plan)
    ((kind : Kind) × (book : List Page) × IsBookText First bytes kind book)

-- The first fault of bytes that are no text of a script or of a book in version 1: the first one of
-- a script's text where the first line is the title of a script, and otherwise the first one of a
-- book's text.
abbrev pub IsFirstOldFault : List ℕ → TextFault → Type 0
IsFirstOldFault bytes fault =
    ByTitle bytes (IsFirstScriptFault First bytes fault) (IsFirstBookFault First bytes fault)

-- The bytes are the text of a script in version 1, and the text is that of the same script in
-- version 2.
pub record IsUpgradedScript (bytes text : List ℕ) : Type 0 where
  pub plan : Plan
  pub old : IsScriptText First bytes plan
  pub new : scripts.IsWrittenText Second text plan

-- The bytes are the text of a book in version 1, and the text is that of the same book in version
-- 2.
pub record IsUpgradedBook (bytes text : List ℕ) : Type 0 where
  pub kind : Kind
  pub book : List Page
  pub old : IsBookText First bytes kind book
  pub new : books.IsWrittenText Second text kind book

-- The bytes are the text of a script or a book in version 1, and the text is that of the same
-- script or book in version 2.
abbrev pub IsUpgraded : List ℕ → List ℕ → Type 0
IsUpgraded bytes text = ByTitle bytes (IsUpgradedScript bytes text) (IsUpgradedBook bytes text)
