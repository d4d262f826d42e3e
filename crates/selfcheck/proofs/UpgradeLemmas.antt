-- Lemmas on texts of version 1 and on what `upgrade` writes of them.
use Rattle.std.proofs.Common.{◌≡◌, ℕ, List, ◌++◌, sym, ap, ◌∙◌, subst, arith, inl, inr, codes, get_or}
use Rattle.book_base.specs.declared.fault.TextFault.{TextFault}
use Rattle.book_base.specs.Book.{Page}
use Rattle.book_base.specs.declared.call.Place.{Place}
use Rattle.book_base.specs.Order.{IsLegalOrder}
use Rattle.book_text.specs.BookRules.{IsBookText}
use Rattle.book_text.specs.Grammar.{book_lines}
use Rattle.book_text.proofs.Readings as books
use Rattle.book_text.proofs.ReadTexts as read_books
use Rattle.book_text.proofs.WrittenTexts as written_books
use Rattle.client_scripts.specs.Plans.{Plan}
use Rattle.client_scripts.specs.ScriptRules.{IsScriptText}
use Rattle.client_scripts.specs.Grammar.{script_lines}
use Rattle.client_scripts.proofs.Readings as scripts
use Rattle.client_scripts.proofs.ReadTexts as read_scripts
use Rattle.client_scripts.proofs.WrittenTexts as written_scripts
use Rattle.seq_objects.specs.declared.kind.Kind.{Kind}
use Rattle.seq_objects.specs.Objects.{kind_spec}
use Rattle.text_fields.specs.declared.version.Version.{Version}
use Rattle.text_fields.specs.declared.version.Version.TheVariants.{First, Second}
use Rattle.text_fields.specs.Head.{title_words}
use Rattle.text_fields.specs.Lines.{line_text, text_of}
use Rattle.selfcheck.specs.Upgrade.{BeginsAsScript, IsOldInput, IsFirstOldFault, IsUpgraded}
use Rattle.selfcheck.specs.UpgradeLaws.{SaysTheSame, HaveOneOrder}

-- ---- titles

-- a script's text begins with its title
script_begins : (version : Version) (bytes : List ℕ) (plan : Plan) → IsScriptText version bytes plan
    → (rest : List ℕ) × (bytes ≡ line_text (title_words version (codes "script")) ++ rest)
script_begins version bytes plan told =
    (_, (read_scripts.read_is_written version bytes plan told).text)

-- a book's text begins with its title
book_begins : (version : Version) (bytes : List ℕ) (kind : Kind) (book : List Page)
    → IsBookText version bytes kind book
    → (rest : List ℕ) × (bytes ≡ line_text (title_words version (codes "book")) ++ rest)
book_begins version bytes kind book told =
    (_, (read_books.read_is_written version bytes kind book told).text)

-- no bytes begin with both titles
two_titles : (v w : Version) (bytes rest other : List ℕ)
    → bytes ≡ line_text (title_words v (codes "script")) ++ rest
    → bytes ≡ line_text (title_words w (codes "book")) ++ other → ⊥
two_titles v w bytes rest other script book =
    let first : ◌≡◌ {A = ℕ} 115 98 = ap (λ (l : List ℕ). get_or l 0 0) (sym script ∙ book) in
    omega (arith, first)

-- no bytes are the text of a script and of a book
pub script_or_book : (v w : Version) (bytes : List ℕ) (plan : Plan) (kind : Kind) (book : List Page)
    → IsScriptText v bytes plan → IsBookText w bytes kind book → ⊥
script_or_book v w bytes plan kind book script other =
    let a = script_begins v bytes plan script in
    let b = book_begins w bytes kind book other in
    two_titles v w bytes a.0 b.0 a.1 b.1

pub script_is_begun : (bytes : List ℕ) (plan : Plan) → IsScriptText First bytes plan
    → BeginsAsScript bytes
unfolding BeginsAsScript
script_is_begun bytes plan told = script_begins First bytes plan told

pub book_is_not_begun : (bytes : List ℕ) (kind : Kind) (book : List Page)
    → IsBookText First bytes kind book → BeginsAsScript bytes → ⊥
unfolding BeginsAsScript
book_is_not_begun bytes kind book told begun = let b = book_begins First bytes kind book told in
    two_titles First First bytes begun.0 b.0 begun.1 b.1

-- ---- texts of version 1

-- a text of version 1 has no first fault
pub old_or_fault : (bytes : List ℕ) (fault : TextFault) → IsOldInput bytes
    → IsFirstOldFault bytes fault → ⊥
unfolding IsOldInput
old_or_fault bytes fault (inl script) (inl first) =
    scripts.no_first_fault First bytes script.1.0 fault script.1.1 first.1
old_or_fault bytes fault (inl script) (inr first) = first.0 script.0
old_or_fault bytes fault (inr book) (inl first) = book.0 first.0
old_or_fault bytes fault (inr book) (inr first) =
    books.no_first_fault First bytes book.1.0 book.1.1 fault book.1.2 first.1

-- bytes have one first fault
pub one_old_fault : (bytes : List ℕ) (a b : TextFault) → IsFirstOldFault bytes a
    → IsFirstOldFault bytes b → a ≡ b
one_old_fault bytes a b (inl p) (inl q) = scripts.one_first_fault First bytes a b p.1 q.1
one_old_fault bytes a b (inl p) (inr q) = absurd (q.0 p.0)
one_old_fault bytes a b (inr p) (inl q) = absurd (p.0 q.0)
one_old_fault bytes a b (inr p) (inr q) = books.one_first_fault First bytes a b p.1 q.1

-- ---- what is written of them

-- the bytes of which a text of version 2 is written are a text of version 1
pub old-from_upgraded : (bytes text : List ℕ) → IsUpgraded bytes text → IsOldInput bytes
unfolding IsOldInput
old-from_upgraded bytes text (inl script) = inl (script.0, (script.1.plan, script.1.old))
old-from_upgraded bytes text (inr book) = inr (book.0, (book.1.kind, book.1.book, book.1.old))

-- there is one text of version 2 to write
pub one_upgraded : (bytes text text' : List ℕ) → IsUpgraded bytes text → IsUpgraded bytes text'
    → text ≡ text'
one_upgraded bytes text text' (inl a) (inl b) =
    let same : a.1.plan ≡ b.1.plan =
    scripts.one_script First bytes a.1.plan b.1.plan a.1.old b.1.old in
    a.1.new.text ∙ ap (λ (plan : Plan). text_of (script_lines Second plan)) same ∙ sym b.1.new.text
one_upgraded bytes text text' (inl a) (inr b) = absurd (b.0 a.0)
one_upgraded bytes text text' (inr a) (inl b) = absurd (a.0 b.0)
one_upgraded bytes text text' (inr a) (inr b) =
    let same = books.one_book First bytes a.1.kind b.1.kind a.1.book b.1.book a.1.old b.1.old in
    a.1.new.text ∙ ap (λ (kind : Kind). text_of (book_lines Second kind a.1.book)) same.0
    ∙ ap (λ (book : List Page). text_of (book_lines Second b.1.kind book)) same.1
    ∙ sym b.1.new.text

-- a text of a book is one of an equal book
moved : (version : Version) (bytes : List ℕ) (k l : Kind) (a b : List Page) → (k ≡ l) × (a ≡ b)
    → IsBookText version bytes k a → IsBookText version bytes l b
moved version bytes k l a b same told =
    subst (λ (book : List Page). IsBookText version bytes l book) same.1
    (subst (λ (kind : Kind). IsBookText version bytes kind a) same.0 told)

-- the text of version 2 says the same as the bytes
pub says_the_same : (bytes text : List ℕ) → IsUpgraded bytes text → SaysTheSame bytes text
says_the_same bytes text (inl script) =
    let written : IsScriptText Second text script.1.plan =
    written_scripts.written_is_read Second text script.1.plan script.1.new in
    record {
      books = λ kind book. (
        λ told. absurd (script_or_book First First bytes script.1.plan kind book script.1.old told),
        λ told. absurd (script_or_book Second Second text script.1.plan kind book written told),
      );
      scripts = λ plan. (
        λ told. subst (IsScriptText Second text)
            (scripts.one_script First bytes script.1.plan plan script.1.old told) written,
        λ told. subst (IsScriptText First bytes)
            (scripts.one_script Second text script.1.plan plan written told) script.1.old,
      );
    }
says_the_same bytes text (inr upgraded) =
    let mine = upgraded.1 in
    let written : IsBookText Second text mine.kind mine.book =
    written_books.written_is_read Second text mine.kind mine.book mine.new in
    record {
      books = λ kind book. (
        λ told. moved Second text mine.kind kind mine.book book
            (books.one_book First bytes mine.kind kind mine.book book mine.old told) written,
        λ told. moved First bytes mine.kind kind mine.book book
            (books.one_book Second text mine.kind kind mine.book book written told) mine.old,
      );
      scripts = λ plan. (
        λ told. absurd (script_or_book First First bytes plan mine.kind mine.book told mine.old),
        λ told. absurd (script_or_book Second Second text plan mine.kind mine.book told written),
      );
    }

-- books that are read from the bytes and from the text have the same legal orders
pub one_order : (bytes text : List ℕ) (kind other : Kind) (book another : List Page)
    → IsUpgraded bytes text → IsBookText First bytes kind book
    → IsBookText Second text other another → (order : List Place)
    → HaveOneOrder kind book other another order
one_order bytes text kind other book another upgraded old new order =
    let same = books.one_book Second text kind other book another
    (((says_the_same bytes text upgraded).books kind book).0 old) new in
    let Legal : Kind → List Page → Type 0 =
    λ k b. IsLegalOrder (kind_spec k) b order in (
      λ legal. subst (λ (b : List Page). Legal other b) same.1
          (subst (λ (k : Kind). Legal k book) same.0 legal),
      λ legal. subst (λ (b : List Page). Legal kind b) (sym same.1)
          (subst (λ (k : Kind). Legal k another) (sym same.0) legal),
    )
