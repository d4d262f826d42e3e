-- Bytes are read as one model's text at most, and have one first fault at most.
use Rattle.std.proofs.Common.{◌≡◌, ℕ, ◌⊎◌, List, Result, Ok, Err, refl, ap, inl, inr}
use Rattle.std.specs.Prelude.{IfOk, IfErr, MatchResult}
use Rattle.book_base.specs.declared.fault.TextFault.{TextFault}
use Rattle.book_base.specs.declared.fault.ReadFault.{ReadFault}
use Rattle.book_base.specs.declared.fault.ReadFault.TheVariants.{Text, NoMemory}
use Rattle.book_base.specs.Book.{Page}
use Rattle.text_fields.specs.Faults.{StopsFor}
use Rattle.text_fields.proofs.Readings as readings
use Rattle.book_text.specs.BookRules.{whole_text}
use Rattle.model_text.specs.declared.model_text.ModelText.{ModelText}
use Rattle.model_text.specs.declared.told_line.ToldLine.{ToldLine}
use Rattle.model_text.specs.ModelRules.{ModelDue, AllRead, nothing_read, model_rules, IsModelText, IsNoModelText, IsFirstModelFault}
use Rattle.model_text.specs.Laws.{OneModelPerText, OneFirstFault, NoFaultOfAText, NoTextBeginsAnother}
use Rattle.model_text.proofs.SharpModels.{model_sharp}

-- what a model's text says: a book and told lines
abbrev pub Said : Type 0
Said = List Page × List ToldLine

-- the end of a model's text, as a state of reading it
abbrev pub ended : Said → ModelDue
ended said = AllRead said.0 said.1

pub same_end : (a b : Said) → ended a ≡ ended b → a ≡ b
same_end a b e =
    let books : a.0 ≡ b.0 = cc in
    let told : a.1 ≡ b.1 = cc in
    λ i. (books i, told i)

-- bytes are read as one book and one list of told lines at most
pub one_model : OneModelPerText
one_model bytes a b p q h k =
    let one = readings.one_said model_rules model_sharp nothing_read ended same_end (λ said. refl)
    bytes (a, p) (b, q) h k in
    (ap (λ (said : Said). said.0) one, ap (λ (said : Said). said.1) one)

-- bytes have one first fault at most
pub one_fault : OneFirstFault
one_fault =
    readings.one_first model_rules model_sharp nothing_read ended same_end (λ said. refl)

-- bytes that are a model's text have no fault
pub no_fault : NoFaultOfAText
no_fault bytes pages told fault h k = readings.no_first model_rules model_sharp nothing_read ended
    same_end (λ said. refl) bytes (pages, told) fault h k

-- no model's text is a proper prefix of another's
pub no_prefix : NoTextBeginsAnother
no_prefix bytes more a b p q h k = readings.no_prefix model_rules model_sharp nothing_read ended
    same_end (λ said. refl) bytes more (a, p) (b, q) h k

-- ---- the answers of a reader

-- what was read is the book and the told lines that the bytes are the text of
abbrev pub IsFound : List ℕ → Result ModelText ReadFault → Type 0
IsFound bytes result = IfOk result (λ read. IsModelText bytes read.book read.told.items)

-- a reader stops for the first fault, or for want of memory
abbrev pub IsStopped : List ℕ → Result ModelText ReadFault → Type 0
IsStopped bytes result =
    IfErr result (λ e. StopsFor model_rules nothing_read (whole_text bytes) e)

pub only_read : (bytes : List ℕ) (result : Result ModelText ReadFault) → IsFound bytes result
    → IsStopped bytes result → (pages : List Page) (told : List ToldLine)
    → IsModelText bytes pages told
    → MatchResult result (λ read. (read.book ≡ pages) × (read.told.items ≡ told))
    (λ e. e ≡ NoMemory)
only_read bytes (Ok x) h k pages told read =
    one_model bytes x.book pages x.told.items told h read
only_read bytes (Err NoMemory) h k pages told read = refl
only_read bytes (Err (Text fault)) h k pages told read =
    absurd (no_fault bytes pages told fault read k)

pub refused_read : (bytes : List ℕ) (result : Result ModelText ReadFault) → IsStopped bytes result
    → IfErr result (λ e. (e ≡ NoMemory) ⊎ ((fault : TextFault) × (e ≡ Text fault)
    × IsFirstModelFault bytes fault × IsNoModelText bytes))
refused_read bytes (Ok x) k = tt
refused_read bytes (Err NoMemory) k = inl refl
refused_read bytes (Err (Text fault)) k =
    inr (fault, refl, k, λ pages told read. no_fault bytes pages told fault read k)

pub first_read : (bytes : List ℕ) (result : Result ModelText ReadFault) → IsFound bytes result
    → IsStopped bytes result → (fault : TextFault) → IsFirstModelFault bytes fault
    → MatchResult result (λ x. ⊥) (λ e. (e ≡ Text fault) ⊎ (e ≡ NoMemory))
first_read bytes (Ok x) h k fault f = no_fault bytes x.book x.told.items fault h f
first_read bytes (Err NoMemory) h k fault f = inr refl
first_read bytes (Err (Text other)) h k fault f = inl (ap Text (one_fault bytes other fault k f))
