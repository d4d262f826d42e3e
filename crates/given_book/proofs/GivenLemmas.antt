-- What bytes give: one book, legal or not, or they have one first fault.
use Rattle.std.proofs.Common.{◌≡◌, ◌⊎◌, ℕ, List, Option, Some, None, Result, Ok, Err, Vec, String, Global, refl, ap, subst, inl, inr, string_bytes}
use Rattle.std.specs.Prelude.{IfOk, IfErr, IsSome, IsNone, MatchOption, MatchResult}
use Rattle.book_base.specs.declared.fault.TextFault.{TextFault}
use Rattle.book_base.specs.declared.fault.ReadFault.{ReadFault}
use Rattle.book_base.specs.declared.fault.ReadFault.TheVariants.{Text, NoMemory}
use Rattle.book_base.specs.Book.{Page}
use Rattle.book_base.specs.Order.{HasLegalOrder}
use Rattle.seq_objects.specs.declared.kind.Kind.{Kind}
use Rattle.seq_objects.specs.Objects.{kind_spec}
use Rattle.book_text.proofs.Readings.{one_book, no_first_fault, one_first_fault}
use Rattle.given_book.specs.Given.{IsGiven, IsFirstGivenFault, IsNotGiven}
use Rattle.given_book.proofs.Parts.{told_by, stopped_by}
use Rattle.smaller_book.proofs.Evidence.{evidence_tells}
use Rattle.given_book.specs.declared.explained.Explanation.{Explanation}
use Rattle.given_book.specs.declared.explained.Explanation.TheVariants.{Illegal, NoneBroken}
use Rattle.given_book.specs.Explaining.{IsExplanationOf}
use Rattle.given_book.specs.Texts.{IsLegalGiven, IsIllegalGiven, IsSmallerWitness, IsPictureOf}

-- bytes give one book, of one kind
one_given : (bytes : List ℕ) (k l : Kind) (b c : List Page) → IsGiven bytes k b → IsGiven bytes l c
    → (k ≡ l) × (b ≡ c)
one_given bytes k l b c g h =
    one_book h.version h.part k l b c (told_by bytes h.version h.part k b h.is g) h.told

-- bytes that give a book have no first fault
given_or_fault : (bytes : List ℕ) (k : Kind) (b : List Page) (fault : TextFault) → IsGiven bytes k b
    → IsFirstGivenFault bytes fault → ⊥
given_or_fault bytes k b fault g first = no_first_fault g.version g.part k b fault g.told
    (stopped_by bytes g.version g.part fault g.is first)

-- bytes have one first fault
one_given_fault : (bytes : List ℕ) (e f : TextFault) → IsFirstGivenFault bytes e
    → IsFirstGivenFault bytes f → e ≡ f
one_given_fault bytes e f h k =
    one_first_fault k.version k.part e f (stopped_by bytes k.version k.part e k.is h) k.stops

-- no bytes give a book with a legal order and one without
legal_or_illegal : (bytes : List ℕ) → IsLegalGiven bytes → IsIllegalGiven bytes → ⊥
legal_or_illegal bytes h k =
    let same = one_given bytes h.kind k.kind h.book k.book h.told k.told in
    let by_kind = subst
    (λ (kind : Kind). HasLegalOrder (kind_spec kind) h.book) same.0 h.legal in
    k.illegal (subst
    (λ (book : List Page). HasLegalOrder (kind_spec k.kind) book) same.1 by_kind)

-- a book with a smaller witness has no legal order
witness_is_illegal : (bytes text : List ℕ) → IsSmallerWitness bytes text → IsIllegalGiven bytes
witness_is_illegal bytes text h =
    record {
      kind = h.kind;
      book = h.book;
      told = h.told;
      illegal = λ legal. h.illegal (evidence_tells h.kind h.book h.names h.part h.evidence legal);
    }

-- where they have no answer, bytes with a first fault are refused for it, or memory was wanted
first_answer : {V : Type 0} (IsFound : V → Type 0) (bytes : List ℕ) (result : Result V ReadFault)
    → IfOk result IsFound → IfErr result (IsNotGiven bytes)
    → ((v : V) (fault : TextFault) → IsFound v → IsFirstGivenFault bytes fault → ⊥)
    → (fault : TextFault) → IsFirstGivenFault bytes fault
    → MatchResult result (λ _. ⊥) (λ e. (e ≡ Text fault) ⊎ (e ≡ NoMemory))
first_answer IsFound bytes (Ok v) found refused none fault first = none v fault found first
first_answer IsFound bytes (Err NoMemory) found refused none fault first = inr refl
first_answer IsFound bytes (Err (Text other)) found refused none fault first =
    inl (ap Text (one_given_fault bytes other fault refused first))

-- ---- the answers of `smaller_text`

-- a smaller book, or none where the book has a legal order
abbrev pub IsShrinking : List ℕ → Option (Vec ℕ Global) → Type 0
IsShrinking bytes found =
    MatchOption found (IsLegalGiven bytes) (λ text. IsSmallerWitness bytes text.items)

pub only_none : (bytes : List ℕ) (result : Result (Option (Vec ℕ Global)) ReadFault)
    → IfOk result (IsShrinking bytes) → IfErr result (IsNotGiven bytes)
    → IsLegalGiven bytes → MatchResult result IsNone (λ e. e ≡ NoMemory)
only_none bytes (Ok (Some text)) found refused legal =
    absurd (legal_or_illegal bytes legal (witness_is_illegal bytes text.items found))
only_none bytes (Ok None) found refused legal = refl
only_none bytes (Err NoMemory) found refused legal = refl
only_none bytes (Err (Text fault)) found refused legal =
    absurd (given_or_fault bytes legal.kind legal.book fault legal.told refused)

pub only_some : (bytes : List ℕ) (result : Result (Option (Vec ℕ Global)) ReadFault)
    → IfOk result (IsShrinking bytes) → IfErr result (IsNotGiven bytes)
    → IsIllegalGiven bytes → MatchResult result IsSome (λ e. e ≡ NoMemory)
only_some bytes (Ok (Some text)) found refused illegal = refl
only_some bytes (Ok None) found refused illegal = absurd (legal_or_illegal bytes found illegal)
only_some bytes (Err NoMemory) found refused illegal = refl
only_some bytes (Err (Text fault)) found refused illegal =
    absurd (given_or_fault bytes illegal.kind illegal.book fault illegal.told refused)

shrinking_or_fault : (bytes : List ℕ) (found : Option (Vec ℕ Global)) (fault : TextFault)
    → IsShrinking bytes found → IsFirstGivenFault bytes fault → ⊥
shrinking_or_fault bytes None fault h first = given_or_fault bytes h.kind h.book fault h.told first
shrinking_or_fault bytes (Some text) fault h first =
    given_or_fault bytes h.kind h.book fault h.told first

pub first_of_smaller : (bytes : List ℕ) (result : Result (Option (Vec ℕ Global)) ReadFault)
    → IfOk result (IsShrinking bytes) → IfErr result (IsNotGiven bytes)
    → (fault : TextFault) → IsFirstGivenFault bytes fault
    → MatchResult result (λ _. ⊥) (λ e. (e ≡ Text fault) ⊎ (e ≡ NoMemory))
first_of_smaller bytes result found refused =
    first_answer (IsShrinking bytes) bytes result found refused (shrinking_or_fault bytes)

-- ---- the answers of `explained_text` and `picture_text`

-- bytes that give a book are not refused
pub never_refused : {V : Type 0} (bytes : List ℕ) (result : Result V ReadFault)
    → IfErr result (IsNotGiven bytes) → (kind : Kind) (book : List Page) → IsGiven bytes kind book
    → IfErr result (λ e. e ≡ NoMemory)
never_refused bytes (Ok text) refused kind book given = tt
never_refused bytes (Err NoMemory) refused kind book given = refl
never_refused bytes (Err (Text fault)) refused kind book given =
    absurd (given_or_fault bytes kind book fault given refused)

explained_or_fault : (bytes : List ℕ) (explanation : Explanation) (fault : TextFault)
    → IsExplanationOf bytes explanation → IsFirstGivenFault bytes fault → ⊥
explained_or_fault bytes (Illegal line) fault h first =
    given_or_fault bytes h.kind h.book fault h.told first
explained_or_fault bytes (NoneBroken line) fault h first =
    given_or_fault bytes h.kind h.book fault h.told first

pub first_of_explanation : (bytes : List ℕ) (result : Result Explanation ReadFault)
    → IfOk result (IsExplanationOf bytes) → IfErr result (IsNotGiven bytes)
    → (fault : TextFault) → IsFirstGivenFault bytes fault
    → MatchResult result (λ _. ⊥) (λ e. (e ≡ Text fault) ⊎ (e ≡ NoMemory))
first_of_explanation bytes result found refused =
    first_answer (IsExplanationOf bytes) bytes result found refused (explained_or_fault bytes)

pub first_of_picture : (bytes : List ℕ) (result : Result (String Global) ReadFault)
    → IfOk result (λ text. IsPictureOf bytes (string_bytes text)) → IfErr result (IsNotGiven bytes)
    → (fault : TextFault) → IsFirstGivenFault bytes fault
    → MatchResult result (λ _. ⊥) (λ e. (e ≡ Text fault) ⊎ (e ≡ NoMemory))
first_of_picture bytes result found refused =
    first_answer (λ text. IsPictureOf bytes (string_bytes text)) bytes result found refused
    (λ text fault h first. given_or_fault bytes h.kind h.book fault h.told first)
