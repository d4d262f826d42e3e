-- Locality: a product of objects, one for each key, and the parts of a book by key (Herlihy and
-- Wing 1990).
use Rattle.std.specs.Prelude.{◌≡◌, ℕ, nat_eq, ◌↔◌, List, length, filter, Some}
use Rattle.book_base.specs.declared.call.Call.{Call}
use Rattle.book_base.specs.declared.call.Record.{Record}
use Rattle.book_base.specs.SeqSpec.{SeqSpec}
use Rattle.book_base.specs.Book.{Page, IsValid, operation_of, record_of}
use Rattle.book_base.specs.Sequential.{IsRunFrom}
use Rattle.book_base.specs.Order.{HasLegalOrder}
use Rattle.book_base.specs.Pruning.{HasOneOpen}
use Rattle.legal_orders.specs.Keys.{IsKeyed}
use Rattle.smaller_book.specs.Part.{IsNamed, IsPart, KeepsAnswers}

-- An object is a product of objects, one for each key: `key` gives the key of each operation word,
-- and `list_of` gives for a key and a list of the product the list of the key's object. The product
-- begins where its objects begin. An operation has the reply of its key's object, changes its list
-- as this object does, and changes the list of no other key.
pub record IsProduct (key : ℕ → ℕ) (list_of : ℕ → List ℕ → List ℕ) (objects : ℕ → SeqSpec)
    (product : SeqSpec) : Type 0 where
  pub init : (k : ℕ) → list_of k product.init ≡ (objects k).init
  pub reply : (list : List ℕ) (op : ℕ)
      → (product.next list op).1 ≡ ((objects (key op)).next (list_of (key op) list) op).1
  pub own : (list : List ℕ) (op : ℕ) → list_of (key op) (product.next list op).0
      ≡ ((objects (key op)).next (list_of (key op) list) op).0
  pub others : (list : List ℕ) (op k : ℕ) → (key op ≡ k → ⊥)
      → list_of k (product.next list op).0 ≡ list_of k list

-- Each family of objects has a product.
abbrev pub ProductsExist : Type 0
ProductsExist = (key : ℕ → ℕ) (objects : ℕ → SeqSpec) → (list_of : ℕ → List ℕ → List ℕ)
    × (product : SeqSpec) × IsProduct key list_of objects product

-- A product is an object of keys.
abbrev pub ProductsAreKeyed : Type 0
ProductsAreKeyed =
    (key : ℕ → ℕ) (list_of : ℕ → List ℕ → List ℕ) (objects : ℕ → SeqSpec) (product : SeqSpec)
    → IsProduct key list_of objects product → IsKeyed (λ op. Some (key op)) list_of product.next

-- A part of a book is the part of a key: it has exactly the calls whose operation words have this
-- key, and all their answers.
pub record IsPartOfKey (key : ℕ → ℕ) (k : ℕ) (book : List Page) (names : List (List ℕ))
    (part : List Page) : Type 0 where
  pub is_part : IsPart book names part
  pub answers : KeepsAnswers book names part
  pub calls : (call : Call) (op : ℕ) → operation_of book call ≡ Some op
      → (IsNamed names call ↔ (key op ≡ k))

-- The part of a key is a valid book where the book is and each view of the part has one count per
-- caller, and each of its views holds at most one unanswered call of each caller where each view of
-- the book does.
abbrev pub PartsAreBooks : Type 0
PartsAreBooks =
    (key : ℕ → ℕ) (k : ℕ) (book : List Page) (names : List (List ℕ)) (part : List Page)
    → IsPartOfKey key k book names part
    → (IsValid book → ((call : Call) (r : Record) → record_of part call ≡ Some r
    → length r.view ≡ length part) → IsValid part)
    × (HasOneOpen book → HasOneOpen part)

-- Where a product has a legal order of a book, each of its objects has one of the part of its key.
abbrev pub LegalWholesHaveLegalParts : Type 0
LegalWholesHaveLegalParts =
    (key : ℕ → ℕ) (list_of : ℕ → List ℕ → List ℕ) (objects : ℕ → SeqSpec) (product : SeqSpec)
    (k : ℕ) (book : List Page) (names : List (List ℕ)) (part : List Page)
    → IsProduct key list_of objects product → IsPartOfKey key k book names part
    → HasLegalOrder product book → HasLegalOrder (objects k) part

-- The steps of a key among some steps, each an operation word and its reply.
abbrev pub steps_of_key : (ℕ → ℕ) → ℕ → List (ℕ × ℕ) → List (ℕ × ℕ)
steps_of_key key k steps = filter (λ step. nat_eq (key step.0) k) steps

-- Steps are a run of a product from a list exactly where the steps of each key are a run of the
-- key's object from its list.
abbrev pub RunsOfProducts : Type 0
RunsOfProducts =
    (key : ℕ → ℕ) (list_of : ℕ → List ℕ → List ℕ) (objects : ℕ → SeqSpec) (product : SeqSpec)
    (list : List ℕ) (steps : List (ℕ × ℕ)) → IsProduct key list_of objects product
    → (IsRunFrom product.next list steps ↔ ((k : ℕ)
    → IsRunFrom (objects k).next (list_of k list) (steps_of_key key k steps)))

-- Where each view of a valid book holds at most one unanswered call of each caller, a product has a
-- legal order of the book exactly where each of its objects has one of the part of its key (Herlihy
-- and Wing 1990, theorem 1).
abbrev pub Locality : Type 0
Locality =
    (key : ℕ → ℕ) (list_of : ℕ → List ℕ → List ℕ) (objects : ℕ → SeqSpec) (product : SeqSpec)
    (book : List Page) (names : ℕ → List (List ℕ)) (parts : ℕ → List Page)
    → IsProduct key list_of objects product → IsValid book → HasOneOpen book
    → ((k : ℕ) → IsPartOfKey key k book (names k) (parts k))
    → (HasLegalOrder product book ↔ ((k : ℕ) → HasLegalOrder (objects k) (parts k)))
