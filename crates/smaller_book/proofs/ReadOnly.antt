-- From a legal order of a book to one of a part that lacks only read-only calls.
use Rattle.std.proofs.Common.{◌≡◌, ℕ, ◌∙◌, ◌↔◌, List, Option, Some, unwrap_or, refl, sym, ap, subst, inl}
use Rattle.std.proofs.lemmas.Option.{slice_get_within, same_Some}
use Rattle.book_base.specs.declared.call.Call.{Call}
use Rattle.book_base.specs.declared.call.Record.{Record}
use Rattle.book_base.specs.Book.{Page, IsCall, IsAnswered, operation_of, record_of}
use Rattle.book_base.specs.Reaching.{Leaves}
use Rattle.smaller_book.specs.ReadOnly.{LeavesAlways, IsReadOnly, LacksReadOnlyAlone, HasOneWithoutReadOnly}
use Rattle.smaller_book.proofs.Following.{word_at, AgreesAt, IsFollowed, has_one_in_part}

-- An answered call is read-only exactly where its operation is so with the recorded reply.
pub answered_read_only : (next : List ℕ → ℕ → List ℕ × ℕ) (book : List Page) (call : Call) (op : ℕ)
    (r : Record) → IsCall book call → operation_of book call ≡ Some op
    → record_of book call ≡ Some r → Leaves next op r.reply ↔ IsReadOnly next book call
answered_read_only next book call op r inside word known = (
  λ leaves. (
    inside,
    λ reply may.
        subst (λ (o : Option ℕ). Leaves next (unwrap_or o 0) reply) (sym word)
        (subst (Leaves next op) (may r known) leaves),
  ),
  λ only.
      subst (λ (o : Option ℕ). Leaves next (unwrap_or o 0) r.reply) word
      (only.1 r.reply
      (λ s e. ap (λ (t : Record). t.reply) (same_Some s r (sym e ∙ known)))),
)

-- An unanswered call is read-only exactly where its operation is so with every reply.
pub unanswered_read_only : (next : List ℕ → ℕ → List ℕ × ℕ) (book : List Page) (call : Call)
    (op : ℕ) → IsCall book call → operation_of book call ≡ Some op → ¬ IsAnswered book call
    → LeavesAlways next op ↔ IsReadOnly next book call
unanswered_read_only next book call op inside word unanswered = (
  λ always. (
    inside,
    λ reply may.
        subst (λ (o : Option ℕ). Leaves next (unwrap_or o 0) reply) (sym word) (always reply),
  ),
  λ only reply.
      subst (λ (o : Option ℕ). Leaves next (unwrap_or o 0) reply) word
      (only.1 reply (λ r known. absurd (unanswered (slice_get_within _ call.number r known)))),
)

-- A read-only call doesn't change a list at which the object gives its recorded reply, where it has
-- one.
list_stays : (next : List ℕ → ℕ → List ℕ × ℕ) (book : List Page) (list : List ℕ) (call : Call)
    → AgreesAt book next list call
    → IsReadOnly next book call → (next list (word_at book call)).0 ≡ list
list_stays next book list call agrees leaves =
    leaves.1 (next list (word_at book call)).1 agrees list refl

-- Where a part lacks only read-only calls, each call keeps the list with all calls equal to the one
-- with the part's calls.
followed : (next : List ℕ → ℕ → List ℕ × ℕ) (book : List Page) (names : List (List ℕ))
    → LacksReadOnlyAlone next book names → IsFollowed (λ whole few. whole ≡ few) next book names
followed next book names lacks = record {
  lacks = λ whole few call same inside unnamed agrees.
      list_stays next book whole call agrees (lacks call inside unnamed) ∙ same;
  has = λ whole few call same inside named agrees. inl (
    λ answered. ap (λ (list : List ℕ). (next list (word_at book call)).1) (sym same),
    ap (λ (list : List ℕ). (next list (word_at book call)).0) same,
  );
}

-- Where a part lacks only read-only calls, a legal order of the book gives one of the part.
pub has_one_without_read_only : HasOneWithoutReadOnly
has_one_without_read_only next book names part is lacks list legal =
    has_one_in_part (λ whole few. whole ≡ few) next book names part list list is
    (followed next book names lacks) refl legal
