-- A recorded reply is impossible exactly where the object denies it.
use Rattle.std.proofs.Common.{◌≡◌, ℕ, ◌<◌, ◌↔◌, length, Bool, true, false, not, IsTrue, List, Some, refl, sym, ap, subst, ◌∙◌}
use Rattle.std.specs.Option.{IsSomeAnd}
use Rattle.std.proofs.lemmas.Bool.{true≢false}
use Rattle.std.proofs.lemmas.Option.{same_Some, slice_get_within}
use Rattle.list_laws.proofs.Options.{some_from_is_some_and}
use Rattle.book_base.specs.declared.call.Call.{Call}
use Rattle.book_base.specs.declared.call.Record.{Record}
use Rattle.book_base.specs.SeqSpec.{SeqSpec}
use Rattle.book_base.specs.Book.{Page, IsAnswered, operation_of, record_of}
use Rattle.book_base.proofs.PageLemmas.{caller_from_call}
use Rattle.book_base.specs.Reaching.{MayReply}
use Rattle.seq_objects.specs.declared.kind.Kind.{Kind}
use Rattle.seq_objects.specs.Objects.{kind_next, kind_spec}
use Rattle.refutations.specs.Impossible.{IsImpossible}

-- An answer is no where the opposite is yes.
denied : (may : Bool) → not may ≡ true → may ≡ true → ⊥
denied true h k = true≢false (sym h)
denied false h k = true≢false (sym k)

allowed : (may : Bool) → (may ≡ true → ⊥) → not may ≡ true
allowed true h = absurd (h refl)
allowed false h = refl

pub impossible-from_call : (kind : Kind) (book : List Page) (call : Call) (op reply : ℕ)
    (may : Bool) → operation_of book call ≡ Some op
    → IsSomeAnd (record_of book call) (λ r. reply ≡ r.reply)
    → IsTrue may ↔ MayReply (kind_next kind) op reply
    → IsTrue (not may) ↔ IsImpossible (kind_spec kind) book call
impossible-from_call kind book call op reply may asked answered is =
    let known = some_from_is_some_and (record_of book call) (λ r. reply ≡ r.reply) answered in
    let says : IsSomeAnd (Some known.0) (λ r. reply ≡ r.reply) =
    subst (λ o. IsSomeAnd o (λ r. reply ≡ r.reply)) known.1 answered in (
      λ no. record {
        op = op;
        r = known.0;
        asked = asked;
        answered = known.1;
        never = λ m. denied may no
            (is.1 (subst (λ (v : ℕ). MayReply (kind_next kind) op v) (sym says) m));
      },
      λ it. allowed may (λ yes.
          let same_op : op ≡ it.op = same_Some op it.op (sym asked ∙ it.asked) in
          let same_r : known.0 ≡ it.r = same_Some known.0 it.r (sym known.1 ∙ it.answered) in
          it.never (subst (λ (o : ℕ). MayReply (kind_next kind) o it.r.reply) same_op
          (subst (λ (v : ℕ). MayReply (kind_next kind) op v)
          (says ∙ ap (λ (r : Record). r.reply) same_r) (is.0 yes)))),
    )

-- A call with an impossible reply is answered.
pub answered_if_impossible : (spec : SeqSpec) (book : List Page) (call : Call)
    → IsImpossible spec book call → IsAnswered book call
answered_if_impossible spec book call it = slice_get_within _ call.number it.r it.answered

-- The caller of a call with an impossible reply is one of the book's.
pub caller_if_impossible : (spec : SeqSpec) (book : List Page) (call : Call)
    → IsImpossible spec book call → call.caller < length book
caller_if_impossible spec book call it =
    caller_from_call book call.caller call.number (slice_get_within _ call.number it.op it.asked)
