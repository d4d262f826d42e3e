-- The calls that may come next after a longest legal prefix.
use Rattle.std.proofs.Common.{◌≡◌, ℕ, ◌+◌, ◌<◌, ◌∙◌, List, [], ◌∷◌, ◌++◌, length, get_or, Option, Some, unwrap_or, sym, ap, subst, inl, inr, slice_get, arith}
use Rattle.std.proofs.lemmas.Bool.{cases_eq}
use Rattle.list_laws.proofs.Places.{slice_get-push_old, slice_get-push_last, slice_get-push_cases}
use Rattle.book_base.specs.declared.call.Call.{Call}
use Rattle.book_base.specs.declared.call.Record.{Record}
use Rattle.book_base.specs.Book.{Page, operation_of, record_of}
use Rattle.book_base.specs.Next.{next_call, MayComeNext}
use Rattle.legal_orders.proofs.LegalOrder.{same_call}
use Rattle.seq_objects.specs.declared.kind.Kind.{Kind}
use Rattle.seq_objects.specs.Objects.{kind_next}
use Rattle.legal_prefixes.specs.declared.prefix.LegalPrefix.{LegalPrefix}
use Rattle.legal_prefixes.specs.declared.blocked.Blocked.{Blocked}
use Rattle.legal_prefixes.specs.Longest.{IsLongest, IsBlocked, AreBlocked, IsOneOf, AddsBlocked}
use Rattle.legal_prefixes.proofs.Layering.{stuck}

-- the reply that the object gives to a call
pub given_is : (kind : Kind) (book : List Page) (list loaded : List ℕ) (call : Call) (op given : ℕ)
    → operation_of book call ≡ Some op → loaded ≡ list → given ≡ (kind_next kind loaded op).1
    → (kind_next kind list (unwrap_or (operation_of book call) 0)).1 ≡ given
given_is kind book list loaded call op given asked same gives =
    ap (λ (o : Option ℕ). (kind_next kind list (unwrap_or o 0)).1) asked
    ∙ ap (λ (l : List ℕ). (kind_next kind l op).1) (sym same) ∙ sym gives

-- After a longest legal prefix no call that may come next gets its recorded reply.
pub never_given : (kind : Kind) (book : List Page) (prefix : LegalPrefix) (call : Call) (given : ℕ)
    → IsLongest kind book prefix → MayComeNext book prefix.cut call
    → (kind_next kind prefix.words.items (unwrap_or (operation_of book call) 0)).1 ≡ given
    → ((r : Record) → record_of book call ≡ Some r → r.reply ≡ given) → ⊥
never_given kind book prefix call given longest may gives recorded =
    stuck kind book prefix
    (record { caller = call.caller; number = call.number; reply = given }) longest
    (record { may_come = may; recorded = recorded; reply = gives })

-- a call that may come next is its caller's next one
pub is_next : (book : List Page) (cut : List ℕ) (caller : ℕ) (call : Call) → call.caller ≡ caller
    → MayComeNext book cut call → call ≡ next_call cut caller
is_next book cut caller call by may =
    same_call call (next_call cut caller) by (may.next ∙ ap (λ (i : ℕ). get_or cut i 0) by)

-- One more blocked call, the next one of its caller.
pub blocked-push : (kind : Kind) (book : List Page) (cut list : List ℕ) (caller : ℕ)
    (old : List Blocked) (blocked : Blocked) → blocked.call ≡ next_call cut caller
    → IsBlocked kind book cut list blocked
    → AddsBlocked kind book cut list caller old (old ++ blocked ∷ [])
blocked-push kind book cut list caller old blocked is there = record {
  sound = λ (all : AreBlocked kind book cut list old) (k : ℕ) (it : Blocked)
      (has : slice_get (old ++ blocked ∷ []) k ≡ Some it).
      elim (slice_get-push_cases old blocked k it has) [
        | inl before ↦ all k it before
        | inr here ↦ subst (IsBlocked kind book cut list) (sym here.1) there
      ];
  kept = λ (call : Call) (it : IsOneOf old call).
      (it.0, it.1, slice_get-push_old old blocked it.0 it.1 it.2, it.3);
  added = λ (call : Call) (by : call.caller ≡ caller) (may : MayComeNext book cut call). (
    length old,
    blocked,
    slice_get-push_last old blocked,
    is ∙ sym (is_next book cut caller call by may),
  );
}

-- A caller whose next call may not come next adds nothing.
pub blocked-none : (kind : Kind) (book : List Page) (cut list : List ℕ) (caller : ℕ)
    (old : List Blocked) → (MayComeNext book cut (next_call cut caller) → ⊥)
    → AddsBlocked kind book cut list caller old old
blocked-none kind book cut list caller old never = record {
  sound = λ all. all;
  kept = λ call it. it;
  added = λ (call : Call) (by : call.caller ≡ caller) (may : MayComeNext book cut call).
      absurd (never (subst (MayComeNext book cut) (is_next book cut caller call by may) may));
}

-- The calls of the first callers, and then that of one more.
pub complete_more : (kind : Kind) (book : List Page) (cut list : List ℕ) (caller : ℕ)
    (old new : List Blocked)
    → ((call : Call) → call.caller < caller → MayComeNext book cut call → IsOneOf old call)
    → AddsBlocked kind book cut list caller old new
    → (call : Call) → call.caller < caller + 1 → MayComeNext book cut call → IsOneOf new call
complete_more kind book cut list caller old new first then call below may =
    elim (cases_eq call.caller caller) [
      | inl same ↦ then.added call same may
      | inr other ↦ then.kept call (first call (omega arith) may)
    ]
