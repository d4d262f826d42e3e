-- What a check of entries comes to.
use Rattle.std.proofs.Common.{◌≡◌, ℕ, ◌+◌, ◌<◌, ◌∙◌, List, [], ◌∷◌, length, fold, take, Some, Result, Ok, Err, IfOk, IfErr, OnOk, IsOk, inl, inr, refl, sym, ap, subst, slice_get, arith}
use Rattle.std.proofs.lemmas.Option.{same_Some, slice_get_within}
use Rattle.list_laws.proofs.Places.{slice_get-push_old}
use Rattle.book_base.specs.SeqSpec.{SeqSpec}
use Rattle.book_base.specs.Book.{Page}
use Rattle.book_base.specs.Next.{HoldsAnswered}
use Rattle.refutations.specs.declared.entry.Entry.{Entry}
use Rattle.refutations.specs.declared.fault.ClosedFault.{ClosedFault}
use Rattle.refutations.specs.declared.fault.ClosedFault.TheVariants.{Unlisted, Whole, Leads}
use Rattle.refutations.specs.Closed.{Item, IsOneItem, first_item, LeadsInside, IsClosedAt, with_entry, items_of, IsMade, MakeClosed}
use Rattle.refutations.specs.Fault.{FailsTest, IsFirstFault, turn_of, number_of, step_of}
use Rattle.refutations.specs.Stored.{IsFirstOpen}

-- the entries with numbers below k make items
abbrev pub MakeItems : SeqSpec → List Page → List Entry → ℕ → Type 0
MakeItems spec book entries k = (j : ℕ) (entry : Entry) → j < k → slice_get entries j ≡ Some entry
    → IsMade book (items_of spec book (take j entries)) entry

module _ (spec : SeqSpec) (book : List Page) (entries : List Entry) where
  -- Of entries that make items up to a number, none up to it is a fault.
  none_unlisted : (k : ℕ) (other : ClosedFault) → MakeItems spec book entries k
      → turn_of other < 1 → number_of other < k + 1 → FailsTest spec book entries other → ⊥
  none_unlisted k (Unlisted e) made turn low (j, it, is, there, fails) =
      fails (made j it (omega (arith, low, is)) there)
  none_unlisted k (Whole e) made turn low fails = absurd (omega (arith, turn))
  none_unlisted k (Leads e i) made turn low fails = absurd (omega (arith, turn))

  -- Where all entries make items, no entry is a fault.
  all_listed : (other : ClosedFault) → MakeItems spec book entries (length entries)
      → turn_of other < 1 → FailsTest spec book entries other → ⊥
  all_listed (Unlisted e) made turn (j, it, is, there, fails) =
      fails (made j it (slice_get_within entries j it there) there)
  all_listed (Whole e) made turn fails = absurd (omega (arith, turn))
  all_listed (Leads e i) made turn fails = absurd (omega (arith, turn))

  -- The first entry that makes no item is the first fault.
  pub first_unlisted : (k : ℕ) (entry : Entry) → MakeItems spec book entries k
      → slice_get entries k ≡ Some entry
      → (IsMade book (items_of spec book (take k entries)) entry → ⊥)
      → IsFirstFault spec book entries (Unlisted (k + 1))
  first_unlisted k entry made at not_made = record {
    fails = (k, entry, refl, at, not_made);
    first = λ other tried fails. elim tried [
      | inl less ↦ absurd (omega (arith, less))
      | inr same ↦ elim same.1 [
        | inl less ↦ none_unlisted k other made (omega (arith, same.0)) less fails
        | inr equal ↦ absurd (omega (arith, equal.1))
      ]
    ];
  }

  module _ (number : ℕ) (item : Item) (there : slice_get (items_of spec book entries) number
      ≡ Some item) where
    -- no earlier item is a fault
    none_before : (other : ClosedFault) → ((e : ℕ) (it : Item) → e < number
        → slice_get (items_of spec book entries) e ≡ Some it
        → IsClosedAt spec book (items_of spec book entries) it)
        → turn_of other ≡ 1 → number_of other < number → FailsTest spec book entries other → ⊥
    none_before (Unlisted e) before turn low fails = absurd (omega (arith, turn))
    none_before (Whole e) before turn low (it, at, holds) = (before e it low at).unfinished holds
    none_before (Leads e i) before turn low (it, at, outside) =
        outside ((before e it low at).leads i)

    -- the item has no fault before that of a caller
    none_here : (other : ClosedFault) (caller : ℕ) → (HoldsAnswered book item.cut → ⊥)
        → ((i : ℕ) → i < caller → LeadsInside spec book (items_of spec book entries) item i)
        → turn_of other ≡ 1 → number_of other ≡ number → step_of other < caller + 1
        → FailsTest spec book entries other → ⊥
    none_here (Unlisted e) caller unfinished leads turn same low fails =
        absurd (omega (arith, turn))
    none_here (Whole e) caller unfinished leads turn same low (it, at, holds) =
        let one : it ≡ item = same_Some it item (sym at
        ∙ (ap (slice_get (items_of spec book entries)) same ∙ there)) in
        unfinished (subst (λ (x : Item). HoldsAnswered book x.cut) one holds)
    none_here (Leads e i) caller unfinished leads turn same low (it, at, outside) =
        let one : it ≡ item = same_Some it item (sym at
        ∙ (ap (slice_get (items_of spec book entries)) same ∙ there)) in
        outside (subst (λ (x : Item). LeadsInside spec book (items_of spec book entries) x i)
        (sym one) (leads i (omega (arith, low))))

  -- Of entries that all make items, the first test that their items fail is the first fault.
  pub first_open : (fault : ClosedFault) → MakeItems spec book entries (length entries)
      → IsFirstOpen spec book (items_of spec book entries) fault
      → IsFirstFault spec book entries fault
  first_open (Unlisted e) made at = absurd at.fault_there
  first_open (Whole e) made at =
      let same : e ≡ at.number = at.fault_there.0 in
      record {
        fails = (
          at.item,
          ap (slice_get (items_of spec book entries)) same ∙ at.there,
          at.fault_there.1,
        );
        first = λ other tried fails. elim tried [
          | inl less ↦ all_listed other made less fails
          | inr turn ↦ elim turn.1 [
            | inl less ↦ none_before at.number at.item at.there other at.before turn.0
                (omega (arith, less, same)) fails
            | inr equal ↦ absurd (omega (arith, equal.1))
          ]
        ];
      }
  first_open (Leads e caller) made at =
      let same : e ≡ at.number = at.fault_there.0 in
      record {
        fails = (
          at.item,
          ap (slice_get (items_of spec book entries)) same ∙ at.there,
          at.fault_there.2,
        );
        first = λ other tried fails. elim tried [
          | inl less ↦ all_listed other made less fails
          | inr turn ↦ elim turn.1 [
            | inl less ↦ none_before at.number at.item at.there other at.before turn.0
                (omega (arith, less, same)) fails
            | inr equal ↦ none_here at.number at.item at.there other caller at.fault_there.1
                at.fault_there.3 turn.0 (equal.0 ∙ same) equal.1 fails
          ]
        ];
      }

  -- the first item of a list stays its first one as entries make more
  begins_so : (more : List Entry) (list : List Item) (item : Item) → slice_get list 0 ≡ Some item
      → slice_get (fold (with_entry spec book) list more) 0 ≡ Some item
  begins_so [] list item at = at
  begins_so (entry ∷ more) list item at =
      begins_so more (with_entry spec book list entry) item
      (slice_get-push_old list _ 0 item at)

  -- Entries that all make items, of which the list is closed at each, make a closed list.
  pub makes_closed : MakeItems spec book entries (length entries)
      → ((item : Item) → IsOneItem (items_of spec book entries) item
      → IsClosedAt spec book (items_of spec book entries) item)
      → MakeClosed spec book entries
  makes_closed made closed = record {
    made = λ k entry at. made k entry (slice_get_within entries k entry at) at;
    closed = record {
      begins = (0, begins_so entries (first_item spec book ∷ []) (first_item spec book) refl);
      closed = closed;
    };
  }

-- what one answer has, another one has that follows from it
pub IfOk-OnOk : {A E F : Type 0} {P Q : Type 0} (r : Result (Result A E) F)
    → IfOk r (λ answer. OnOk answer P) → (P → Q) → IfOk r (λ answer. OnOk answer Q)
IfOk-OnOk (Ok (Ok a)) h gives = gives h
IfOk-OnOk (Ok (Err e)) h gives = tt
IfOk-OnOk (Err f) h gives = tt

pub IfOk-IfErr : {A E F : Type 0} {P Q : E → Type 0} (r : Result (Result A E) F)
    → IfOk r (λ answer. IfErr answer P) → ((e : E) → P e → Q e)
    → IfOk r (λ answer. IfErr answer Q)
IfOk-IfErr (Ok (Ok a)) h gives = tt
IfOk-IfErr (Ok (Err e)) h gives = gives e h
IfOk-IfErr (Err f) h gives = tt

pub IfOk-IsOk : {A E F : Type 0} {P : E → Type 0} (r : Result (Result A E) F)
    → IfOk r (λ answer. IfErr answer P) → ((e : E) → P e → ⊥) → IfOk r IsOk
IfOk-IsOk (Ok (Ok a)) h never = refl
IfOk-IsOk (Ok (Err e)) h never = absurd (never e h)
IfOk-IsOk (Err f) h never = tt

-- an entry
abbrev pub no_entry : Entry
no_entry = record { item = 0; caller = 0 }
