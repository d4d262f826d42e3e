-- Places that lead from one cut and list to another, put together and taken apart.
use Rattle.std.proofs.Common.{ℕ, ◌≤◌, List, [], ◌∷◌, ◌++◌, length, refl, sym, ap, subst, arith}
use Rattle.std.proofs.lemmas.List.{length-replicate}
use Rattle.std.specs.List.{AllByRecursion}
use Rattle.list_laws.proofs.Places.{get_or-replicate_default}
use Rattle.book_base.specs.declared.call.Place.{Place}
use Rattle.book_base.specs.Book.{Page, IsCall}
use Rattle.book_base.specs.Order.{call_at, IsLegalOrder, HasLegalOrder}
use Rattle.book_base.specs.Next.{raised, list_after, HoldsAnswered, MayStandNext, Continues}
use Rattle.legal_orders.proofs.LegalOrder.{continues_from_legal_order, legal_order_from_continues}
use Rattle.seq_objects.specs.declared.kind.Kind.{Kind}
use Rattle.seq_objects.specs.Objects.{kind_init, kind_next, kind_spec}
use Rattle.legal_prefixes.specs.Prefixes.{Lead, no_calls, IsLegalPrefix, OrdersBeginLegally}

-- places lead on by one more place that may stand next after them
pub lead-one_more : (book : List Page) (next : List ℕ → ℕ → List ℕ × ℕ) (cut list : List ℕ)
    (places : List Place) (to_cut to_list : List ℕ) (place : Place)
    → Lead book next cut list places to_cut to_list → MayStandNext book next to_cut to_list place
    → Lead book next cut list (places ++ place ∷ []) (raised to_cut place.caller)
    (list_after book next to_list place)
lead-one_more book next cut list [] to_cut to_list place (same_cut, same_list) may = (
  subst (λ (c : List ℕ). MayStandNext book next c list place) (sym same_cut)
      (subst (λ (l : List ℕ). MayStandNext book next to_cut l place) (sym same_list) may),
  (
    ap (λ (c : List ℕ). raised c place.caller) same_cut,
    ap (λ (l : List ℕ). list_after book next l place) same_list,
  ),
)
lead-one_more book next cut list (first ∷ places) to_cut to_list place (stands, leads) may = (
  stands,
  lead-one_more book next (raised cut first.caller) (list_after book next list first) places to_cut
      to_list place leads may,
)

-- places that continue an order lead to a cut that holds all answered calls
pub lead_from_continues : (book : List Page) (next : List ℕ → ℕ → List ℕ × ℕ) (cut list : List ℕ)
    (places : List Place) → Continues book next cut list places
    → (to_cut to_list : List ℕ) × Lead book next cut list places to_cut to_list
    × HoldsAnswered book to_cut
lead_from_continues book next cut list [] holds = (cut, list, (refl, refl), holds)
lead_from_continues book next cut list (first ∷ places) (stands, goes) =
    let rest = lead_from_continues book next (raised cut first.caller)
    (list_after book next list first) places goes in
    (rest.0, rest.1, (stands, rest.2), rest.3)

-- places that lead to a cut that holds all answered calls continue an order
pub continues_from_lead : (book : List Page) (next : List ℕ → ℕ → List ℕ × ℕ) (cut list : List ℕ)
    (places : List Place) (to_cut to_list : List ℕ)
    → Lead book next cut list places to_cut to_list → HoldsAnswered book to_cut
    → Continues book next cut list places
continues_from_lead book next cut list [] to_cut to_list leads holds =
    subst (HoldsAnswered book) (sym leads.0) holds
continues_from_lead book next cut list (first ∷ places) to_cut to_list leads holds = (
  leads.0,
  continues_from_lead book next (raised cut first.caller) (list_after book next list first) places
      to_cut to_list leads.1 holds,
)

-- the first ones of places that continue an order lead somewhere
first_lead : (book : List Page) (next : List ℕ → ℕ → List ℕ × ℕ) (cut list : List ℕ)
    (places rest : List Place) → Continues book next cut list (places ++ rest)
    → (to_cut to_list : List ℕ) × Lead book next cut list places to_cut to_list
first_lead book next cut list [] rest goes = (cut, list, (refl, refl))
first_lead book next cut list (first ∷ places) rest (stands, goes) =
    let later = first_lead book next (raised cut first.caller)
    (list_after book next list first) places rest goes in
    (later.0, later.1, (stands, later.2))

-- each place that leads somewhere is one of a call of the book
pub calls_from_lead : (book : List Page) (next : List ℕ → ℕ → List ℕ × ℕ) (cut list : List ℕ)
    (places : List Place) (to_cut to_list : List ℕ)
    → Lead book next cut list places to_cut to_list
    → AllByRecursion (λ place. IsCall book (call_at place)) places
calls_from_lead book next cut list [] to_cut to_list leads = tt
calls_from_lead book next cut list (first ∷ places) to_cut to_list leads = (
  leads.0.may_come.is_call,
  calls_from_lead book next (raised cut first.caller) (list_after book next list first) places
      to_cut to_list leads.1,
)

-- the cut without calls is wide enough for a book
wide : (book : List Page) → length book ≤ length (no_calls book)
wide book = omega (arith, length-replicate {A = ℕ} (length book) 0)

-- a legal order is a legal prefix that leads to a cut that holds all answered calls
pub prefix_from_order : (kind : Kind) (book : List Page) (order : List Place)
    → IsLegalOrder (kind_spec kind) book order
    → (cut list : List ℕ) × IsLegalPrefix kind book order cut list × HoldsAnswered book cut
prefix_from_order kind book order legal =
    lead_from_continues book (kind_next kind) (no_calls book) (kind_init kind) order
    (continues_from_legal_order book (kind_spec kind) (no_calls book) order (wide book)
    (λ (i : ℕ). get_or-replicate_default {X = ℕ} (length book) i 0) legal)

-- a legal prefix that leads to a cut that holds all answered calls is a legal order
pub order_from_prefix : (kind : Kind) (book : List Page) (places : List Place) (cut list : List ℕ)
    → IsLegalPrefix kind book places cut list → HoldsAnswered book cut
    → HasLegalOrder (kind_spec kind) book
order_from_prefix kind book places cut list leads holds = (
  places,
  legal_order_from_continues book (kind_spec kind) (no_calls book) places (wide book)
      (λ (i : ℕ). get_or-replicate_default {X = ℕ} (length book) i 0)
      (continues_from_lead book (kind_next kind) (no_calls book) (kind_init kind) places cut list
      leads holds),
)

pub orders_begin_legally : OrdersBeginLegally
orders_begin_legally kind book places rest legal =
    first_lead book (kind_next kind) (no_calls book) (kind_init kind) places rest
    (continues_from_legal_order book (kind_spec kind) (no_calls book) (places ++ rest) (wide book)
    (λ (i : ℕ). get_or-replicate_default {X = ℕ} (length book) i 0) legal)
