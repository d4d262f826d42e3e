-- A call with the forced call's key is moved to the first place.
use Rattle.std.proofs.Common.{◌≡◌, ◌≢◌, ℕ, ◌+◌, ◌<◌, ◌≤◌, ◌⊎◌, ◌∙◌, Bool, IsTrue, List, [], ◌∷◌, length, get_or, set, Option, Some, None, unwrap_or, refl, sym, ap, subst, inl, inr, length-set, arith}
use Rattle.std.proofs.lemmas.Bool.{cases_eq}
use Rattle.std.proofs.lemmas.Option.{same_Some, none-some}
use Rattle.book_base.specs.declared.call.Call.{Call}
use Rattle.book_base.specs.declared.call.Place.{Place}
use Rattle.book_base.specs.declared.call.Record.{Record}
use Rattle.book_base.specs.Cut.{Holds}
use Rattle.book_base.specs.Book.{Page, IsValid, IsCall, operation_of, record_of, Precedes}
use Rattle.book_base.specs.Order.{call_at, step_at}
use Rattle.book_base.specs.Next.{raised, next_call, MayComeNext, MayStandNext, list_after, Continues}
use Rattle.book_base.specs.Pruning.{HasOneOpen, IsForced}
use Rattle.legal_orders.proofs.LegalOrder.{raised_same, raised_other, raised_more, raised_cases, raised_twice, comes_later, same_call, within_cut}
use Rattle.legal_orders.specs.Keys.{IsKeyed, ForcedKeyGoesFirst}
use Rattle.legal_orders.proofs.Forcing.{forced-free, forced-stays}

-- an option is this key, or it isn't
cases_key : (o : Option ℕ) (k : ℕ) → (o ≡ Some k) ⊎ (o ≢ Some k)
cases_key None k = inr (λ (e : None ≡ Some k). none-some k e)
cases_key (Some j) k =
    elim (cases_eq j k) [
      | inl same ↦ inl (ap Some same)
      | inr apart ↦ inr (λ (e : Some j ≡ Some k). apart (same_Some j k e))
    ]

-- an option has something, or nothing
some_or_none : (o : Option ℕ) → ((k : ℕ) × (o ≡ Some k)) ⊎ (o ≡ None)
some_or_none None = inr refl
some_or_none (Some k) = inl (k, refl)

-- the word of a place's call
abbrev word_at : List Page → Place → ℕ
word_at book place = (step_at book place).0

-- Some places that continue the order begin with a call on the key, and are no more than the given
-- ones.
abbrev KeyGoesFirst : (ℕ → Option ℕ) → List Page → (List ℕ → ℕ → List ℕ × ℕ) → List ℕ
    → List ℕ → ℕ → ℕ
    → List Place → Type 0
KeyGoesFirst key book next cut list forced k rest =
    (place : Place) × (other : List Place) × Continues book next cut list (place ∷ other)
    × (key (word_at book place) ≡ Some k)
    × (length (place ∷ other) ≤ length rest)

-- lists are alike where each key has the same part of both
abbrev Alike : (ℕ → List ℕ → List ℕ) → List ℕ → List ℕ → Type 0
Alike part one other = (k : ℕ) → part k one ≡ part k other

-- The replies at lists that are alike are the same, and the lists after an operation are alike.
alike-reply : (key : ℕ → Option ℕ) (part : ℕ → List ℕ → List ℕ) (next : List ℕ → ℕ → List ℕ × ℕ)
    → IsKeyed key part next → (one other : List ℕ) (op : ℕ) → Alike part one other
    → (next one op).1 ≡ (next other op).1
alike-reply key part next is one other op alike =
    elim (some_or_none (key op)) [
      | inl found ↦ is.reply one other op found.0 found.1 (alike found.0)
      | inr none ↦ is.unkeyed one other op none
    ]

alike-after : (key : ℕ → Option ℕ) (part : ℕ → List ℕ → List ℕ) (next : List ℕ → ℕ → List ℕ × ℕ)
    → IsKeyed key part next → (one other : List ℕ) (op : ℕ) → Alike part one other
    → Alike part (next one op).0 (next other op).0
alike-after key part next is one other op alike k =
    elim (cases_key (key op) k) [
      | inl has ↦ is.own one other op k has (alike k)
      | inr lacks ↦ is.others one op k lacks ∙ (alike k ∙ sym (is.others other op k lacks))
    ]

-- Places that continue an order from a list continue it from one that is alike.
continues-alike : (key : ℕ → Option ℕ) (part : ℕ → List ℕ → List ℕ) (next : List ℕ → ℕ → List ℕ × ℕ)
    → IsKeyed key part next
    → (book : List Page) (cut one other : List ℕ) (rest : List Place) → Alike part one other
    → Continues book next cut one rest → Continues book next cut other rest
continues-alike key part next is book cut one other [] alike goes = goes
continues-alike key part next is book cut one other (place ∷ rest) alike goes =
    let there : MayStandNext book next cut other place = record {
      may_come = goes.0.may_come;
      recorded = goes.0.recorded;
      reply =
          sym (alike-reply key part next is one other (word_at book place) alike) ∙ goes.0.reply;
    } in (
      there,
      continues-alike key part next is book (raised cut place.caller)
          (list_after book next one place) (list_after book next other place) rest
          (alike-after key part next is one other (word_at book place) alike) goes.1,
    )

-- the reply after an operation on another key
reply-after : (key : ℕ → Option ℕ) (part : ℕ → List ℕ → List ℕ) (next : List ℕ → ℕ → List ℕ × ℕ)
    → IsKeyed key part next → (list : List ℕ) (a b : ℕ)
    → ((k : ℕ) → key a ≡ Some k → key b ≢ Some k) → (next (next list b).0 a).1 ≡ (next list a).1
reply-after key part next is list a b apart =
    elim (some_or_none (key a)) [
      | inl found ↦ is.reply (next list b).0 list a found.0 found.1
          (is.others list b found.0 (apart found.0 found.1))
      | inr none ↦ is.unkeyed (next list b).0 list a none
    ]

-- an operation on a key and one that isn't on it make lists that are alike in either order
alike-swapped : (key : ℕ → Option ℕ) (part : ℕ → List ℕ → List ℕ) (next : List ℕ → ℕ → List ℕ × ℕ)
    → IsKeyed key part next → (list : List ℕ) (a b k : ℕ)
    → key a ≡ Some k → key b ≢ Some k
    → Alike part (next (next list b).0 a).0 (next (next list a).0 b).0
alike-swapped key part next is list a b k with without j =
    elim (cases_eq j k) [
      | inl same ↦
          let has : key a ≡ Some j = with ∙ ap Some (sym same) in
          let lacks : key b ≢ Some j = λ (e : key b ≡ Some j). without (e ∙ ap Some same) in
          is.own (next list b).0 list a j has (is.others list b j lacks)
          ∙ sym (is.others (next list a).0 b j lacks)
      | inr apart ↦
          let lacks : key a ≢ Some j =
          λ (e : key a ≡ Some j). apart (same_Some j k (sym e ∙ with)) in
          is.others (next list b).0 a j lacks ∙ elim (cases_key (key b) j) [
            | inl has ↦ is.own list (next list a).0 b j has (sym (is.others list a j lacks))
            | inr not ↦ is.others list b j not
                ∙ (sym (is.others list a j lacks) ∙ sym (is.others (next list a).0 b j not))
          ]
    ]

-- Two neighbours of two callers may be exchanged, where the second has a key that the first hasn't
-- and may come next at once.
swapped : (key : ℕ → Option ℕ) (part : ℕ → List ℕ → List ℕ) (next : List ℕ → ℕ → List ℕ × ℕ)
    → IsKeyed key part next
    → (book : List Page) (cut list : List ℕ) (k : ℕ) (p x : Place) (rest : List Place)
    → length book ≤ length cut → p.caller ≢ x.caller
    → key (word_at book x) ≡ Some k → key (word_at book p) ≢ Some k
    → MayComeNext book cut (call_at x)
    → Continues book next cut list (p ∷ x ∷ rest) → Continues book next cut list (x ∷ p ∷ rest)
swapped key part next is book cut list k p x rest wide apart with without may goes =
    let a : ℕ = word_at book x in
    let b : ℕ = word_at book p in
    let inx : x.caller < length cut = within_cut book cut (call_at x) wide may.is_call in
    let mine : (next (next list b).0 a).1 ≡ (next list a).1 = reply-after key part next is list a b
    (λ (j : ℕ) (e : key a ≡ Some j) (f : key b ≡ Some j). without (f ∙ (sym e ∙ with))) in
    let its : (next (next list a).0 b).1 ≡ (next list b).1 = reply-after key part next is list b a
    (λ (j : ℕ) (f : key b ≡ Some j) (e : key a ≡ Some j). without (f ∙ (sym e ∙ with))) in
    let first : MayStandNext book next cut list x =
    record { may_come = may; recorded = goes.1.0.recorded; reply = sym mine ∙ goes.1.0.reply } in
    let second : MayStandNext book next (raised cut x.caller) (list_after book next list x) p =
    record {
      may_come = comes_later book cut x.caller (call_at p) inx apart goes.0.may_come;
      recorded = goes.0.recorded;
      reply = its ∙ goes.0.reply;
    } in
    let tail : Continues book next (raised (raised cut x.caller) p.caller)
    (list_after book next (list_after book next list x) p) rest
    = continues-alike key part next is book (raised (raised cut x.caller) p.caller)
    (next (next list b).0 a).0 (next (next list a).0 b).0 rest
    (alike-swapped key part next is list a b k with without)
    (subst (λ (c : List ℕ).
    Continues book next c (list_after book next (list_after book next list p) x) rest)
    (raised_twice cut p.caller x.caller apart) goes.1.1) in
    (first, (second, tail))

pub forced_key_goes_first : ForcedKeyGoesFirst
forced_key_goes_first key part next is book cut list forced k [] wide valid one force with goes =
    let held : get_or cut forced 0 < get_or cut forced 0 =
    goes (next_call cut forced) force.answered in absurd (omega arith)
forced_key_goes_first key part next is book cut list forced k
    (p ∷ rest) wide valid one force with goes =
    elim (cases_key (key (word_at book p)) k) [
      | inl has ↦ (p, rest, goes, has, omega arith)
      | inr lacks ↦
          let inside : p.caller < length cut =
          within_cut book cut (call_at p) wide goes.0.may_come.is_call in
          let apart : forced ≢ p.caller = λ (e : forced ≡ p.caller).
          lacks (ap (λ (c : Call). key (unwrap_or (operation_of book c) 0))
          (same_call (call_at p) (next_call cut forced) (sym e)
          (goes.0.may_come.next ∙ ap (λ (i : ℕ). get_or cut i 0) (sym e))) ∙ with) in
          let wider : length book ≤ length (raised cut p.caller) =
          omega (arith, wide, length-set cut p.caller (get_or cut p.caller 0 + 1)) in
          let stays : IsForced book (raised cut p.caller) forced =
          forced-stays book cut forced p.caller valid inside apart force in
          let call : next_call (raised cut p.caller) forced ≡ next_call cut forced
          = same_call (next_call (raised cut p.caller) forced) (next_call cut forced) refl
          (raised_other cut p.caller forced apart) in
          let on = forced_key_goes_first key part next is book (raised cut p.caller)
          (list_after book next list p) forced k rest wider valid one stays
          (ap (λ (c : Call). key (unwrap_or (operation_of book c) 0)) call ∙ with) goes.1 in
          let x : Place = on.0 in
          let there = on.2.0.may_come in
          let unforced : Precedes book (next_call cut forced) (call_at x) → ⊥ =
          λ (before : Precedes book (next_call cut forced) (call_at x)).
          let held : get_or cut forced 0 < get_or (raised cut p.caller) forced 0 =
          there.preceded (next_call cut forced) before in
          omega (arith, held, raised_other cut p.caller forced apart) in
          let out : get_or cut p.caller 0 ≤ p.number = omega (arith, goes.0.may_come.next) in
          let free : Precedes book (call_at p) (call_at x) → ⊥ =
          forced-free book cut forced (call_at p) (call_at x) valid one force out unforced in
          let others : p.caller ≢ x.caller = λ (e : p.caller ≡ x.caller).
          free (inr (
            e,
            omega (
              arith,
              there.next,
              goes.0.may_come.next,
              raised_same cut p.caller inside,
              ap (λ (i : ℕ). get_or (raised cut p.caller) i 0) e,
            ),
          )) in
          let may : MayComeNext book cut (call_at x) = record {
            is_call = there.is_call;
            next = there.next ∙ raised_other cut p.caller x.caller (λ e. others (sym e));
            preceded = λ (a : Call) (before : Precedes book a (call_at x)).
                elim (raised_cases cut p.caller a inside (there.preceded a before)) [
                  | inl old ↦ old
                  | inr new ↦
                      absurd (free (subst (λ (c : Call). Precedes book c (call_at x))
                      (same_call a (call_at p) new.0 (new.1 ∙ sym goes.0.may_come.next)) before))
                ];
          } in (
            x,
            p ∷ on.1,
            swapped key part next is book cut list k p x on.1 wide others on.3 lacks may
                (goes.0, on.2),
            on.3,
            omega (arith, on.4),
          )
    ]
