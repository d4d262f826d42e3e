-- A call is exchanged for a twin that comes later.
use Rattle.std.proofs.Common.{◌≡◌, ◌≢◌, ℕ, ◌+◌, ◌<◌, ◌≤◌, ◌⊎◌, ◌∙◌, List, [], ◌∷◌, length, get_or, set, Option, Some, unwrap_or, refl, sym, ap, subst, inl, inr, length-set, arith}
use Rattle.std.proofs.lemmas.Bool.{cases_eq}
use Rattle.std.proofs.lemmas.Option.{same_Some, slice_get_within}
use Rattle.std.specs.Option.{IsSomeAnd}
use Rattle.list_laws.proofs.Options.{some_from_is_some_and}
use Rattle.book_base.specs.declared.call.Call.{Call}
use Rattle.book_base.specs.declared.call.Place.{Place}
use Rattle.book_base.specs.declared.call.Record.{Record}
use Rattle.book_base.specs.Cut.{Holds, IsWithin}
use Rattle.book_base.specs.Book.{Page, IsAnswered, IsValid, operation_of, record_of, Precedes}
use Rattle.book_base.specs.Order.{call_at, step_at}
use Rattle.book_base.specs.Next.{raised, next_call, MayComeNext, MayStandNext, HoldsAnswered, list_after, Continues}
use Rattle.book_base.specs.Pruning.{HasOneOpen, ViewsAreWithin}
use Rattle.legal_orders.proofs.LegalOrder.{raised_same, raised_other, raised_more, raised_cases, raised_twice, comes_later, same_call, answer_stands, within_cut}
use Rattle.legal_orders.specs.Twins.{DoesTheSame, IsTwin, TwinServes}
use Rattle.legal_orders.proofs.Opening.{unanswered-precedes, unanswered-last, held_without}

-- A call a may be tried instead of a call b of another caller: both may come next, with one
-- operation, and b is answered only where a is, and then with the same reply. Each call that b
-- precedes, a precedes too, or it is of b's caller and all answered calls precede it.
record Exchanged (book : List Page) (cut : List ℕ) (a b : Call) : Type 0 where
  apart : a.caller ≢ b.caller
  first : MayComeNext book cut a
  second : MayComeNext book cut b
  same : operation_of book a ≡ operation_of book b
  replies : (r s : Record) → record_of book a ≡ Some r → record_of book b ≡ Some s
      → s.reply ≡ r.reply
  ends : IsAnswered book a ⊎ (IsAnswered book b → ⊥)
  follows : (s : Record) → record_of book b ≡ Some s → IsAnswered book a
  later : (p : Call) → Precedes book b p → Precedes book a p
      ⊎ ((b.caller ≡ p.caller) × ((x : Call) → IsAnswered book x → Precedes book x p))

-- a cut that is raised by call b doesn't hold call a
outside : (book : List Page) (cut : List ℕ) (a b : Call) → Exchanged book cut a b
    → Holds (raised cut b.caller) a → ⊥
outside book cut a b h held =
    omega (arith, held, raised_other cut b.caller a.caller h.apart, h.first.next)

-- the two calls may be exchanged also after a call of another caller
exchanged-later : (book : List Page) (cut : List ℕ) (a b : Call) (i : ℕ) → i < length cut
    → a.caller ≢ i → b.caller ≢ i → Exchanged book cut a b → Exchanged book (raised cut i) a b
exchanged-later book cut a b i inside first second h = record {
  apart = h.apart;
  first = comes_later book cut i a inside first h.first;
  second = comes_later book cut i b inside second h.second;
  same = h.same;
  replies = h.replies;
  ends = h.ends;
  follows = h.follows;
  later = h.later;
}

-- where a cut with call b holds all answered calls, the cut with call a instead does too
exchanged-end : (book : List Page) (cut : List ℕ) (a b : Call) → a.caller < length cut
    → b.caller < length cut → Exchanged book cut a b
    → ((x : Call) → IsAnswered book x → Holds (raised cut b.caller) x)
    → HoldsAnswered book (raised cut a.caller)
exchanged-end book cut a b ina inb h all x answered =
    elim h.ends [
      | inl is ↦ absurd (outside book cut a b h (all a is))
      | inr not ↦
          let old : x.number < get_or cut x.caller 0 =
          held_without book cut b inb h.second.next not x answered (all x answered) in
          omega (arith, old, raised_more cut a.caller x.caller ina)
    ]

-- the place of call b where call a was
abbrev moved : Call → ℕ → Place
moved b reply = record { caller = b.caller; number = b.number; reply = reply }

-- where call a may come next once call b has come, call b may come next once call a has come
its_turn : (book : List Page) (next : List ℕ → ℕ → List ℕ × ℕ) (cut list : List ℕ) (a b : Call)
    (place : Place) → a.caller < length cut → Exchanged book cut a b
    → call_at place ≡ a → MayStandNext book next (raised cut b.caller) list place
    → MayStandNext book next (raised cut a.caller) list (moved b place.reply)
its_turn book next cut list a b place inside h is may = record {
  may_come = comes_later book cut a.caller b inside (λ e. h.apart (sym e)) h.second;
  recorded = λ (s : Record) (e : record_of book b ≡ Some s).
      let answered : IsAnswered book a = h.follows s e in
      let there : (r : Record) × (record_of book a ≡ Some r) = answer_stands book a answered in
      h.replies there.0 s there.1 e ∙ may.recorded there.0 (ap (record_of book) is ∙ there.1);
  reply = ap (λ (o : Option ℕ). (next list (unwrap_or o 0)).1)
      (sym h.same ∙ sym (ap (operation_of book) is)) ∙ may.reply;
}

exchange : (book : List Page) (next : List ℕ → ℕ → List ℕ × ℕ) (cut list : List ℕ) (a b : Call)
    (rest : List Place) → length book ≤ length cut → Exchanged book cut a b
    → Continues book next (raised cut b.caller) list rest
    → (other : List Place) × Continues book next (raised cut a.caller) list other
    × (length other ≤ length rest)
exchange book next cut list a b [] wide h goes =
    let ina : a.caller < length cut = within_cut book cut a wide h.first.is_call in
    let inb : b.caller < length cut = within_cut book cut b wide h.second.is_call in
    ([], exchanged-end book cut a b ina inb h goes, omega arith)
exchange book next cut list a b (place ∷ rest) wide h goes =
    let ina : a.caller < length cut = within_cut book cut a wide h.first.is_call in
    let inb : b.caller < length cut = within_cut book cut b wide h.second.is_call in
    let may = goes.0 in
    elim (cases_eq place.caller a.caller) [
      | inl first ↦
          let number : place.number ≡ a.number
          = may.may_come.next ∙ (ap (λ (i : ℕ). get_or (raised cut b.caller) i 0) first
          ∙ (raised_other cut b.caller a.caller h.apart ∙ sym h.first.next)) in
          let is : call_at place ≡ a = same_call (call_at place) a first number in
          let it : MayStandNext book next (raised cut a.caller) list (moved b place.reply) =
          its_turn book next cut list a b place ina h is may in
          let after : list_after book next list place
          ≡ list_after book next list (moved b place.reply)
          = ap (λ (o : Option ℕ). (next list (unwrap_or o 0)).0)
          (ap (operation_of book) is ∙ h.same) in
          let cuts : raised (raised cut b.caller) place.caller
          ≡ raised (raised cut a.caller) b.caller
          = ap (raised (raised cut b.caller)) first
          ∙ raised_twice cut b.caller a.caller (λ e. h.apart (sym e)) in (
            moved b place.reply ∷ rest,
            (
              it,
              subst (λ (l : List ℕ).
                  Continues book next (raised (raised cut a.caller) b.caller) l rest) after
                  (subst
                  (λ (c : List ℕ). Continues book next c (list_after book next list place) rest)
                  cuts goes.1),
            ),
            omega arith,
          )
      | inr not_first ↦ elim (cases_eq place.caller b.caller) [
        | inl second ↦
            let number : place.number ≡ b.number + 1
            = may.may_come.next ∙ (ap (λ (i : ℕ). get_or (raised cut b.caller) i 0) second
            ∙ (raised_same cut b.caller inb ∙ ap (λ (n : ℕ). n + 1) (sym h.second.next))) in
            let before : Precedes book b (call_at place) =
            inr (sym second, omega (arith, number)) in
            elim (h.later (call_at place) before) [
              | inl too ↦ absurd (outside book cut a b h (may.may_come.preceded a too))
              | inr last ↦ (
                [],
                exchanged-end book cut a b ina inb h
                    (λ x answered. may.may_come.preceded x (last.1 x answered)),
                omega arith,
              )
            ]
        | inr not_second ↦
            let inside : place.caller < length cut =
            within_cut book cut (call_at place) wide may.may_come.is_call in
            let there : MayStandNext book next (raised cut a.caller) list place = record {
              may_come = record {
                is_call = may.may_come.is_call;
                next = may.may_come.next ∙ (raised_other cut b.caller place.caller not_second
                    ∙ sym (raised_other cut a.caller place.caller not_first));
                preceded = λ (x : Call) (p : Precedes book x (call_at place)).
                    elim (raised_cases cut b.caller x inb (may.may_come.preceded x p)) [
                      | inl old ↦ omega (arith, old, raised_more cut a.caller x.caller ina)
                      | inr new ↦
                          let is : x ≡ b = same_call x b new.0 (new.1 ∙ sym h.second.next) in
                          elim (h.later (call_at place)
                          (subst (λ (c : Call). Precedes book c (call_at place)) is p)) [
                            | inl too ↦
                                absurd (outside book cut a b h (may.may_come.preceded a too))
                            | inr own ↦ absurd (not_second (sym own.0))
                          ]
                    ];
              };
              recorded = may.recorded;
              reply = may.reply;
            } in
            let wider : length book ≤ length (raised cut place.caller) =
            omega (arith, wide, length-set cut place.caller (get_or cut place.caller 0 + 1)) in
            let on = exchange book next (raised cut place.caller)
            (list_after book next list place) a b rest wider
            (exchanged-later book cut a b place.caller inside (λ e. not_first (sym e))
            (λ e. not_second (sym e)) h)
            (subst (λ (c : List ℕ). Continues book next c (list_after book next list place) rest)
            (raised_twice cut b.caller place.caller (λ e. not_second (sym e))) goes.1) in (
              place ∷ on.0,
              (
                there,
                subst (λ (c : List ℕ). Continues book next c (list_after book next list place) on.0)
                    (raised_twice cut place.caller a.caller not_first) on.1,
              ),
              omega (arith, on.2),
            )
      ]
    ]

-- an answered call whose view is within another one precedes each call that the other view doesn't
-- hold
within_precedes : (book : List Page) (a b p : Call) (r s : Record) → record_of book a ≡ Some r
    → record_of book b ≡ Some s → IsWithin r.view s.view
    → get_or s.view p.caller 0 ≤ p.number → Precedes book a p
within_precedes book a b p r s at bt within early =
    let says : Record → Type 0 = λ x. get_or x.view p.caller 0 ≤ p.number in
    inl (subst (λ o. IsSomeAnd o says) (sym at) (omega (arith, within p.caller, early)))

-- an answered call has one record
one_record : (book : List Page) (call : Call) (r s : Record) → record_of book call ≡ Some r
    → record_of book call ≡ Some s → r ≡ s
one_record book call r s known found = same_Some r s (sym known ∙ found)

-- An answered call a whose view is within that of b precedes each call that b precedes.
answered-later : (book : List Page) (a b p : Call) (r s : Record) → IsValid book
    → record_of book a ≡ Some r → record_of book b ≡ Some s → IsWithin r.view s.view
    → Precedes book b p → Precedes book a p
answered-later book a b p r s valid at bt within before =
    elim before [
      | inl answered ↦
          let says : Record → Type 0 = λ x. get_or x.view p.caller 0 ≤ p.number in
          let early : says s = subst (λ o. IsSomeAnd o says) bt answered in
          within_precedes book a b p r s at bt within early
      | inr own ↦
          let count : get_or s.view b.caller 0 ≡ b.number + 1 = valid.own b s bt in
          let here : get_or s.view p.caller 0 ≤ p.number =
          omega (arith, count, own.1, ap (λ (i : ℕ). get_or s.view i 0) own.0) in
          within_precedes book a b p r s at bt within here
    ]

answered-answered : (book : List Page) (next : List ℕ → ℕ → List ℕ × ℕ) (cut list : List ℕ)
    (a b : Call) (r s : Record) → IsValid book → IsTwin book next cut list a b
    → record_of book a ≡ Some r → record_of book b ≡ Some s → s.reply ≡ r.reply
    → IsWithin r.view s.view → Exchanged book cut a b
answered-answered book next cut list a b r s valid h at bt reply within = record {
  apart = h.apart;
  first = h.first;
  second = h.second;
  same = h.same;
  replies =
      λ (x y : Record) (known : record_of book a ≡ Some x) (found : record_of book b ≡ Some y).
      ap (λ (z : Record). z.reply) (one_record book b y s found bt)
      ∙ (reply ∙ ap (λ (z : Record). z.reply) (one_record book a r x at known));
  ends = inl (slice_get_within _ a.number r at);
  follows = λ (y : Record) (found : record_of book b ≡ Some y). slice_get_within _ a.number r at;
  later = λ (p : Call) (before : Precedes book b p).
      inl (answered-later book a b p r s valid at bt within before);
}

answered-unanswered : (book : List Page) (next : List ℕ → ℕ → List ℕ × ℕ) (cut list : List ℕ)
    (a b : Call) (r : Record) → HasOneOpen book → IsTwin book next cut list a b
    → record_of book a ≡ Some r → (IsAnswered book b → ⊥) → Exchanged book cut a b
answered-unanswered book next cut list a b r one h at free = record {
  apart = h.apart;
  first = h.first;
  second = h.second;
  same = h.same;
  replies =
      λ (x y : Record) (known : record_of book a ≡ Some x) (found : record_of book b ≡ Some y).
      absurd (free (slice_get_within _ b.number y found));
  ends = inr free;
  follows = λ (y : Record) (found : record_of book b ≡ Some y).
      absurd (free (slice_get_within _ b.number y found));
  later = λ (p : Call) (before : Precedes book b p).
      let own = unanswered-precedes book b p free before in
      inl (unanswered-last book b p a one free own.0 own.1 (slice_get_within _ a.number r at));
}

both-unanswered : (book : List Page) (next : List ℕ → ℕ → List ℕ × ℕ) (cut list : List ℕ)
    (a b : Call) → HasOneOpen book → IsTwin book next cut list a b
    → (IsAnswered book b → ⊥) → Exchanged book cut a b
both-unanswered book next cut list a b one h free = record {
  apart = h.apart;
  first = h.first;
  second = h.second;
  same = h.same;
  replies =
      λ (x y : Record) (known : record_of book a ≡ Some x) (found : record_of book b ≡ Some y).
      absurd (free (slice_get_within _ b.number y found));
  ends = inr free;
  follows = λ (y : Record) (found : record_of book b ≡ Some y).
      absurd (free (slice_get_within _ b.number y found));
  later = λ (p : Call) (before : Precedes book b p).
      let own = unanswered-precedes book b p free before in
      inr (
        own.0,
        λ (x : Call) (answered : IsAnswered book x).
            unanswered-last book b p x one free own.0 own.1 answered,
      );
}

exchanged-from_twin : (book : List Page) (next : List ℕ → ℕ → List ℕ × ℕ) (cut list : List ℕ)
    (a b : Call) → IsValid book → HasOneOpen book → IsTwin book next cut list a b
    → Exchanged book cut a b
exchanged-from_twin book next cut list a b valid one h =
    elim h.serves [
      | inl answered ↦ elim answered.2 [
        | inl both ↦ answered-answered book next cut list a b answered.0 both.0 valid h answered.1
            both.1 both.2 (both.3 answered.0 both.0 answered.1 both.1)
        | inr alone ↦ answered-unanswered book next cut list a b answered.0 one h answered.1 alone.0
      ]
      | inr free ↦ both-unanswered book next cut list a b one h free.1
    ]

-- the reply of the twin's place is the recorded one, where the twin is answered
twin-recorded : (book : List Page) (next : List ℕ → ℕ → List ℕ × ℕ) (cut list : List ℕ) (a : Call)
    (place : Place) → IsTwin book next cut list a (call_at place)
    → MayStandNext book next cut list place → (x : Record) → record_of book a ≡ Some x
    → x.reply ≡ place.reply
twin-recorded book next cut list a place h may x known =
    let asked : (next list (unwrap_or (operation_of book a) 0)).1 ≡ place.reply
    = ap (λ (o : Option ℕ). (next list (unwrap_or o 0)).1) h.same ∙ may.reply in
    elim h.serves [
      | inl answered ↦
          let is : x.reply ≡ answered.0.reply =
          ap (λ (z : Record). z.reply) (one_record book a x answered.0 known answered.1) in
          elim answered.2 [
            | inl both ↦ is ∙ (sym both.2 ∙ may.recorded both.0 both.1)
            | inr alone ↦ is ∙ (sym alone.1 ∙ asked)
          ]
      | inr free ↦ absurd (free.0 (slice_get_within _ a.number x known))
    ]

pub twin_serves : TwinServes
twin_serves book next cut list a place rest wide valid one h goes =
    let on = exchange book next cut (list_after book next list place) a (call_at place) rest wide
    (exchanged-from_twin book next cut list a (call_at place) valid one h) goes.1 in
    let asked : (next list (unwrap_or (operation_of book a) 0)).1 ≡ place.reply
    = ap (λ (o : Option ℕ). (next list (unwrap_or o 0)).1) h.same ∙ goes.0.reply in
    let after : list_after book next list place ≡ (next list (unwrap_or (operation_of book a) 0)).0
    = ap (λ (o : Option ℕ). (next list (unwrap_or o 0)).0) (sym h.same) in
    let it : MayStandNext book next cut list (moved a place.reply) = record {
      may_come = h.first;
      recorded = twin-recorded book next cut list a place h goes.0;
      reply = asked;
    } in (
      on.0,
      (it, subst (λ (l : List ℕ). Continues book next (raised cut a.caller) l on.0) after on.1),
      on.2,
    )
