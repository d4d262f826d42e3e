-- The caller whose first call outside a cut has the least view, and the calls that may come next.
use Rattle.std.proofs.Common.{◌≡◌, ◌⊎◌, ℕ, ◌+◌, ◌<◌, ◌≤◌, ◌∙◌, ◌↔◌, Bool, IsTrue, List, length, get_or, set, Option, None, Some, refl, sym, ap, subst, inl, inr, arith}
use Rattle.std.specs.Option.{IsSomeAnd, IfSome, IfNone}
use Rattle.std.proofs.lemmas.Bool.{cases_lt}
use Rattle.std.proofs.lemmas.List.{get_or-set_same, get_or-set_other}
use Rattle.std.proofs.lemmas.Option.{same_Some, slice_get_within}
use Rattle.list_laws.proofs.Options.{some_from_is_some_and}
use Rattle.book_base.specs.declared.call.Call.{Call}
use Rattle.book_base.specs.declared.call.Record.{Record}
use Rattle.search_hints.specs.declared.marked_callers.MarkedCallers.{MarkedCallers}
use Rattle.book_base.specs.Cut.{Holds, IsWithin}
use Rattle.book_base.specs.Book.{Page, IsValid, IsCall, IsAnswered, record_of, Precedes}
use Rattle.book_base.specs.Next.{next_call, HoldsAnswered, MayComeNext}
use Rattle.book_base.specs.Pruning.{ViewsAreWithin, IsLeast}
use Rattle.search_hints.specs.Marks.{IsMarked, MarksAllNext}
use Rattle.book_base.proofs.PageLemmas.{caller_from_call, caller_from_answer}
use Rattle.book_base.proofs.GrowthLemmas.{below_calls}
use Rattle.legal_orders.proofs.LegalOrder.{answer_stands}
use Rattle.legal_orders.proofs.Precedence.{may_come_next-from_first}

-- A call may come next where the least view holds it, and it is the next one of its caller.
pub may_come-from_least : (book : List Page) (cut : List ℕ) (first caller : ℕ) (view : List ℕ)
    → IsValid book → IsLeast book cut (length book) first
    → ((r : Record) → record_of book (next_call cut first) ≡ Some r → r.view ≡ view)
    → get_or cut caller 0 < get_or view caller 0
    → MayComeNext book cut (next_call cut caller)
may_come-from_least book cut first caller view valid h is held =
    let there = answer_stands book (next_call cut first) h.answered in
    let r : Record = there.0 in
    let same : r.view ≡ view = is r there.1 in
    let above : get_or r.view caller 0 ≡ get_or view caller 0 =
    ap (λ (v : List ℕ). get_or v caller 0) same in
    let call : Call = next_call cut caller in
    let made : IsCall book call = omega
    (arith, above, below_calls book r.view (valid.within (next_call cut first) r there.1) caller) in
    may_come_next-from_first book cut call valid made refl
    (λ (other : ℕ) (answered : IsAnswered book (next_call cut other))
    (p : Precedes book (next_call cut other) call). elim p [
      | inl early ↦
          let says : Record → Type 0 = λ s. get_or s.view caller 0 ≤ get_or cut caller 0 in
          let known = some_from_is_some_and (record_of book (next_call cut other)) says early in
          let says_so : IsSomeAnd (Some known.0) says =
          subst (λ o. IsSomeAnd o says) known.1 early in
          let within : IsWithin r.view known.0.view = h.least other
          (caller_from_answer book other (get_or cut other 0) answered) r known.0 there.1 known.1 in
          absurd (omega (arith, within caller, says_so, above))
      | inr own ↦ absurd (omega (arith, own.1, ap (λ (i : ℕ). get_or cut i 0) own.0))
    ])

-- A call may not come next where the least view holds no call of its caller outside the cut.
pub may_not_come-from_least : (book : List Page) (cut : List ℕ) (first : ℕ) (view : List ℕ)
    (below : ℕ) (call : Call) → IsLeast book cut below first
    → ((r : Record) → record_of book (next_call cut first) ≡ Some r → r.view ≡ view)
    → get_or view call.caller 0 ≤ get_or cut call.caller 0 → MayComeNext book cut call → ⊥
may_not_come-from_least book cut first view below call h is past may =
    let there = answer_stands book (next_call cut first) h.answered in
    let says : Record → Type 0 = λ s. get_or s.view call.caller 0 ≤ call.number in
    let same : get_or there.0.view call.caller 0 ≡ get_or view call.caller 0 =
    ap (λ (v : List ℕ). get_or v call.caller 0) (is there.0 there.1) in
    let late : says there.0 = omega (arith, same, may.next) in
    let before : Precedes book (next_call cut first) call =
    inl (subst (λ o. IsSomeAnd o says) (sym there.1) late) in
    let held : get_or cut first 0 < get_or cut first 0 =
    may.preceded (next_call cut first) before in
    absurd (omega arith)

-- of two answered calls the view of one is within that of the other
pub views_comparable : (book : List Page) (a b : Call) → IsValid book
    → (ViewsAreWithin book a b → ⊥) → ViewsAreWithin book b a
views_comparable book a b valid not s r st rt =
    elim (valid.comparable a b r s rt st) [
      | inl within ↦ absurd (not (λ (x y : Record) xt yt.
          let e : x ≡ r = same_Some x r (sym xt ∙ rt) in
          let f : y ≡ s = same_Some y s (sym yt ∙ st) in
          subst (λ (v : Record). IsWithin v.view y.view) (sym e)
          (subst (λ (w : Record). IsWithin r.view w.view) (sym f) within)))
      | inr within ↦ within
    ]

-- the views of two answered calls decide whether the one call's view is within the other's
views-within : (book : List Page) (a b : Call) (v w : List ℕ) → IsAnswered book a
    → IsAnswered book b → ((r : Record) → record_of book a ≡ Some r → r.view ≡ v)
    → ((r : Record) → record_of book b ≡ Some r → r.view ≡ w) → IsWithin v w
    ↔ ViewsAreWithin book a b
views-within book a b v w ha hb av bw = (
  λ (within : IsWithin v w) (r s : Record) rt st (i : ℕ). omega (
    arith,
    within i,
    ap (λ (x : List ℕ). get_or x i 0) (av r rt),
    ap (λ (x : List ℕ). get_or x i 0) (bw s st),
  ),
  λ (h : ViewsAreWithin book a b) (i : ℕ).
      let r = answer_stands book a ha in
      let s = answer_stands book b hb in
      omega (
        arith,
        h r.0 s.0 r.1 s.1 i,
        ap (λ (x : List ℕ). get_or x i 0) (av r.0 r.1),
        ap (λ (x : List ℕ). get_or x i 0) (bw s.0 s.1),
      ),
)

pub within-some : (book : List Page) (cut : List ℕ) (caller other : ℕ) (least : Option ℕ)
    (v w : List ℕ) (answer : Bool) → least ≡ Some other → IsAnswered book (next_call cut caller)
    → IfSome least (λ o. IsAnswered book (next_call cut o))
    → ((r : Record) → record_of book (next_call cut caller) ≡ Some r → r.view ≡ v)
    → ((r : Record) → record_of book (next_call cut other) ≡ Some r → r.view ≡ w) → IsTrue answer
    ↔ IsWithin v w
    → IsTrue answer
    ↔ IfSome least (λ o. ViewsAreWithin book (next_call cut caller) (next_call cut o))
within-some book cut caller other least v w answer is answered others av bw within =
    let there : IsAnswered book (next_call cut other) =
    subst (λ (l : Option ℕ). IfSome l (λ o. IsAnswered book (next_call cut o))) is others in
    let both =
    views-within book (next_call cut caller) (next_call cut other) v w answered there av bw in
    let some : IsTrue answer
    ↔ IfSome (Some other) (λ o. ViewsAreWithin book (next_call cut caller) (next_call cut o)) =
    (λ y. both.0 (within.0 y), λ h. within.1 (both.1 h)) in
    subst (λ (l : Option ℕ). IsTrue answer
    ↔ IfSome l (λ o. ViewsAreWithin book (next_call cut caller) (next_call cut o))) (sym is) some

-- the new caller's view is the least where it is within the old caller's
pub least-new : (book : List Page) (cut : List ℕ) (caller old : ℕ) → IsLeast book cut caller old
    → IsAnswered book (next_call cut caller)
    → ViewsAreWithin book (next_call cut caller) (next_call cut old)
    → IsLeast book cut (caller + 1) caller
least-new book cut caller old h answered within = record {
  answered = answered;
  least = λ (other : ℕ) (below : other < caller + 1) (r s : Record) rt st.
      elim (cases_lt other caller) [
        | inl early ↦
            let there = answer_stands book (next_call cut old) h.answered in
            let a : IsWithin r.view there.0.view = within r there.0 rt there.1 in
            let b : IsWithin there.0.view s.view = h.least other early there.0 s there.1 st in
            λ (i : ℕ). omega (arith, a i, b i)
        | inr here ↦
            let at : other ≡ caller = omega arith in
            let same : s ≡ r =
            same_Some s r (sym st ∙ (ap (λ (i : ℕ). record_of book (next_call cut i)) at ∙ rt)) in
            λ (i : ℕ). omega (arith, ap (λ (x : Record). get_or x.view i 0) same)
      ];
}

-- the view of the first caller that has an answered call outside the cut is the least so far
pub least-first : (book : List Page) (cut : List ℕ) (caller : ℕ)
    → ((call : Call) → call.caller < caller → IsAnswered book call → Holds cut call)
    → IsAnswered book (next_call cut caller) → IsLeast book cut (caller + 1) caller
least-first book cut caller none answered = record {
  answered = answered;
  least = λ (other : ℕ) (below : other < caller + 1) (r s : Record) rt st.
      elim (cases_lt other caller) [
        | inl early ↦ let held : get_or cut other 0 < get_or cut other 0 =
            none (next_call cut other) early (slice_get_within _ (get_or cut other 0) s st) in
            absurd (omega arith)
        | inr here ↦
            let at : other ≡ caller = omega arith in
            let same : s ≡ r =
            same_Some s r (sym st ∙ (ap (λ (i : ℕ). record_of book (next_call cut i)) at ∙ rt)) in
            λ (i : ℕ). omega (arith, ap (λ (x : Record). get_or x.view i 0) same)
      ];
}

-- the old caller's view stays the least where it is within the new caller's
pub least-old : (book : List Page) (cut : List ℕ) (caller old : ℕ) → IsLeast book cut caller old
    → ViewsAreWithin book (next_call cut old) (next_call cut caller)
    → IsLeast book cut (caller + 1) old
least-old book cut caller old h within = record {
  answered = h.answered;
  least = λ (other : ℕ) (below : other < caller + 1). elim (cases_lt other caller) [
    | inl early ↦ h.least other early
    | inr here ↦ let at : caller ≡ other = omega arith in
        subst (λ (i : ℕ). ViewsAreWithin book (next_call cut old) (next_call cut i)) at within
  ];
}

-- where a caller's next call isn't answered, it has no view, and so each other view counts as
-- within it
pub no_view : (book : List Page) (cut : List ℕ) (a : Call) (caller : ℕ)
    → (IsAnswered book (next_call cut caller) → ⊥) → ViewsAreWithin book a (next_call cut caller)
no_view book cut a caller not r s rt st =
    absurd (not (slice_get_within _ (get_or cut caller 0) s st))

pub held-more : (book : List Page) (cut : List ℕ) (caller : ℕ)
    → (IsAnswered book (next_call cut caller) → ⊥)
    → ((call : Call) → call.caller < caller → IsAnswered book call → Holds cut call)
    → (call : Call) → call.caller < caller + 1 → IsAnswered book call → Holds cut call
held-more book cut caller not h call below answered =
    elim (cases_lt call.caller caller) [
      | inl early ↦ h call early answered
      | inr here ↦
          let at : call.caller ≡ caller = omega arith in
          elim (cases_lt call.number (get_or cut call.caller 0)) [
            | inl held ↦ held
            | inr out ↦
                let first : IsAnswered book (next_call cut call.caller) = omega arith in
                absurd (not (subst (λ (i : ℕ). IsAnswered book (next_call cut i)) at first))
          ]
    ]

-- What is known of the least view, once the callers below a number are looked at.
pub record LeastSoFar (book : List Page) (cut : List ℕ) (below : ℕ)
    (least : Option ℕ) : Type 0 where
  pub some : IfSome least (IsLeast book cut below)
  pub none : IfNone least
      ((call : Call) → call.caller < below → IsAnswered book call → Holds cut call)

pub so_far-start : (book : List Page) (cut : List ℕ) → LeastSoFar book cut 0 None
so_far-start book cut = record {
  some = tt;
  none = λ (call : Call) (below : call.caller < 0) (answered : IsAnswered book call).
      absurd (omega arith);
}

pub so_far-new : (book : List Page) (cut : List ℕ) (caller : ℕ) (least : Option ℕ)
    → LeastSoFar book cut caller least → IsAnswered book (next_call cut caller)
    → IfSome least (λ o. ViewsAreWithin book (next_call cut caller) (next_call cut o))
    → LeastSoFar book cut (caller + 1) (Some caller)
so_far-new book cut caller None h answered before =
    record { some = least-first book cut caller h.none answered; none = tt }
so_far-new book cut caller (Some old) h answered before =
    record { some = least-new book cut caller old h.some answered before; none = tt }

pub so_far-not_before : (book : List Page) (cut : List ℕ) (caller : ℕ) (least : Option ℕ)
    → IsValid book → LeastSoFar book cut caller least
    → (IfSome least (λ o. ViewsAreWithin book (next_call cut caller) (next_call cut o)) → ⊥)
    → LeastSoFar book cut (caller + 1) least
so_far-not_before book cut caller None valid h not = absurd (not tt)
so_far-not_before book cut caller (Some old) valid h not =
    record {
      some = least-old book cut caller old h.some
          (views_comparable book (next_call cut caller) (next_call cut old) valid not);
      none = tt;
    }

pub so_far-not_open : (book : List Page) (cut : List ℕ) (caller : ℕ) (least : Option ℕ)
    → LeastSoFar book cut caller least → (IsAnswered book (next_call cut caller) → ⊥)
    → LeastSoFar book cut (caller + 1) least
so_far-not_open book cut caller None h not =
    record { some = tt; none = held-more book cut caller not h.none }
so_far-not_open book cut caller (Some old) h not = record {
  some = least-old book cut caller old h.some (no_view book cut (next_call cut old) caller not);
  none = tt;
}

pub so_far-answered : (book : List Page) (cut : List ℕ) (below : ℕ) (least : Option ℕ)
    → LeastSoFar book cut below least → IfSome least (λ o. IsAnswered book (next_call cut o))
so_far-answered book cut below None h = tt
so_far-answered book cut below (Some old) h = h.some.answered

pub so_far-some : (book : List Page) (cut : List ℕ) (below : ℕ) (least : Option ℕ) → below
    ≡ length book → LeastSoFar book cut below least → IfSome least (IsLeast book cut (length book))
so_far-some book cut below least e h = subst (λ (n : ℕ). IfSome least (IsLeast book cut n)) e h.some

pub so_far-none : (book : List Page) (cut : List ℕ) (below : ℕ) (least : Option ℕ)
    → below ≡ length book → LeastSoFar book cut below least → IfNone least (HoldsAnswered book cut)
so_far-none book cut below None e h = λ (call : Call) (answered : IsAnswered book call).
    let there : call.caller < length book =
    caller_from_answer book call.caller call.number answered in
    h.none call (omega arith) answered
so_far-none book cut below (Some old) e h = tt

-- Marks on the callers below a number whose next calls may come next.
abbrev pub MarksNextBelow : List Page → List ℕ → ℕ → MarkedCallers → Type 0
MarksNextBelow book cut below marks = (i : ℕ) → IsMarked marks i
    ↔ ((i < below) × MayComeNext book cut (next_call cut i))

pub marked-more : (book : List Page) (cut : List ℕ) (caller : ℕ) (old new : MarkedCallers)
    → MarksNextBelow book cut caller old → MayComeNext book cut (next_call cut caller)
    → ((i : ℕ) → IsMarked new i ↔ ((i ≡ caller) ⊎ IsMarked old i))
    → MarksNextBelow book cut (caller + 1) new
marked-more book cut caller old new h may is i = (
  λ marked. elim ((is i).0 marked) [
    | inl here ↦ (
      omega (arith, here),
      subst (λ (j : ℕ). MayComeNext book cut (next_call cut j)) (sym here) may,
    )
    | inr there ↦ let was = (h i).0 there in (omega (arith, was.0), was.1)
  ],
  λ both. elim (cases_lt i caller) [
    | inl early ↦ (is i).1 (inr ((h i).1 (early, both.1)))
    | inr late ↦ (is i).1 (inl (omega (arith, both.0)))
  ],
)

pub marked-skip : (book : List Page) (cut : List ℕ) (caller : ℕ) (marks : MarkedCallers)
    → MarksNextBelow book cut caller marks → (MayComeNext book cut (next_call cut caller) → ⊥)
    → MarksNextBelow book cut (caller + 1) marks
marked-skip book cut caller marks h not i = (
  λ marked. let was = (h i).0 marked in (omega (arith, was.0), was.1),
  λ both. elim (cases_lt i caller) [
    | inl early ↦ (h i).1 (early, both.1)
    | inr late ↦ let at : i ≡ caller = omega (arith, both.0) in
        absurd (not (subst (λ (j : ℕ). MayComeNext book cut (next_call cut j)) at both.1))
  ],
)

pub marked-all : (book : List Page) (cut : List ℕ) (below : ℕ) (marks : MarkedCallers)
    → below ≡ length book
    → MarksNextBelow book cut below marks → MarksAllNext book cut marks
marked-all book cut below marks is h i = (
  λ marked. ((h i).0 marked).1,
  λ (may : MayComeNext book cut (next_call cut i)).
      let inside : i < length book = caller_from_call book i (get_or cut i 0) may.is_call in
      (h i).1 (omega arith, may),
)

-- one more count is copied
pub copied-more : (cut new counts : List ℕ) (i n : ℕ) → length cut ≡ length counts
    → i < length counts → n ≡ get_or counts i 0 → new ≡ set cut i n
    → ((j : ℕ) → j < i → get_or cut j 0 ≡ get_or counts j 0) → (j : ℕ) → j < i + 1
    → get_or new j 0 ≡ get_or counts j 0
copied-more cut new counts i n long inside is made same j below =
    ap (λ (l : List ℕ). get_or l j 0) made ∙ elim (cases_lt j i) [
      | inl early ↦
          get_or-set_other cut i j n 0 (λ (e : j ≡ i). absurd (omega arith)) ∙ same j early
      | inr here ↦
          let at : j ≡ i = omega arith in
          ap (λ (k : ℕ). get_or (set cut i n) k 0) at ∙ (get_or-set_same cut i n 0 (omega arith)
          ∙ (is ∙ sym (ap (λ (k : ℕ). get_or counts k 0) at)))
    ]
