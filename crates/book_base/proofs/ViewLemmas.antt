-- Views of a book's records: a caller's views rise, and the book at a cut is valid.
use Rattle.std.proofs.Common.{◌≡◌, ℕ, ◌+◌, ◌<◌, ◌≤◌, ◌∙◌, List, [], ◌∷◌, ◌++◌, length, take, get_or, ◌↔◌, Some, refl, sym, ap, subst, inl, inr, slice_get, arith, max}
use Rattle.std.proofs.lemmas.Bool.{cases_lt, cases_eq}
use Rattle.std.proofs.lemmas.Option.{same_Some, slice_get_cases, slice_get_within}
use Rattle.std.proofs.lemmas.List.{get_or-map, get_or_past, get_or_append_left, get_or_push, length-map, length-append, length-take-le, take_all}
use Rattle.list_laws.proofs.Prefixes.{slice_get-take_below, slice_get-take_within}
use Rattle.list_laws.proofs.Places.{slice_get-take}
use Rattle.book_base.specs.declared.call.Call.{Call}
use Rattle.book_base.specs.declared.call.Record.{Record}
use Rattle.book_base.specs.declared.TheConstants.{MAX_CALLS}
use Rattle.book_base.specs.Cut.{Holds, IsWithin, AreComparable}
use Rattle.book_base.specs.Book.{Page, page_of, calls_of, answers_of, answered, IsCall, IsAnswered, record_of, IsValid, IsSmall}
use Rattle.book_base.specs.BookAt.{IsHeldBySomeView, IsBookAt}
use Rattle.book_base.specs.Rising.{AreViewsWithin}
use Rattle.book_base.proofs.PageLemmas.{empty, page_past, caller_from_call, caller_from_answer}
use Rattle.book_base.proofs.GrowthLemmas.{within_announced, below_calls}

-- two calls with the same caller and number are equal
pub same_call : (a b : Call) → a.caller ≡ b.caller → a.number ≡ b.number → a ≡ b
same_call a b caller number = let made : ℕ → ℕ → Call = λ i n. record { caller = i; number = n } in
    ap (λ (i : ℕ). made i a.number) caller ∙ ap (made b.caller) number

-- an answered call has a record
pub answer_stands : (book : List Page) (call : Call) → IsAnswered book call → (r : Record)
    × (record_of book call ≡ Some r)
answer_stands book call h =
    elim (slice_get_cases (page_of book call.caller).records call.number).1 [
      | inl here ↦ (here.0, here.2)
      | inr past ↦ absurd (omega (arith, past.0))
    ]

-- the view of a caller's call is within that of each later call of the caller
pub views_grow : (book : List Page) → IsValid book → (a b : Call) (r s : Record) → record_of book a
    ≡ Some r → record_of book b ≡ Some s → a.caller ≡ b.caller → a.number ≤ b.number
    → (i : ℕ) → get_or r.view i 0 ≤ get_or s.view i 0
views_grow book valid a b r s at bt caller le i =
    elim (valid.comparable a b r s at bt) [
      | inl within ↦ within i
      | inr within ↦
          let number : a.number ≡ b.number = omega (
            arith,
            valid.own a r at,
            valid.own b s bt,
            within b.caller,
            ap (λ (j : ℕ). get_or r.view j 0) caller,
          ) in
          let same : r ≡ s =
          same_Some r s (sym at ∙ (ap (record_of book) (same_call a b caller number) ∙ bt)) in
          omega (arith, ap (λ (x : Record). get_or x.view i 0) same)
    ]

-- a record of the book at a cut is one of the book, and the cut holds its call
pub record_from_part : (book : List Page) (cut : List ℕ) (part : List Page) → IsBookAt book cut part
    → (call : Call) (r : Record) → record_of part call ≡ Some r
    → Holds cut call × (record_of book call ≡ Some r)
record_from_part book cut part at call r e =
    let taken : slice_get
    (take (get_or cut call.caller 0) (page_of book call.caller).records) call.number ≡ Some r
    = ap (λ (rs : List Record). slice_get rs call.number) (sym (at.records call.caller)) ∙ e in (
      slice_get-take_below (get_or cut call.caller 0)
          (page_of book call.caller).records call.number r taken,
      slice_get-take (get_or cut call.caller 0)
          (page_of book call.caller).records call.number r taken,
    )

-- The book at a cut of a valid book is valid.
pub book_at_is_valid : (book : List Page) (cut : List ℕ) (part : List Page) → IsValid book
    → IsBookAt book cut part → IsValid part
book_at_is_valid book cut part valid at =
    let known = record_from_part book cut part at in
    record {
      answers = λ (i : ℕ). elim (cases_lt (calls_of part i) (answers_of part i)) [
        | inl more ↦
            let it : Call = record { caller = i; number = calls_of part i } in
            let there = answer_stands part it more in
            let was = known it there.0 there.1 in
            let held : IsHeldBySomeView book cut it =
            (it, there.0, was.0, was.1, omega (arith, valid.own it there.0 was.1)) in
            let none : calls_of part i < calls_of part i = (at.calls it).1 held in
            absurd (omega arith)
        | inr fits ↦ fits
      ];
      wide = λ call r e. valid.wide call r (known call r e).1 ∙ sym at.callers;
      within = λ call r e. within_announced part r.view
          (λ (i : ℕ). elim (cases_lt (calls_of part i) (get_or r.view i 0)) [
            | inl more ↦
                let it : Call = record { caller = i; number = calls_of part i } in
                let was = known call r e in
                let none : calls_of part i < calls_of part i =
                (at.calls it).1 (call, r, was.0, was.1, more) in
                absurd (omega arith)
            | inr fits ↦ fits
          ]);
      own = λ call r e. valid.own call r (known call r e).1;
      comparable = λ a b r s x y. valid.comparable a b r s (known a r x).1 (known b s y).1;
    }

-- The book at a cut is within the limits of books where the book is.
pub book_at_is_small : (book : List Page) (cut : List ℕ) (part : List Page) → IsValid book
    → IsSmall book → IsBookAt book cut part → IsSmall part
book_at_is_small book cut part valid small at = record {
  some = omega (arith, small.some, at.callers);
  callers = omega (arith, small.callers, at.callers);
  calls = λ (i : ℕ). elim (cases_lt MAX_CALLS (calls_of part i)) [
    | inl more ↦
        let it : Call = record { caller = i; number = MAX_CALLS } in
        let held = (at.calls it).0 more in
        absurd (omega (
          arith,
          held.4,
          below_calls book held.1.view (valid.within held.0 held.1 held.3) i,
          small.calls i,
        ))
    | inr fits ↦ fits
  ];
}

-- the number of a caller's records
pub answered_at : (book : List Page) (i : ℕ) → get_or (answered book) i 0 ≡ answers_of book i
answered_at book i =
    elim (cases_lt i (length book)) [
      | inl inside ↦ get_or-map (λ (p : Page). length p.records) book i empty 0 inside
      | inr past ↦
          get_or_past (answered book) i 0
          (omega (arith, length-map book (λ (p : Page). length p.records)))
          ∙ sym (ap (λ (p : Page). length p.records) (page_past book i past))
    ]

-- Views of records that the cut holds hold this many of a caller's calls, and no view of such a
-- record of the first callers holds more.
pub record IsHeldTo (book : List Page) (cut : List ℕ) (caller other held : ℕ) : Type 0 where
  pub held_by : (number : ℕ) → number < held
      → IsHeldBySomeView book cut (record { caller = caller; number = number })
  pub most : (it : Call) (r : Record) → it.caller < other → Holds cut it
      → record_of book it ≡ Some r → get_or r.view caller 0 ≤ held

pub held_to_none : (book : List Page) (cut : List ℕ) (caller : ℕ) → IsHeldTo book cut caller 0 0
held_to_none book cut caller = record {
  held_by = λ number lt. absurd (omega arith);
  most = λ it r lt h e. absurd (omega arith);
}

pub held_to_more : (book : List Page) (cut : List ℕ) (caller other held last : ℕ)
    → IsHeldTo book cut caller other held
    → ((number : ℕ) → number < last
    → IsHeldBySomeView book cut (record { caller = caller; number = number }))
    → ((number : ℕ) (r : Record) → number < get_or cut other 0 → record_of book
    (record { caller = other; number = number }) ≡ Some r → get_or r.view caller 0 ≤ last)
    → IsHeldTo book cut caller (other + 1) (max held last)
held_to_more book cut caller other held last so_far by_last most_last = record {
  held_by = λ number lt. elim (cases_lt number held) [
    | inl below ↦ so_far.held_by number below
    | inr past ↦ by_last number (omega arith)
  ];
  most = λ it r lt h e. elim (cases_eq it.caller other) [
    | inr before ↦ let le : get_or r.view caller 0 ≤ held = so_far.most it r (omega arith) h e in
        omega arith
    | inl same ↦
        let there : it.number < get_or cut other 0 =
        subst (λ (i : ℕ). it.number < get_or cut i 0) same h in
        let known : record_of book (record { caller = other; number = it.number }) ≡ Some r =
        ap (λ (i : ℕ). slice_get (page_of book i).records it.number) (sym same) ∙ e in
        let le : get_or r.view caller 0 ≤ last = most_last it.number r there known in omega arith
  ];
}

-- where the records of all callers were looked at, exactly the caller's calls below the number
-- found are held by some view of a record that the cut holds
pub held_from_all : (book : List Page) (cut : List ℕ) (caller other held : ℕ) → length book ≤ other
    → IsHeldTo book cut caller other held
    → (number : ℕ) → number < held
    ↔ IsHeldBySomeView book cut (record { caller = caller; number = number })
held_from_all book cut caller other held all h number = (
  λ (lt : number < held). h.held_by number lt,
  λ (some : IsHeldBySomeView book cut (record { caller = caller; number = number })).
      let there : some.0.caller < length book = caller_from_answer book some.0.caller some.0.number
      (slice_get_within _ some.0.number some.1 some.3) in
      let le = h.most some.0 some.1 (omega arith) some.2 some.3 in
      omega (arith, le, some.4),
)

pub held_is_few : (book : List Page) (cut : List ℕ) (caller other held : ℕ) → IsValid book
    → IsHeldTo book cut caller other held → held ≤ calls_of book caller
held_is_few book cut caller other held valid h =
    elim (cases_lt (calls_of book caller) held) [
      | inl more ↦
          let some = h.held_by (calls_of book caller) more in
          absurd (omega
          (arith, some.4, below_calls book some.1.view (valid.within some.0 some.1 some.3) caller))
      | inr fits ↦ fits
    ]

-- a call that some view of a record held by the cut holds is a call of the book
pub held_is_call : (book : List Page) (cut : List ℕ) (call : Call) → IsValid book
    → IsHeldBySomeView book cut call → IsCall book call
held_is_call book cut call valid h =
    omega (arith, h.4, below_calls book h.1.view (valid.within h.0 h.1 h.3) call.caller)

-- A page is the one of a caller in the book at a cut.
pub record IsPrefixAt (book : List Page) (cut : List ℕ) (i : ℕ) (p : Page) : Type 0 where
  pub held : (number : ℕ) → number < length p.operations
      ↔ IsHeldBySomeView book cut (record { caller = i; number = number })
  pub same : (number : ℕ) → number < length p.operations
      → slice_get p.operations number ≡ slice_get (page_of book i).operations number
  pub prefix : p.records ≡ take (get_or cut i 0) (page_of book i).records

pub prefix_at : (book : List Page) (cut : List ℕ) (i calls : ℕ) (p : Page) → calls ≤ calls_of book i
    → ((number : ℕ) → number < calls
    ↔ IsHeldBySomeView book cut (record { caller = i; number = number }))
    → p ≡ record {
      operations = take calls (page_of book i).operations;
      records = take (get_or cut i 0) (page_of book i).records;
    } → IsPrefixAt book cut i p
prefix_at book cut i calls p few held is =
    let long : length p.operations ≡ calls = ap (λ (q : Page). length q.operations) is
    ∙ length-take-le calls (page_of book i).operations few in
    record {
      held = λ number. subst (λ (n : ℕ). number < n ↔ IsHeldBySomeView book cut
          (record { caller = i; number = number })) (sym long) (held number);
      same =
          λ number lt. ap (λ (q : Page). slice_get q.operations number) is ∙ slice_get-take_within
          calls (page_of book i).operations number (omega (arith, lt, long));
      prefix = ap (λ (q : Page). q.records) is;
    }

-- The pages of the first callers are those of the book at a cut.
pub record IsPartTo (book : List Page) (cut : List ℕ) (part : List Page) (n : ℕ) : Type 0 where
  pub rows : length part ≡ n
  pub prefixes : (i : ℕ) → i < n → IsPrefixAt book cut i (page_of part i)

pub part_to_none : (book : List Page) (cut : List ℕ) → IsPartTo book cut [] 0
part_to_none book cut = record { rows = refl; prefixes = λ i lt. absurd (omega arith) }

pub part_to_more : (book : List Page) (cut : List ℕ) (part : List Page) (n : ℕ) (p : Page)
    → IsPartTo book cut part n → IsPrefixAt book cut n p
    → IsPartTo book cut (part ++ p ∷ []) (n + 1)
part_to_more book cut part n p so_far next = record {
  rows = omega (arith, so_far.rows, length-append part (p ∷ []));
  prefixes = λ i lt. elim (cases_lt i n) [
    | inl below ↦ subst (IsPrefixAt book cut i)
        (sym (get_or_append_left part (p ∷ []) empty i (omega (arith, so_far.rows))))
        (so_far.prefixes i below)
    | inr last ↦
        let same : i ≡ n = omega arith in
        subst (IsPrefixAt book cut i) (sym (get_or_push part p empty i (so_far.rows ∙ sym same)))
        (subst (λ (k : ℕ). IsPrefixAt book cut k p) (sym same) next)
  ];
}

pub part_to_all : (book : List Page) (cut : List ℕ) (part : List Page) (n : ℕ) → IsValid book
    → n ≡ length book → IsPartTo book cut part n → IsBookAt book cut part
part_to_all book cut part n valid all h = record {
  callers = h.rows ∙ all;
  records = λ (i : ℕ). elim (cases_lt i n) [
    | inl inside ↦ (h.prefixes i inside).prefix
    | inr past ↦
        ap (λ (p : Page). p.records) (page_past part i (omega (arith, h.rows)))
        ∙ (sym (take_all (get_or cut i 0) [] (omega arith)) ∙ ap (λ (p : Page).
        take (get_or cut i 0) p.records) (sym (page_past book i (omega (arith, all)))))
  ];
  calls = λ (call : Call). (
    λ (there : IsCall part call). ((h.prefixes call.caller
        (omega (arith, caller_from_call part call.caller call.number there, h.rows))).held
        call.number).0 there,
    λ (held : IsHeldBySomeView book cut call).
        let inside : call.caller < n = omega (
          arith,
          caller_from_call book call.caller call.number (held_is_call book cut call valid held),
          all,
        ) in
        ((h.prefixes call.caller inside).held call.number).1 held,
  );
  operations = λ (call : Call) (there : IsCall part call). (h.prefixes call.caller (omega
      (arith, caller_from_call part call.caller call.number there, h.rows))).same call.number there;
}

-- ---- a caller's views, by bisection

-- where the view in the middle is within the given one, the search goes on above it
pub views_within_low : (book : List Page) (caller : ℕ) (view : List ℕ) (low high middle : ℕ)
    → IsValid book → AreViewsWithin book caller view low high → middle < high
    → (s : Record) → record_of book (record { caller = caller; number = middle }) ≡ Some s
    → IsWithin s.view view → AreViewsWithin book caller view (middle + 1) high
views_within_low book caller view low high middle valid h below s at within = record {
  ordered = omega arith;
  few = h.few;
  below = λ k r lt e i.
      let rise = views_grow book valid (record { caller = caller; number = k })
      (record { caller = caller; number = middle }) r s e at refl (omega arith) i in
      omega (arith, rise, within i);
  above = h.above;
}

-- where the view in the middle isn't within the given one, the search goes on below it
pub views_within_high : (book : List Page) (caller : ℕ) (view : List ℕ) (low high middle : ℕ)
    → IsValid book → AreViewsWithin book caller view low high → low ≤ middle → middle < high
    → (s : Record) → record_of book (record { caller = caller; number = middle }) ≡ Some s
    → (IsWithin s.view view → ⊥) → AreViewsWithin book caller view low middle
views_within_high book caller view low high middle valid h above below s at out = record {
  ordered = above;
  few = omega (arith, h.few);
  below = h.below;
  above = λ k r le e within. out (λ i.
      let rise = views_grow book valid (record { caller = caller; number = middle })
      (record { caller = caller; number = k }) s r at e refl le i in
      omega (arith, rise, within i));
}

-- a view is comparable with all views of a caller where it is within the first of them that isn't
-- within it
pub comparable_with_all : (book : List Page) (caller number : ℕ) (view : List ℕ) → IsValid book
    → AreViewsWithin book caller view number number
    → (s : Record) → record_of book (record { caller = caller; number = number }) ≡ Some s
    → IsWithin view s.view
    → (k : ℕ) (r : Record) → record_of book (record { caller = caller; number = k }) ≡ Some r
    → AreComparable view r.view
comparable_with_all book caller number view valid h s at within k r e =
    elim (cases_lt k number) [
      | inl before ↦ inr (h.below k r before e)
      | inr later ↦ inl (λ i.
          let rise = views_grow book valid (record { caller = caller; number = number })
          (record { caller = caller; number = k }) s r at e refl later i in
          omega (arith, rise, within i))
    ]

pub precedes_by_view : (book : List Page) → IsValid book → (a b : Call) (r : Record)
    → record_of book a ≡ Some r → a.caller ≡ b.caller → a.number < b.number
    → get_or r.view b.caller 0 ≤ b.number
precedes_by_view book valid a b r at caller lt =
    omega (arith, valid.own a r at, ap (λ (i : ℕ). get_or r.view i 0) caller)
