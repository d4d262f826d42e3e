-- A valid book has a sketch: it is drawn event by event.
use Rattle.std.proofs.Common.{◌≡◌, ℕ, zero, suc, ◌+◌, ◌<◌, ◌≤◌, ◌⊎◌, List, [], ◌∷◌, ◌++◌, length, get_or, replicate, Option, Some, None, refl, sym, subst, inl, inr, arith}
use Rattle.std.proofs.lemmas.Bool.{cases_eq, cases_lt}
use Rattle.std.proofs.lemmas.List.{get_or_past}
use Rattle.book_base.specs.declared.call.Call.{Call}
use Rattle.book_base.specs.Cut.{Holds, IsWithin}
use Rattle.book_base.specs.Book.{Page, answers_of, announced, IsAnswered, IsValid}
use Rattle.book_base.specs.Next.{next_call}
use Rattle.book_base.proofs.GrowthLemmas.{announced_at}
use Rattle.legal_orders.proofs.LegalOrder.{answer_stands}
use Rattle.sketch.specs.declared.event.Event.{Event}
use Rattle.sketch.specs.declared.event.Event.TheVariants.{Invoke, Return}
use Rattle.sketch.specs.declared.drawn.Drawn.{Drawn}
use Rattle.sketch.specs.Sketch.{IsEventOf, IsSketch}
use Rattle.sketch.specs.Drawing.{IsDrawn, IsPartOf, IsNext, IsNextOf, with_event}
use Rattle.sketch.specs.Laws.{ValidBooksHaveASketch}
use Rattle.sketch.proofs.Waiting.{IsFirstUpTo, first-more_none, first-more_only, first-more, first_of_all, none_of_all, earlier_first, earlier_second}
use Rattle.sketch.proofs.Drawing.{left_to_draw, IsDrawnSketch, part_none, part_more, sketch_none, sketch_more, sketch_done, fewer_left, view_seen_next, all_seen_next, invoke_next, return_next, all_drawn}

-- a cut is within another, or it isn't
within_cons : (x y : ℕ) (xs ys : List ℕ) → x ≤ y → IsWithin xs ys → IsWithin (x ∷ xs) (y ∷ ys)
within_cons x y xs ys low within zero = low
within_cons x y xs ys low within (suc i) = within i

within_nil : (x : ℕ) (xs : List ℕ) → x ≤ 0 → IsWithin xs [] → IsWithin (x ∷ xs) []
within_nil x xs low within zero = low
within_nil x xs low within (suc i) = within i

cases_within : (xs ys : List ℕ) → IsWithin xs ys ⊎ (IsWithin xs ys → ⊥)
cases_within [] ys = inl (λ i. omega arith)
cases_within (x ∷ xs) [] = elim (cases_lt 0 x) [
  | inl above ↦ inr (λ h. absurd (let head : x ≤ 0 = h zero in omega arith))
  | inr low ↦ elim (cases_within xs []) [
    | inl within ↦ inl (within_nil x xs low within)
    | inr not ↦ inr (λ h. not (λ i. h (suc i)))
  ]
]
cases_within (x ∷ xs) (y ∷ ys) = elim (cases_lt y x) [
  | inl above ↦ inr (λ h. absurd (let head : x ≤ y = h zero in omega arith))
  | inr low ↦ elim (cases_within xs ys) [
    | inl within ↦ inl (within_cons x y xs ys low within)
    | inr not ↦ inr (λ h. not (λ i. h (suc i)))
  ]
]

-- of the callers below a number and one more that has a call to return, one has the first call to
-- return
with_next : (book : List Page) → IsValid book → (returned : List ℕ) (n : ℕ) (old : Option Call)
    → IsFirstUpTo book returned n old → IsAnswered book (next_call returned n)
    → (first : Option Call) × IsFirstUpTo book returned (n + 1) first
with_next book valid returned n None h is =
    (Some (next_call returned n), first-more_only book returned n (next_call returned n) is refl h)
with_next book valid returned n (Some old) h is =
    let call : Call = next_call returned n in
    let r = answer_stands book old h.answered in
    let s = answer_stands book call is in
    elim (cases_within r.0.view s.0.view) [
      | inl within ↦ (
        Some old,
        first-more book returned n old call old is refl h
            (inl (refl, earlier_first book old call r.0 s.0 r.1 s.1 h.below within)),
      )
      | inr not ↦ (
        Some call,
        first-more book returned n old call call is refl h
            (inr (refl, earlier_second book valid old call r.0 s.0 r.1 s.1 not)),
      )
    ]

first_up_to : (book : List Page) → IsValid book → (returned : List ℕ) (n : ℕ)
    → (first : Option Call) × IsFirstUpTo book returned n first
first_up_to book valid returned zero = (None, λ i low is. absurd (omega arith))
first_up_to book valid returned (suc n) =
    let before = first_up_to book valid returned n in
    let up : n + 1 ≡ suc n = omega arith in
    let more : (first : Option Call) × IsFirstUpTo book returned (n + 1) first =
    elim (cases_lt (get_or returned n 0) (answers_of book n)) [
      | inl is ↦ with_next book valid returned n before.0 before.1 is
      | inr none ↦ (
        before.0,
        first-more_none book returned n before.0 (λ is. absurd (omega (arith, is))) before.1,
      )
    ] in
    (more.0, subst (λ (k : ℕ). IsFirstUpTo book returned k more.0) up more.1)

-- the first call, of the callers below a number, that a cut holds and that isn't invoked; or there
-- is none
first_new : (seen invoked : List ℕ) (n : ℕ)
    → ((b : Call) × IsNextOf invoked b × Holds seen b
    × ((i : ℕ) → i < b.caller → get_or seen i 0 ≤ get_or invoked i 0))
    ⊎ ((i : ℕ) → i < n → get_or seen i 0 ≤ get_or invoked i 0)
first_new seen invoked zero = inr (λ i low. absurd (omega arith))
first_new seen invoked (suc n) = elim (first_new seen invoked n) [
  | inl found ↦ inl found
  | inr all ↦ elim (cases_lt (get_or invoked n 0) (get_or seen n 0)) [
    | inl new ↦ inl (next_call invoked n, refl, new, all)
    | inr old ↦ inr (λ i low. elim (cases_eq i n) [
      | inl same ↦ subst (λ (k : ℕ). get_or seen k 0 ≤ get_or invoked k 0) (sym same) old
      | inr other ↦ all i (omega arith)
    ])
  ]
]

within_all : (seen invoked : List ℕ)
    → ((i : ℕ) → i < length seen → get_or seen i 0 ≤ get_or invoked i 0) → IsWithin seen invoked
within_all seen invoked all i = elim (cases_lt i (length seen)) [
  | inl low ↦ all i low
  | inr past ↦ omega (arith, get_or_past seen i 0 past)
]

-- all events are drawn, or one comes next
next_by : (book : List Page) (drawn : Drawn) → IsValid book → IsPartOf book drawn
    → (waiting : Option Call) → IsFirstUpTo book drawn.returned (length book) waiting
    → ((event : Event) → IsEventOf book event → IsDrawn drawn event)
    ⊎ ((x : Event) × IsNext book drawn x)
next_by book drawn valid part None h =
    let none = none_of_all book drawn.returned h in
    elim (first_new (announced book) drawn.invoked (length (announced book))) [
      | inl b ↦ inr (
        Invoke b.0,
        invoke_next book drawn (announced book) b.0 part
            (all_seen_next book drawn (announced book) (announced_at book) none) b.1 b.2 b.3,
      )
      | inr all ↦ inl (all_drawn book drawn (announced book) (announced_at book)
          (within_all (announced book) drawn.invoked all) none)
    ]
next_by book drawn valid part (Some w) h =
    let r = answer_stands book w h.answered in
    let first = first_of_all book valid drawn.returned w h in
    elim (first_new r.0.view drawn.invoked (length r.0.view)) [
      | inl b ↦ inr (
        Invoke b.0,
        invoke_next book drawn r.0.view b.0 part
            (view_seen_next book drawn valid w r.0 r.1 first) b.1 b.2 b.3,
      )
      | inr all ↦ inr (
        Return w,
        return_next book drawn w r.0 r.1 h.next first (within_all r.0.view drawn.invoked all),
      )
    ]

next_or_done : (book : List Page) (drawn : Drawn) → IsValid book → IsPartOf book drawn
    → ((event : Event) → IsEventOf book event → IsDrawn drawn event)
    ⊎ ((x : Event) × IsNext book drawn x)
next_or_done book drawn valid part =
    let waiting = first_up_to book valid drawn.returned (length book) in
    next_by book drawn valid part waiting.0 waiting.1

-- what is drawn so far is drawn on to a sketch of the book
draw_on : (left : ℕ) (book : List Page) (drawn : Drawn) (events : List Event) → IsValid book
    → left_to_draw book drawn ≤ left → IsPartOf book drawn → IsDrawnSketch book drawn events
    → (all : List Event) × IsSketch book all
draw_on zero book drawn events valid few part so_far = elim (next_or_done book drawn valid part) [
  | inl done ↦ (events, sketch_done book drawn events part so_far done)
  | inr next ↦ absurd (let less = fewer_left book drawn valid next.0 part next.1 in omega arith)
]
draw_on (suc left) book drawn events valid few part so_far =
    elim (next_or_done book drawn valid part) [
      | inl done ↦ (events, sketch_done book drawn events part so_far done)
      | inr next ↦
          let less = fewer_left book drawn valid next.0 part next.1 in
          draw_on left book (with_event drawn next.0) (events ++ next.0 ∷ []) valid (omega arith)
          (part_more book drawn valid next.0 part next.1)
          (sketch_more book drawn events next.0 part next.1 so_far)
    ]

pub valid_books_have_a_sketch : ValidBooksHaveASketch
valid_books_have_a_sketch book valid =
    let n = length book in
    let drawn : Drawn = record { invoked = replicate n 0; returned = replicate n 0 } in
    draw_on (left_to_draw book drawn) book drawn [] valid (omega arith)
    (part_none book drawn n refl refl refl) (sketch_none book drawn n refl refl refl)
