-- Drawing a sketch, one event after another.
use Rattle.std.proofs.Common.{slice_get, ◌≡◌, ℕ, zero, suc, ◌+◌, ◌-◌, ◌<◌, ◌≤◌, ◌⊎◌, ◌↔◌, ◌∙◌, List, [], ◌∷◌, ◌++◌, length, sum, get_or, replicate, Some, refl, sym, ap, subst, inl, inr, arith}
use Rattle.std.proofs.lemmas.Bool.{cases_eq, cases_lt}
use Rattle.std.proofs.lemmas.List.{length-set, length-map, length-replicate}
use Rattle.std.proofs.lemmas.List.Sums.{sum_by-set}
use Rattle.std.proofs.lemmas.Option.{same_Some, slice_get_within, none-some}
use Rattle.list_laws.proofs.Ordered.{IsOrderedBy-push, IsMember-push_cases, IsMember-push_old, IsMember-push_new}
use Rattle.list_laws.proofs.Places.{get_or-replicate_default}
use Rattle.list_laws.proofs.Totals.{sum-within}
use Rattle.book_base.specs.declared.call.Call.{Call}
use Rattle.book_base.specs.declared.call.Record.{Record}
use Rattle.book_base.specs.Cut.{Holds, IsWithin}
use Rattle.book_base.specs.Book.{Page, calls_of, answers_of, announced, answered, IsCall, IsAnswered, IsValid, record_of}
use Rattle.book_base.proofs.PageLemmas.{caller_from_call, caller_from_answer}
use Rattle.book_base.proofs.GrowthLemmas.{below_calls, announced_at}
use Rattle.book_base.specs.Next.{raised}
use Rattle.legal_orders.proofs.LegalOrder.{same_call, raised_same, raised_other, raised_more, raised_cases}
use Rattle.sketch.specs.declared.event.Event.{Event}
use Rattle.sketch.specs.declared.event.Event.TheVariants.{Invoke, Return}
use Rattle.sketch.specs.declared.drawn.Drawn.{Drawn}
use Rattle.sketch.specs.Sketch.{IsEventOf, IsSeenWith, IsListedBefore, ComesBefore, StandsIn, IsSketch}
use Rattle.sketch.specs.Drawing.{IsDrawn, IsPartOf, IsNext, IsNextOf, FollowsOn, with_event}
use Rattle.sketch.proofs.Waiting.{ReturnsBefore}

-- how many events of the book aren't drawn
abbrev pub left_to_draw : List Page → Drawn → ℕ
left_to_draw book drawn =
    (sum (announced book) - sum drawn.invoked) + (sum (answered book) - sum drawn.returned)

-- A list of events is the sketch of a book as far as it is drawn.
pub record IsDrawnSketch (book : List Page) (drawn : Drawn) (events : List Event) : Type 0 where
  -- it has the drawn events, and no others
  pub whole : (event : Event) → StandsIn events event ↔ IsDrawn drawn event
  -- each stands after all that come before it
  pub ordered : (j k : ℕ) (e f : Event) → slice_get events j ≡ Some e → slice_get events k ≡ Some f
      → j < k → ComesBefore book e f
  -- each comes before all events of the book that aren't drawn
  pub before : (e f : Event) → IsDrawn drawn e → IsEventOf book f → (IsDrawn drawn f → ⊥)
      → ComesBefore book e f

-- both cuts have a count for the event's caller
abbrev IsInside : Drawn → Event → Type 0
IsInside drawn (Invoke call) = call.caller < length drawn.invoked
IsInside drawn (Return call) = call.caller < length drawn.returned

-- both cuts have a count for the caller of each event of the book
inside : (book : List Page) (drawn : Drawn) → IsPartOf book drawn → (event : Event)
    → IsEventOf book event → IsInside drawn event
inside book drawn part (Invoke call) is = let there =
    caller_from_call book call.caller call.number is in omega (arith, part.wide_invoked)
inside book drawn part (Return call) is = let there =
    caller_from_answer book call.caller call.number is in omega (arith, part.wide_returned)

-- an event drawn after one more was drawn before, or is the new one
drawn_cases : (drawn : Drawn) (x e : Event) → IsInside drawn x → FollowsOn drawn x
    → IsDrawn (with_event drawn x) e → IsDrawn drawn e ⊎ (e ≡ x)
drawn_cases drawn (Invoke a) (Invoke b) there next is =
    elim (raised_cases drawn.invoked a.caller b there is) [
      | inl old ↦ inl old
      | inr new ↦ inr (ap (λ (c : Call). Invoke c) (same_call b a new.0 (new.1 ∙ sym next)))
    ]
drawn_cases drawn (Invoke a) (Return b) there next is = inl is
drawn_cases drawn (Return a) (Invoke b) there next is = inl is
drawn_cases drawn (Return a) (Return b) there next is =
    elim (raised_cases drawn.returned a.caller b there is) [
      | inl old ↦ inl old
      | inr new ↦ inr (ap (λ (c : Call). Return c) (same_call b a new.0 (new.1 ∙ sym next)))
    ]

drawn_old : (drawn : Drawn) (x e : Event) → IsInside drawn x → IsDrawn drawn e
    → IsDrawn (with_event drawn x) e
drawn_old drawn (Invoke a) (Invoke b) there is =
    omega (arith, raised_more drawn.invoked a.caller b.caller there)
drawn_old drawn (Invoke a) (Return b) there is = is
drawn_old drawn (Return a) (Invoke b) there is = is
drawn_old drawn (Return a) (Return b) there is =
    omega (arith, raised_more drawn.returned a.caller b.caller there)

drawn_new : (drawn : Drawn) (x : Event) → IsInside drawn x → FollowsOn drawn x
    → IsDrawn (with_event drawn x) x
drawn_new drawn (Invoke a) there next =
    omega (arith, raised_same drawn.invoked a.caller there, next)
drawn_new drawn (Return a) there next =
    omega (arith, raised_same drawn.returned a.caller there, next)

-- the next event isn't drawn
next_is_new : (drawn : Drawn) (x : Event) → FollowsOn drawn x → IsDrawn drawn x → ⊥
next_is_new drawn (Invoke a) next is = absurd (omega (arith, next))
next_is_new drawn (Return a) next is = absurd (omega (arith, next))

-- a raised cut is within bounds that hold the call by which it was raised
raised_bounded : (cut : List ℕ) (bound : ℕ → ℕ) (call : Call) → call.caller < length cut
    → IsNextOf cut call → call.number < bound call.caller
    → ((i : ℕ) → get_or cut i 0 ≤ bound i) → (i : ℕ) → get_or (raised cut call.caller) i 0 ≤ bound i
raised_bounded cut bound call there next below within i =
    elim (cases_eq i call.caller) [
      | inl same ↦ subst (λ (k : ℕ). get_or (raised cut call.caller) k 0 ≤ bound k) (sym same)
          (omega (arith, raised_same cut call.caller there, next))
      | inr other ↦ omega (arith, raised_other cut call.caller i other, within i)
    ]

-- the calls that the view of the next call to return holds are invoked
seen_invoked : (book : List Page) (drawn : Drawn) → IsValid book → (call : Call)
    → IsNext book drawn (Return call) → (r : Record) → record_of book call ≡ Some r
    → IsWithin r.view drawn.invoked
seen_invoked book drawn valid call next r known i =
    elim (cases_lt (get_or drawn.invoked i 0) (get_or r.view i 0)) [
      | inl less ↦
          let other : Call = record { caller = i; number = get_or drawn.invoked i 0 } in
          let is : IsCall book other =
          omega (arith, less, below_calls book r.view (valid.within call r known) i) in
          elim (next.first (Invoke other) is
          (λ (held : IsDrawn drawn (Invoke other)). absurd (omega (arith, held)))) [
            | inl same ↦ absurd cc
            | inr before ↦ absurd (omega (arith, before r known, less))
          ]
      | inr more ↦ more
    ]

-- what is drawn is part of a sketch also after the next event
pub part_more : (book : List Page) (drawn : Drawn) → IsValid book → (x : Event)
    → IsPartOf book drawn → IsNext book drawn x → IsPartOf book (with_event drawn x)
part_more book drawn valid (Invoke a) part next =
    let there : a.caller < length drawn.invoked = inside book drawn part (Invoke a) next.is_event in
    record {
      wide_invoked = length-set drawn.invoked a.caller (get_or drawn.invoked a.caller 0 + 1)
          ∙ part.wide_invoked;
      wide_returned = part.wide_returned;
      made =
          raised_bounded drawn.invoked (calls_of book) a there next.follows next.is_event part.made;
      answered = part.answered;
      seen = λ (call : Call) (r : Record) (known : record_of book call ≡ Some r)
          (held : Holds drawn.returned call) (i : ℕ).
          omega (arith, part.seen call r known held i, raised_more drawn.invoked a.caller i there);
    }
part_more book drawn valid (Return a) part next =
    let there : a.caller < length drawn.returned =
    inside book drawn part (Return a) next.is_event in
    record {
      wide_invoked = part.wide_invoked;
      wide_returned = length-set drawn.returned a.caller (get_or drawn.returned a.caller 0 + 1)
          ∙ part.wide_returned;
      made = part.made;
      answered = raised_bounded drawn.returned
          (answers_of book) a there next.follows next.is_event part.answered;
      seen = λ (call : Call) (r : Record) (known : record_of book call ≡ Some r)
          (held : Holds (raised drawn.returned a.caller) call).
          elim (raised_cases drawn.returned a.caller call there held) [
            | inl old ↦ part.seen call r known old
            | inr new ↦ seen_invoked book drawn valid a next r (ap (record_of book)
                (same_call a call (sym new.0) (next.follows ∙ sym new.1)) ∙ known)
          ];
    }

-- the sketch is drawn one event further after the next event
pub sketch_more : (book : List Page) (drawn : Drawn) (events : List Event) (x : Event)
    → IsPartOf book drawn → IsNext book drawn x → IsDrawnSketch book drawn events
    → IsDrawnSketch book (with_event drawn x) (events ++ x ∷ [])
sketch_more book drawn events x part next h =
    let there = inside book drawn part x next.is_event in
    record {
      whole = λ (e : Event). (
        λ stands. elim (IsMember-push_cases events x e stands) [
          | inl old ↦ drawn_old drawn x e there ((h.whole e).0 old)
          | inr new ↦
              subst (IsDrawn (with_event drawn x)) (sym new) (drawn_new drawn x there next.follows)
        ],
        λ (is : IsDrawn (with_event drawn x) e).
            elim (drawn_cases drawn x e there next.follows is) [
              | inl old ↦ IsMember-push_old events x e ((h.whole e).1 old)
              | inr new ↦ subst (λ (y : Event). (k : ℕ) × (slice_get (events ++ x ∷ []) k ≡ Some y))
                  (sym new) (IsMember-push_new events x)
            ],
      );
      ordered = IsOrderedBy-push (ComesBefore book) events x h.ordered
          (λ e stands.
          h.before e x ((h.whole e).0 stands) next.is_event (next_is_new drawn x next.follows));
      before = λ (e f : Event) (is : IsDrawn (with_event drawn x) e) (of : IsEventOf book f)
          (new : IsDrawn (with_event drawn x) f → ⊥).
          let not : IsDrawn drawn f → ⊥ =
          λ (old : IsDrawn drawn f). new (drawn_old drawn x f there old) in
          elim (drawn_cases drawn x e there next.follows is) [
            | inl old ↦ h.before e f old of not
            | inr same ↦ elim (next.first f of not) [
              | inl one ↦ absurd (new (subst (IsDrawn (with_event drawn x)) (sym one)
                  (drawn_new drawn x there next.follows)))
              | inr first ↦ subst (λ (y : Event). ComesBefore book y f) (sym same) first
            ]
          ];
    }

-- a cut of zeros holds no call
holds_none : (cut : List ℕ) (n : ℕ) (call : Call) → cut ≡ replicate n 0 → Holds cut call → ⊥
holds_none cut n call none held = absurd (omega (
  arith,
  held,
  get_or-replicate_default {X = ℕ} n call.caller 0,
  ap (λ (c : List ℕ). get_or c call.caller 0) none,
))

-- nothing is drawn at first
draws_none : (book : List Page) (drawn : Drawn) (n : ℕ) → n ≡ length book → drawn.invoked
    ≡ replicate n 0 → drawn.returned ≡ replicate n 0 → (event : Event) → IsDrawn drawn event → ⊥
draws_none book drawn n wide invoked returned (Invoke call) held =
    holds_none drawn.invoked n call invoked held
draws_none book drawn n wide invoked returned (Return call) held =
    holds_none drawn.returned n call returned held

-- what is drawn at first, which is nothing, is part of a sketch
pub part_none : (book : List Page) (drawn : Drawn) (n : ℕ) → n ≡ length book
    → drawn.invoked ≡ replicate n 0 → drawn.returned ≡ replicate n 0 → IsPartOf book drawn
part_none book drawn n wide invoked returned = record {
  wide_invoked = ap (λ (c : List ℕ). length c) invoked ∙ (length-replicate n 0 ∙ wide);
  wide_returned = ap (λ (c : List ℕ). length c) returned ∙ (length-replicate n 0 ∙ wide);
  made = λ (i : ℕ). omega
      (arith, get_or-replicate_default {X = ℕ} n i 0, ap (λ (c : List ℕ). get_or c i 0) invoked);
  answered = λ (i : ℕ). omega
      (arith, get_or-replicate_default {X = ℕ} n i 0, ap (λ (c : List ℕ). get_or c i 0) returned);
  seen = λ (call : Call) (r : Record) (known : record_of book call ≡ Some r)
      (held : Holds drawn.returned call). absurd (holds_none drawn.returned n call returned held);
}

pub sketch_none : (book : List Page) (drawn : Drawn) (n : ℕ) → n ≡ length book
    → drawn.invoked ≡ replicate n 0 → drawn.returned ≡ replicate n 0 → IsDrawnSketch book drawn []
sketch_none book drawn n wide invoked returned = record {
  whole = λ (event : Event). (
    λ stands. absurd (none-some event stands.1),
    λ (held : IsDrawn drawn event).
        absurd (draws_none book drawn n wide invoked returned event held),
  );
  ordered = λ j k e f at bt less. absurd (none-some e at);
  before =
      λ (e f : Event) (held : IsDrawn drawn e) (of : IsEventOf book f) (new : IsDrawn drawn f → ⊥).
      absurd (draws_none book drawn n wide invoked returned e held);
}

-- a drawn event is one of the book's
drawn_of : (book : List Page) (drawn : Drawn) → IsPartOf book drawn → (event : Event)
    → IsDrawn drawn event → IsEventOf book event
drawn_of book drawn part (Invoke call) held = omega (arith, held, part.made call.caller)
drawn_of book drawn part (Return call) held = omega (arith, held, part.answered call.caller)

-- where all events of the book are drawn, the drawn events are its sketch
pub sketch_done : (book : List Page) (drawn : Drawn) (events : List Event) → IsPartOf book drawn
    → IsDrawnSketch book drawn events
    → ((event : Event) → IsEventOf book event → IsDrawn drawn event) → IsSketch book events
sketch_done book drawn events part h all = record {
  whole = λ (event : Event). (
    λ stands. drawn_of book drawn part event ((h.whole event).0 stands),
    λ (is : IsEventOf book event). (h.whole event).1 (all event is),
  );
  ordered = h.ordered;
}

-- the count of a caller in the record counts is the number of its answers
answered_at : (book : List Page) (i : ℕ) → get_or (answered book) i 0 ≡ answers_of book i
answered_at [] i = refl
answered_at (page ∷ book) zero = refl
answered_at (page ∷ book) (suc i) = answered_at book i

-- the sum of a raised cut is greater by one
sum-raised : (cut : List ℕ) (i : ℕ) → i < length cut → sum (raised cut i) ≡ sum cut + 1
sum-raised cut i there = omega (arith, sum_by-set (λ (n : ℕ). n) cut i (get_or cut i 0 + 1) 0 there)

-- no more is drawn than the book has
invoked_within : (book : List Page) (drawn : Drawn) → IsPartOf book drawn
    → sum drawn.invoked ≤ sum (announced book)
invoked_within book drawn part =
    sum-within drawn.invoked (announced book)
    (omega (arith, part.wide_invoked, length-map book (λ (page : Page). length page.operations)))
    (λ (i : ℕ). omega (arith, part.made i, announced_at book i))

returned_within : (book : List Page) (drawn : Drawn) → IsPartOf book drawn
    → sum drawn.returned ≤ sum (answered book)
returned_within book drawn part =
    sum-within drawn.returned (answered book)
    (omega (arith, part.wide_returned, length-map book (λ (page : Page). length page.records)))
    (λ (i : ℕ). omega (arith, part.answered i, answered_at book i))

-- each event leaves one less to draw
pub fewer_left : (book : List Page) (drawn : Drawn) → IsValid book → (x : Event)
    → IsPartOf book drawn → IsNext book drawn x
    → left_to_draw book (with_event drawn x) < left_to_draw book drawn
fewer_left book drawn valid (Invoke a) part next =
    omega (
      arith,
      sum-raised drawn.invoked a.caller (inside book drawn part (Invoke a) next.is_event),
      invoked_within book (with_event drawn (Invoke a))
          (part_more book drawn valid (Invoke a) part next),
    )
fewer_left book drawn valid (Return a) part next =
    omega (
      arith,
      sum-raised drawn.returned a.caller (inside book drawn part (Return a) next.is_event),
      returned_within book (with_event drawn (Return a))
          (part_more book drawn valid (Return a) part next),
    )

-- Which event comes next.

-- a call that a cut doesn't hold is outside it
outside : (cut : List ℕ) (call : Call) → (Holds cut call → ⊥)
    → get_or cut call.caller 0 ≤ call.number
outside cut call not =
    elim (cases_lt call.number (get_or cut call.caller 0)) [
      | inl held ↦ absurd (not held)
      | inr out ↦ out
    ]

-- The cut up to which the next events are drawn: it is within the views of all calls that are still
-- to return, and holds each call of the book that is in some view with one of its calls.
pub record IsSeenNext (book : List Page) (drawn : Drawn) (seen : List ℕ) : Type 0 where
  pub made : (i : ℕ) → get_or seen i 0 ≤ calls_of book i
  pub least : (a : Call) (r : Record) → record_of book a ≡ Some r
      → get_or drawn.returned a.caller 0 ≤ a.number → IsWithin seen r.view
  pub together : (b c : Call) → Holds seen b → IsCall book c → IsSeenWith book c b → Holds seen c

-- the first call that this cut holds and that isn't invoked is invoked before each other event that
-- isn't drawn
invoke_first : (book : List Page) (drawn : Drawn) (seen : List ℕ) (b : Call) → IsPartOf book drawn
    → IsSeenNext book drawn seen
    → IsNextOf drawn.invoked b → Holds seen b
    → ((i : ℕ) → i < b.caller → get_or seen i 0 ≤ get_or drawn.invoked i 0)
    → (other : Event) → IsEventOf book other → (IsDrawn drawn other → ⊥) → (other ≡ Invoke b)
    ⊎ ComesBefore book (Invoke b) other
invoke_first book drawn seen b part h next held first (Return a) is new =
    inr (λ (r : Record) (known : record_of book a ≡ Some r).
    omega (arith, h.least a r known (outside drawn.returned a new) b.caller, held))
invoke_first book drawn seen b part h next held first (Invoke c) is new =
    let out = outside drawn.invoked c new in
    let with_c : IsSeenWith book b c =
    λ (a : Call) (r : Record) (known : record_of book a ≡ Some r) (sees : Holds r.view c).
    elim (cases_lt a.number (get_or drawn.returned a.caller 0)) [
      | inl gone ↦ absurd (omega (arith, part.seen a r known gone c.caller, sees, out))
      | inr waits ↦ omega (arith, h.least a r known waits b.caller, held)
    ] in
    let earlier : (c ≡ b → ⊥) → IsSeenWith book c b → IsListedBefore b c =
    λ (apart : c ≡ b → ⊥) (with_b : IsSeenWith book c b).
    let sees : Holds seen c = h.together b c held is with_b in
    elim (cases_lt b.caller c.caller) [
      | inl less ↦ inl less
      | inr more ↦ elim (cases_eq c.caller b.caller) [
        | inl same ↦ elim (cases_eq c.number b.number) [
          | inl number ↦ absurd (apart (same_call c b same number))
          | inr number ↦ inr (
            sym same,
            omega (arith, number, out, next, ap (λ (i : ℕ). get_or drawn.invoked i 0) same),
          )
        ]
        | inr other ↦ absurd (omega (arith, first c.caller (omega (arith, other, more)), sees, out))
      ]
    ] in
    elim (cases_eq c.caller b.caller) [
      | inl same ↦ elim (cases_eq c.number b.number) [
        | inl number ↦ inl (ap (λ (x : Call). Invoke x) (same_call c b same number))
        | inr number ↦ inr (with_c, earlier (λ (e : c ≡ b). number (ap (λ (x : Call). x.number) e)))
      ]
      | inr other ↦ inr (with_c, earlier (λ (e : c ≡ b). other (ap (λ (x : Call). x.caller) e)))
    ]

-- the first call to return, of which all that its view holds is invoked, returns before each other
-- event that isn't drawn
return_first : (book : List Page) (drawn : Drawn) (w : Call) (r : Record)
    → record_of book w ≡ Some r
    → ((other : Call) → IsAnswered book other → get_or drawn.returned other.caller 0 ≤ other.number
    → (other ≡ w) ⊎ ReturnsBefore book w other)
    → IsWithin r.view drawn.invoked
    → (other : Event) → IsEventOf book other → (IsDrawn drawn other → ⊥) → (other ≡ Return w)
    ⊎ ComesBefore book (Return w) other
return_first book drawn w r known first seen (Invoke c) is new =
    inr (λ (s : Record) (at : record_of book w ≡ Some s).
    subst (λ (x : Record). get_or x.view c.caller 0 ≤ c.number) (same_Some r s (sym known ∙ at))
    (omega (arith, seen c.caller, outside drawn.invoked c new)))
return_first book drawn w r known first seen (Return a) is new =
    elim (first a is (outside drawn.returned a new)) [
      | inl same ↦ inl (ap (λ (x : Call). Return x) same)
      | inr before ↦ inr before
    ]

-- an invocation comes next: the first call that this cut holds and that isn't invoked
pub invoke_next : (book : List Page) (drawn : Drawn) (seen : List ℕ) (b : Call)
    → IsPartOf book drawn → IsSeenNext book drawn seen
    → IsNextOf drawn.invoked b → Holds seen b
    → ((i : ℕ) → i < b.caller → get_or seen i 0 ≤ get_or drawn.invoked i 0)
    → IsNext book drawn (Invoke b)
invoke_next book drawn seen b part h next held first = record {
  is_event = omega (arith, held, h.made b.caller);
  follows = next;
  first = invoke_first book drawn seen b part h next held first;
}

-- where no call is to return, the next events are drawn up to all calls
pub all_seen_next : (book : List Page) (drawn : Drawn) (seen : List ℕ)
    → ((i : ℕ) → get_or seen i 0 ≡ calls_of book i)
    → ((a : Call) → IsAnswered book a → Holds drawn.returned a) → IsSeenNext book drawn seen
all_seen_next book drawn seen counts none = record {
  made = λ (i : ℕ). omega (arith, counts i);
  least = λ (a : Call) (r : Record) (known : record_of book a ≡ Some r)
      (out : get_or drawn.returned a.caller 0 ≤ a.number).
      absurd (omega (arith, none a (slice_get_within _ a.number r known), out));
  together =
      λ (b c : Call) (held : Holds seen b) (is : IsCall book c) (with_b : IsSeenWith book c b).
      omega (arith, counts c.caller, is);
}

-- where a call is to return, the next events are drawn up to the view of the first one
pub view_seen_next : (book : List Page) (drawn : Drawn) → IsValid book → (w : Call) (r : Record)
    → record_of book w ≡ Some r
    → ((other : Call) → IsAnswered book other → get_or drawn.returned other.caller 0 ≤ other.number
    → (other ≡ w) ⊎ ReturnsBefore book w other)
    → IsSeenNext book drawn r.view
view_seen_next book drawn valid w r known first = record {
  made = below_calls book r.view (valid.within w r known);
  least = λ (a : Call) (s : Record) (at : record_of book a ≡ Some s)
      (out : get_or drawn.returned a.caller 0 ≤ a.number).
      elim (first a (slice_get_within _ a.number s at) out) [
        | inl same ↦ subst (λ (x : Record). IsWithin r.view x.view)
            (same_Some r s (sym known ∙ (ap (record_of book) (sym same) ∙ at)))
            (λ (i : ℕ). omega arith)
        | inr before ↦ (before r s known at).0
      ];
  together =
      λ (b c : Call) (held : Holds r.view b) (is : IsCall book c) (with_b : IsSeenWith book c b).
      with_b w r known held;
}

-- a return comes next: that of the first call to return, where the calls that its view holds are
-- invoked
pub return_next : (book : List Page) (drawn : Drawn) (w : Call) (r : Record)
    → record_of book w ≡ Some r → IsNextOf drawn.returned w
    → ((other : Call) → IsAnswered book other → get_or drawn.returned other.caller 0 ≤ other.number
    → (other ≡ w) ⊎ ReturnsBefore book w other)
    → IsWithin r.view drawn.invoked → IsNext book drawn (Return w)
return_next book drawn w r known next first seen = record {
  is_event = slice_get_within _ w.number r known;
  follows = next;
  first = return_first book drawn w r known first seen;
}

-- where all calls are invoked and none is to return, all events are drawn
pub all_drawn : (book : List Page) (drawn : Drawn) (seen : List ℕ)
    → ((i : ℕ) → get_or seen i 0 ≡ calls_of book i) → IsWithin seen drawn.invoked
    → ((a : Call) → IsAnswered book a → Holds drawn.returned a) → (event : Event)
    → IsEventOf book event → IsDrawn drawn event
all_drawn book drawn seen counts within none (Invoke call) is =
    omega (arith, counts call.caller, within call.caller, is)
all_drawn book drawn seen counts within none (Return call) is = none call is
