-- The first item may be taken at once by the take of it that has the least view.
use Rattle.std.proofs.Common.{◌≡◌, ◌≢◌, ℕ, ◌+◌, ◌<◌, ◌≤◌, ◌⊎◌, ◌∙◌, List, [], ◌∷◌, ◌++◌, length, get_or, Option, Some, unwrap_or, refl, sym, ap, subst, inl, inr, length-set, arith}
use Rattle.std.specs.List.{AllByRecursion}
use Rattle.std.proofs.lemmas.Bool.{cases_eq, cases_lt}
use Rattle.std.proofs.lemmas.Option.{same_Some, slice_get_within, slice_get_cases}
use Rattle.book_base.specs.declared.call.Call.{Call}
use Rattle.book_base.specs.declared.call.Place.{Place}
use Rattle.book_base.specs.declared.call.Record.{Record}
use Rattle.book_base.specs.Book.{Page, page_of, answers_of, IsCall, IsAnswered, IsValid, operation_of, record_of}
use Rattle.book_base.specs.Order.{call_at, step_at}
use Rattle.book_base.specs.Next.{raised, next_call, MayComeNext, MayStandNext, HoldsAnswered, list_after, Continues}
use Rattle.search_hints.specs.declared.marked_callers.MarkedCallers.{MarkedCallers}
use Rattle.book_base.specs.Pruning.{HasOneOpen}
use Rattle.search_hints.specs.Marks.{IsMarked, MarksSuffice}
use Rattle.legal_orders.proofs.LegalOrder.{raised_more, raised_twice, comes_later, same_call, answer_stands, within_cut}
use Rattle.legal_orders.specs.Container.{Puts, Takes, Neither, Reading}
use Rattle.legal_orders.specs.Calls.{TakesOut}
use Rattle.legal_orders.specs.Twins.{DoesTheSame, IsTwin}
use Rattle.legal_orders.proofs.Exchanging.{twin_serves}
use Rattle.list_pruning.specs.LeastFirst.{placed, GivesLeastFirst, IsLeastTake, IsRising, TakesFirst}
use Rattle.list_pruning.proofs.Placing.{placed-more, placed-before, placed-before_all, placed-after, all-placed, all-weaker, cases_deed}

-- the word of a place's call
abbrev pub word_at : List Page → Place → ℕ
word_at book place = (step_at book place).0

-- an operation word that a call has
pub word_is : (book : List Page) (place : Place) (op : ℕ)
    → operation_of book (call_at place) ≡ Some op → word_at book place ≡ op
word_is book place op known = ap (λ (o : Option ℕ). unwrap_or o 0) known

-- a call of the book has an operation word
pub word_stands : (book : List Page) (place : Place) → IsCall book (call_at place)
    → operation_of book (call_at place) ≡ Some (word_at book place)
word_stands book place is =
    elim (slice_get_cases (page_of book place.caller).operations place.number).1 [
      | inl found ↦ found.2 ∙ ap Some (sym (word_is book place found.0 found.2))
      | inr past ↦ absurd (omega (arith, is, past.0))
    ]

-- Some places continue an order once another caller's call has come, from a list, and they are
-- fewer than some given places by more than a given number.
abbrev pub GoesOnAfter : ℕ → List Page → (List ℕ → ℕ → List ℕ × ℕ) → List ℕ → ℕ → List ℕ
    → List Place → Type 0
GoesOnAfter less book next cut i list rest = (other : List Place)
    × Continues book next (raised cut i) list other × (length other + less < length rest)

-- A place whose reply is the same at another list may come before the places that continue an order
-- after another caller's call.
pub goes_on_over : (less : ℕ) (book : List Page) (next : List ℕ → ℕ → List ℕ × ℕ)
    (cut one other : List ℕ) (i : ℕ) (place : Place) (rest : List Place) → i < length cut
    → place.caller ≢ i → MayStandNext book next cut one place
    → (next one (word_at book place)).1 ≡ (next other (word_at book place)).1
    → GoesOnAfter less book next (raised cut place.caller) i (list_after book next other place) rest
    → GoesOnAfter less book next cut i other (place ∷ rest)
goes_on_over less book next cut one other i place rest inside apart may same on =
    let there : MayStandNext book next (raised cut i) other place = record {
      may_come = comes_later book cut i (call_at place) inside apart may.may_come;
      recorded = may.recorded;
      reply = sym same ∙ may.reply;
    } in (
      place ∷ on.0,
      (
        there,
        subst (λ (c : List ℕ). Continues book next c (list_after book next other place) on.0)
            (raised_twice cut place.caller i apart) on.1,
      ),
      omega (arith, on.2),
    )

-- A call that takes out a value with the least view after a cut does so after more calls.
pub least_later : (reading : Reading) (book : List Page) (cut : List ℕ) (v i : ℕ) (take : Call)
    → i < length cut → IsLeastTake reading book cut v take
    → IsLeastTake reading book (raised cut i) v take
least_later reading book cut v i take inside is = record {
  takes = is.takes;
  least = λ (other : Call) (takes : TakesOut reading book other v)
      (out : get_or (raised cut i) other.caller 0 ≤ other.number).
      is.least other takes (omega (arith, out, raised_more cut i other.caller inside));
}

-- where a call may come next, a place of its caller that may come next has this call
pub its_place : (book : List Page) (next : List ℕ → ℕ → List ℕ × ℕ) (cut list : List ℕ)
    (place : Place) (call : Call) → MayComeNext book cut call
    → MayStandNext book next cut list place
    → place.caller ≡ call.caller → call_at place ≡ call
its_place book next cut list place call may stands same =
    same_call (call_at place) call same
    (stands.may_come.next ∙ (ap (λ (i : ℕ). get_or cut i 0) same ∙ sym may.next))

-- the cut doesn't hold all answered calls while an answered call is outside it
pub not_done : (reading : Reading) (book : List Page) (cut : List ℕ) (v : ℕ) (take : Call)
    → MayComeNext book cut take → TakesOut reading book take v → HoldsAnswered book cut → ⊥
not_done reading book cut v take may takes held =
    let out : take.number < get_or cut take.caller 0 =
    held take (slice_get_within _ take.number takes.1 takes.3) in
    omega (arith, out, may.next)

-- a list is empty, or it has a first item
cases_prefix : (list : List ℕ) → (list ≡ []) ⊎ ((x : ℕ) × (rest : List ℕ) × (list ≡ x ∷ rest))
cases_prefix [] = inl refl
cases_prefix (x ∷ rest) = inr (x, rest, refl)

-- A list around a value: all items before it are less, and no item after it is less.
pub record Parted (low : ℕ) (before after : List ℕ) : Type 0 where
  pub below : AllByRecursion (λ (x : ℕ). x < low) before
  pub above : AllByRecursion (λ (y : ℕ). low ≤ y) after

-- An operation makes of a list with the value and of one without it lists that differ in the value
-- alone, with one reply, and isn't a take of the value.
record StepsAlike (reading : Reading) (next : List ℕ → ℕ → List ℕ × ℕ) (low op : ℕ)
    (before after : List ℕ) : Type 0 where
  new_before : List ℕ
  new_after : List ℕ
  parted : Parted low new_before new_after
  having : (next (before ++ low ∷ after) op).0 ≡ new_before ++ low ∷ new_after
  lacking : (next (before ++ after) op).0 ≡ new_before ++ new_after
  reply : (next (before ++ low ∷ after) op).1 ≡ (next (before ++ after) op).1
  other : reading.deed op ≡ Takes → reading.shown (next (before ++ low ∷ after) op).1 ≡ Some low → ⊥

put_no_take : (v : ℕ) → Puts v ≡ Takes → ⊥
put_no_take v e = cc

neither_no_take : Neither ≡ Takes → ⊥
neither_no_take e = cc

alike-put : (reading : Reading) (next : List ℕ → ℕ → List ℕ × ℕ) (bound : ℕ)
    → GivesLeastFirst reading next bound → (low op v : ℕ) (before after : List ℕ)
    → reading.deed op ≡ Puts v → Parted low before after
    → StepsAlike reading next low op before after
alike-put reading next bound is low op v before after put parted =
    let no : reading.deed op ≢ Takes =
    λ (e : reading.deed op ≡ Takes). put_no_take v (sym put ∙ e) in
    let blind = is.blind (before ++ low ∷ after) (before ++ after) op no in
    elim (cases_lt v low) [
      | inl less ↦ record {
        new_before = placed v before;
        new_after = after;
        parted = record {
          below = all-placed (λ (x : ℕ). x < low) v before less parted.below;
          above = parted.above;
        };
        having = is.put (before ++ low ∷ after) op v put ∙ placed-before v low before after less;
        lacking = is.put (before ++ after) op v put
            ∙ placed-before_all v before after (all-weaker (λ (y : ℕ). low ≤ y) (λ (y : ℕ). v < y)
            after (λ (y : ℕ) (le : low ≤ y). omega (arith, le, less)) parted.above);
        reply = blind;
        other = λ e shown. no e;
      }
      | inr more ↦
          let below : AllByRecursion (λ (x : ℕ). x ≤ v) before =
          all-weaker (λ (x : ℕ). x < low) (λ (x : ℕ). x ≤ v) before
          (λ (x : ℕ) (lt : x < low). omega (arith, lt, more)) parted.below in
          record {
            new_before = before;
            new_after = placed v after;
            parted = record {
              below = parted.below;
              above = all-placed (λ (y : ℕ). low ≤ y) v after more parted.above;
            };
            having = is.put (before ++ low ∷ after) op v put
                ∙ (placed-after v before (low ∷ after) below
                ∙ ap (λ (xs : List ℕ). before ++ xs) (placed-more v low after more));
            lacking = is.put (before ++ after) op v put ∙ placed-after v before after below;
            reply = blind;
            other = λ e shown. no e;
          }
    ]

alike-take : (reading : Reading) (next : List ℕ → ℕ → List ℕ × ℕ) (bound : ℕ)
    → GivesLeastFirst reading next bound → (low op x : ℕ) (before after : List ℕ)
    → reading.deed op ≡ Takes → low < bound → Parted low (x ∷ before) after
    → StepsAlike reading next low op (x ∷ before) after
alike-take reading next bound is low op x before after takes small parted =
    let lesser : x < bound = omega (arith, small, parted.below.0) in
    record {
      new_before = before;
      new_after = after;
      parted = record { below = parted.below.1; above = parted.above };
      having = is.take x (before ++ low ∷ after) op takes;
      lacking = is.take x (before ++ after) op takes;
      reply = is.one_reply _ _ x (is.shows x (before ++ low ∷ after) op lesser takes)
          (is.shows x (before ++ after) op lesser takes);
      other = λ e shown. omega (
        arith,
        parted.below.0,
        same_Some x low (sym (is.shows x (before ++ low ∷ after) op lesser takes) ∙ shown),
      );
    }

alike-neither : (reading : Reading) (next : List ℕ → ℕ → List ℕ × ℕ) (bound : ℕ)
    → GivesLeastFirst reading next bound → (low op : ℕ) (before after : List ℕ)
    → reading.deed op ≡ Neither → Parted low before after
    → StepsAlike reading next low op before after
alike-neither reading next bound is low op before after neither parted =
    let no : reading.deed op ≢ Takes =
    λ (e : reading.deed op ≡ Takes). neither_no_take (sym neither ∙ e) in
    record {
      new_before = before;
      new_after = after;
      parted = parted;
      having = is.neither (before ++ low ∷ after) op neither;
      lacking = is.neither (before ++ after) op neither;
      reply = is.blind (before ++ low ∷ after) (before ++ after) op no;
      other = λ e shown. no e;
    }

-- An operation steps alike at the two lists, or it takes the value as the first item.
steps_alike : (reading : Reading) (next : List ℕ → ℕ → List ℕ × ℕ) (bound : ℕ)
    → GivesLeastFirst reading next bound → (low op : ℕ) (before after : List ℕ)
    → low < bound → Parted low before after → StepsAlike reading next low op before after
    ⊎ ((reading.deed op ≡ Takes) × (before ≡ []))
steps_alike reading next bound is low op before after small parted =
    elim (cases_deed (reading.deed op)) [
      | inl put ↦ inl (alike-put reading next bound is low op put.0 before after put.1 parted)
      | inr other ↦ elim other [
        | inl takes ↦ elim (cases_prefix before) [
          | inl none ↦ inr (takes, none)
          | inr some ↦
              inl (subst (λ (xs : List ℕ). StepsAlike reading next low op xs after) (sym some.2)
              (alike-take reading next bound is low op some.0 some.1 after takes small
              (subst (λ (xs : List ℕ). Parted low xs after) some.2 parted)))
        ]
        | inr neither ↦ inl (alike-neither reading next bound is low op before after neither parted)
      ]
    ]

-- The take with the least view is a twin of any other place that may come next and takes the value.
pub least_is_twin : (reading : Reading) (next : List ℕ → ℕ → List ℕ × ℕ)
    → ((a b : ℕ) → reading.deed a ≡ Takes → reading.deed b ≡ Takes → a ≡ b)
    → ((a b v : ℕ) → reading.shown a ≡ Some v → reading.shown b ≡ Some v → a ≡ b)
    → (book : List Page) (cut list : List ℕ) (low : ℕ) (take : Call) (place : Place)
    → take.caller ≢ place.caller → MayComeNext book cut take → IsLeastTake reading book cut low take
    → MayStandNext book next cut list place → reading.deed (word_at book place) ≡ Takes
    → reading.shown (next list (word_at book place)).1 ≡ Some low
    → IsTwin book next cut list take (call_at place)
least_is_twin reading next one_take one_reply book cut list low take place apart may least stands
    takes shows =
    let r : Record = least.takes.1 in
    let same : least.takes.0 ≡ word_at book place =
    one_take least.takes.0 (word_at book place) least.takes.4 takes in
    let known : operation_of book (call_at place) ≡ Some (word_at book place) =
    word_stands book place stands.may_come.is_call in
    let does : DoesTheSame book next list take r (call_at place) =
    elim (cases_lt place.number (answers_of book place.caller)) [
      | inl answered ↦
          let there = answer_stands book (call_at place) answered in
          let shown : reading.shown there.0.reply ≡ Some low =
          ap reading.shown (stands.recorded there.0 there.1 ∙ sym stands.reply) ∙ shows in
          let out : TakesOut reading book (call_at place) low =
          (word_at book place, there.0, known, there.1, takes, shown) in
          inl (
            there.0,
            there.1,
            one_reply there.0.reply r.reply low shown least.takes.5,
            least.least (call_at place) out (omega (arith, stands.may_come.next)),
          )
      | inr past ↦
          let word : unwrap_or (operation_of book take) 0 ≡ word_at book place =
          ap (λ (o : Option ℕ). unwrap_or o 0) least.takes.2 ∙ same in
          inr (
            λ (h : IsAnswered book (call_at place)). omega (arith, h, past),
            one_reply _ _ low
                (ap (λ (w : ℕ). reading.shown (next list w).1) word ∙ shows) least.takes.5,
          )
    ] in
    record {
      apart = apart;
      first = may;
      second = stands.may_come;
      same = least.takes.2 ∙ (ap Some same ∙ sym known);
      serves = inl (r, least.takes.3, does);
    }

-- Where places continue an order from a list with the value, fewer continue it from the list
-- without it, once the take with the least view has come.
pub taken_first : (reading : Reading) (next : List ℕ → ℕ → List ℕ × ℕ) (bound : ℕ)
    → GivesLeastFirst reading next bound → (book : List Page) (low : ℕ) (take : Call)
    → low < bound → IsValid book → HasOneOpen book → (rest : List Place) (cut before after : List ℕ)
    → length book ≤ length cut → MayComeNext book cut take
    → IsLeastTake reading book cut low take → Parted low before after
    → Continues book next cut (before ++ low ∷ after) rest
    → GoesOnAfter 0 book next cut take.caller (before ++ after) rest
taken_first reading next bound is book low take small valid one [] cut before after wide may least
    parted goes =
    absurd (not_done reading book cut low take may least.takes goes)
taken_first reading next bound is book low take small valid one
    (place ∷ rest) cut before after wide may least parted goes =
    let inside : take.caller < length cut = within_cut book cut take wide may.is_call in
    let there : place.caller < length cut =
    within_cut book cut (call_at place) wide goes.0.may_come.is_call in
    let op : ℕ = word_at book place in
    elim (steps_alike reading next bound is low op before after small parted) [
      | inl alike ↦
          let apart : place.caller ≢ take.caller = λ (same : place.caller ≡ take.caller).
          let call : call_at place ≡ take =
          its_place book next cut (before ++ low ∷ after) place take may goes.0 same in
          let word : op ≡ least.takes.0 =
          word_is book place least.takes.0 (ap (operation_of book) call ∙ least.takes.2) in
          alike.other (ap reading.deed word ∙ least.takes.4)
          (ap reading.shown (goes.0.reply ∙ sym
          (goes.0.recorded least.takes.1 (ap (record_of book) call ∙ least.takes.3)))
          ∙ least.takes.5) in
          let wider : length book ≤ length (raised cut place.caller) =
          omega (arith, wide, length-set cut place.caller (get_or cut place.caller 0 + 1)) in
          let later : MayComeNext book (raised cut place.caller) take = comes_later book cut
          place.caller take there (λ (e : take.caller ≡ place.caller). apart (sym e)) may in
          let on = taken_first reading next bound is book low take small valid one rest
          (raised cut place.caller) alike.new_before alike.new_after wider later
          (least_later reading book cut low place.caller take there least) alike.parted
          (subst (λ (xs : List ℕ). Continues book next (raised cut place.caller) xs rest)
          alike.having goes.1) in
          goes_on_over 0 book next cut (before ++ low ∷ after)
          (before ++ after) take.caller place rest inside apart goes.0 alike.reply
          (subst
          (λ (xs : List ℕ). GoesOnAfter 0 book next (raised cut place.caller) take.caller xs rest)
          (sym alike.lacking) on)
      | inr taken ↦
          let list : List ℕ = before ++ low ∷ after in
          let rests : (next list op).0 ≡ before ++ after
          = ap (λ (xs : List ℕ). (next (xs ++ low ∷ after) op).0) taken.1
          ∙ (is.take low after op taken.0 ∙ ap (λ (xs : List ℕ). xs ++ after) (sym taken.1)) in
          elim (cases_eq place.caller take.caller) [
            | inl same ↦ (
              rest,
              subst (λ (i : ℕ). Continues book next (raised cut i) (before ++ after) rest) same
                  (subst (λ (xs : List ℕ). Continues book next (raised cut place.caller) xs rest)
                  rests goes.1),
              omega arith,
            )
            | inr apart ↦
                let shows : reading.shown (next list op).1 ≡ Some low
                = ap (λ (xs : List ℕ). reading.shown (next (xs ++ low ∷ after) op).1) taken.1
                ∙ is.shows low after op small taken.0 in
                let twin : IsTwin book next cut list take (call_at place)
                = least_is_twin reading next is.one_take is.one_reply book cut list low take place
                (λ (e : take.caller ≡ place.caller). apart (sym e)) may least goes.0
                taken.0 shows in
                let on = twin_serves book next cut list take place rest wide valid one twin goes in
                let word : unwrap_or (operation_of book take) 0 ≡ op
                = ap (λ (o : Option ℕ). unwrap_or o 0) least.takes.2
                ∙ is.one_take least.takes.0 op least.takes.4 taken.0 in (
                  on.0,
                  subst (λ (xs : List ℕ). Continues book next (raised cut take.caller) xs on.0)
                      (ap (λ (w : ℕ). (next list w).0) word ∙ rests) on.1.1,
                  omega (arith, on.2),
                )
          ]
    ]

-- The take with the least view may come next where the value is the first item, and takes it.
pub take_stands : (reading : Reading) (next : List ℕ → ℕ → List ℕ × ℕ) (bound : ℕ)
    → GivesLeastFirst reading next bound → (book : List Page) (cut : List ℕ) (low : ℕ)
    (after : List ℕ) (take : Call) (least : IsLeastTake reading book cut low take) → low < bound
    → (now : List ℕ) → MayComeNext book now take
    → MayStandNext book next now (low ∷ after)
    (record { caller = take.caller; number = take.number; reply = least.takes.1.reply })
    × (list_after book next (low ∷ after)
    (record { caller = take.caller; number = take.number; reply = least.takes.1.reply }) ≡ after)
take_stands reading next bound is book cut low after take least small now may =
    let op : ℕ = least.takes.0 in
    let word : unwrap_or (operation_of book take) 0 ≡ op =
    ap (λ (o : Option ℕ). unwrap_or o 0) least.takes.2 in (
      record {
        may_come = may;
        recorded = λ (s : Record) (known : record_of book take ≡ Some s).
            ap (λ (x : Record). x.reply) (same_Some s least.takes.1 (sym known ∙ least.takes.3));
        reply = is.one_reply _ _ low (ap (λ (w : ℕ). reading.shown (next (low ∷ after) w).1) word
            ∙ is.shows low after op small least.takes.4) least.takes.5;
      },
      ap (λ (w : ℕ). (next (low ∷ after) w).0) word ∙ is.take low after op least.takes.4,
    )

-- The mark on a caller whose next call takes the first item with the least view suffices.
pub take_suffices : (reading : Reading) (next : List ℕ → ℕ → List ℕ × ℕ) (bound : ℕ)
    → GivesLeastFirst reading next bound → (book : List Page) (cut : List ℕ) (low : ℕ)
    (after : List ℕ) (caller : ℕ) (marks : MarkedCallers) → low < bound
    → AllByRecursion (λ (y : ℕ). low ≤ y) after → IsValid book → HasOneOpen book
    → length book ≤ length cut
    → MayComeNext book cut (next_call cut caller)
    → IsLeastTake reading book cut low (next_call cut caller) → IsMarked marks caller
    → MarksSuffice book next cut (low ∷ after) marks
take_suffices reading next bound is book cut low after caller marks small above valid one wide may
    least marked rest goes =
    let take : Call = next_call cut caller in
    let on = taken_first reading next bound is book low take small valid one rest cut [] after wide
    may least (record { below = tt; above = above }) goes in
    let stands = take_stands reading next bound is book cut low after take least small cut may in (
      record { caller = caller; number = get_or cut caller 0; reply = least.takes.1.reply },
      on.0,
      marked,
      (
        stands.0,
        subst (λ (xs : List ℕ). Continues book next (raised cut caller) xs on.0)
            (sym stands.1) on.1,
      ),
      omega (arith, on.2),
    )

pub first_take_suffices : (reading : Reading) (next : List ℕ → ℕ → List ℕ × ℕ) (bound : ℕ)
    → GivesLeastFirst reading next bound → (book : List Page) (cut list : List ℕ)
    (caller : ℕ) (marks : MarkedCallers) → IsRising bound list → IsValid book → HasOneOpen book
    → length book ≤ length cut → MayComeNext book cut (next_call cut caller)
    → TakesFirst reading book cut list caller → IsMarked marks caller
    → MarksSuffice book next cut list marks
first_take_suffices reading next bound is book cut [] caller marks rising valid one wide may takes
    marked = absurd takes
first_take_suffices reading next bound is book cut
    (low ∷ after) caller marks rising valid one wide may takes marked =
    take_suffices reading next bound is book cut low after caller marks rising.0 rising.1 valid one
    wide may takes marked
