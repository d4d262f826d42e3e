-- The worked tables: two are closed, and for a book with a legal order no table is.
use Rattle.std.proofs.Common.{◌≡◌, ◌≢◌, ℕ, zero, suc, ◌+◌, ◌<◌, ◌≤◌, ◌∙◌, true, false, IsTrue, List, [], ◌∷◌, ◌++◌, length, get_or, Some, None, refl, sym, ap, subst, inl, inr, slice_get, arith}
use Rattle.std.specs.List.{AllByRecursion}
use Rattle.std.proofs.lemmas.Bool.{true≢false, cases_lt}
use Rattle.std.proofs.lemmas.Option.{same_Some, none-some}
use Rattle.book_base.specs.declared.call.Call.{Call}
use Rattle.book_base.specs.declared.call.Record.{Record}
use Rattle.search_hints.specs.declared.marked_callers.MarkedCallers.{MarkedCallers}
use Rattle.book_base.specs.Cut.{Holds, IsWithin, AreComparable}
use Rattle.book_base.specs.Book.{Page, IsAnswered, IsValid, Precedes, record_of, answers_of, calls_of}
use Rattle.book_base.specs.Order.{call_at, step_at, HasLegalOrder}
use Rattle.book_base.specs.Next.{next_call, MayComeNext, MayStandNext}
use Rattle.book_base.specs.Pruning.{HasOneOpen}
use Rattle.search_hints.specs.Marks.{IsMarked, MarksSuffice}
use Rattle.book_base.proofs.ViewLemmas.{same_call}
use Rattle.judging_examples.specs.Books.{answer, stand}
use Rattle.legal_orders.proofs.LegalOrder.{legal_order_from_continues}
use Rattle.legal_orders.specs.Container.{Effect, Puts, Takes, Neither, value_put}
use Rattle.list_pruning.specs.LastFirst.{GivesLastFirst}
use Rattle.list_pruning.proofs.Stepping.{put_no_take, neither_no_take}
use Rattle.stack_levels.specs.Levels.{Layer, IsAmong, IsOneLevel, LeavesTop, TakeLeads, IsFollowed, IsClosedAt, IsKeptLayer, IsClosed}
use Rattle.judging_examples.specs.Piles.{pile, pile_deed, pile_shown, pile_next, pile_spec, pile_after, without_last, layer, puts_and_takes, one_below_two, up_to_two, without_start, taken_too_often, one_on_one, up_and_down, unanswered, both_below, one_below}
use Rattle.stack_levels.proofs.Refuting.{closed_tables_have_no_order}

-- ---- tables that are closed

abbrev call : ℕ → ℕ → Call
call i k = record { caller = i; number = k }

-- Where a cut lacks an answered call, marks suffice that are on all callers whose next calls may
-- come next.
marked_suffice : (book : List Page) (next : List ℕ → ℕ → List ℕ × ℕ) (cut list : List ℕ)
    (marks : MarkedCallers) (outside : Call) → IsAnswered book outside → (Holds cut outside → ⊥)
    → ((i : ℕ) → MayComeNext book cut (next_call cut i) → IsMarked marks i)
    → MarksSuffice book next cut list marks
marked_suffice book next cut list marks outside answered out marked [] goes =
    absurd (out (goes outside answered))
marked_suffice book next cut list marks outside answered out marked (place ∷ other) goes =
    let same : call_at place ≡ next_call cut place.caller =
    same_call (call_at place) (next_call cut place.caller) refl goes.0.may_come.next in
    let may : MayComeNext book cut (next_call cut place.caller) =
    subst (λ (c : Call). MayComeNext book cut c) same goes.0.may_come in
    (place, other, marked place.caller may, goes, omega arith)

-- What holds of all pairs of a list holds of each pair in it.
each_pair : (P : ℕ → List ℕ → Type 0) (pairs : List (ℕ × List ℕ))
    → AllByRecursion (λ (pair : ℕ × List ℕ). P pair.0 pair.1) pairs → (l : ℕ) (cut : List ℕ) (k : ℕ)
    → slice_get pairs k ≡ Some (l, cut) → P l cut
each_pair P [] all l cut k at = absurd (none-some (l, cut) at)
each_pair P (pair ∷ rest) all l cut zero at =
    subst (λ (x : ℕ × List ℕ). P x.0 x.1) (same_Some pair (l, cut) at) all.0
each_pair P (pair ∷ rest) all l cut (suc k) at = each_pair P rest all.1 l cut k at

each_layer : (P : Layer → Type 0) (layers : List Layer) → AllByRecursion P layers → (l : ℕ)
    (found : Layer) → slice_get layers l ≡ Some found → P found
each_layer P [] all l found at = absurd (none-some found at)
each_layer P (first ∷ rest) all zero found at = subst P (same_Some first found at) all.0
each_layer P (first ∷ rest) all (suc l) found at = each_layer P rest all.1 l found at

-- Whatever is said of the parents of a level holds where it has none.
no_parent : (P : ℕ → Type 0) (p : ℕ) → IsOneLevel [] p → P p
no_parent P p one = absurd (none-some p one.1)

only_parent : (P : ℕ → Type 0) (parent p : ℕ) → P parent → IsOneLevel (parent ∷ []) p → P p
only_parent P parent p it (zero, at) = subst P (same_Some parent p at) it
only_parent P parent p it (suc k, at) = absurd (none-some p at)

-- Caller 0 alone is marked.
abbrev first : MarkedCallers
first = record { callers = true ∷ [] }

abbrev second : MarkedCallers
second = record { callers = false ∷ true ∷ [] }

abbrev both : MarkedCallers
both = record { callers = true ∷ true ∷ [] }

at_first : (P : ℕ → Type 0) → P 0 → (i : ℕ) → IsMarked first i → P i
at_first P it zero marked = it
at_first P it (suc i) marked = absurd (true≢false (sym marked))

at_second : (P : ℕ → Type 0) → P 1 → (i : ℕ) → IsMarked second i → P i
at_second P it zero marked = absurd (true≢false (sym marked))
at_second P it (suc zero) marked = it
at_second P it (suc (suc i)) marked = absurd (true≢false (sym marked))

at_both : (P : ℕ → Type 0) → P 0 → P 1 → (i : ℕ) → IsMarked both i → P i
at_both P one other zero marked = one
at_both P one other (suc zero) marked = other
at_both P one other (suc (suc i)) marked = absurd (true≢false (sym marked))

-- The bottom, without parents, may be said to be kept.
bottom_is_kept : (book : List Page) (layers : List Layer)
    → IsKeptLayer pile book layers (layer None true [])
bottom_is_kept book layers = record {
  word = tt;
  below = λ (p : ℕ) (one : IsOneLevel [] p).
      no_parent (λ (q : ℕ). (under : Layer) × (slice_get layers q ≡ Some under)
      × IsTrue under.top.kept) p one;
}

-- In the book of one caller only its next call may come next.
of_one : (cut : List ℕ) (i : ℕ) → MayComeNext (puts_and_takes 1) cut (next_call cut i)
    → IsMarked first i
of_one cut zero may = refl
of_one cut (suc i) may = absurd (omega (arith, may.is_call))

bottom_leads : IsClosedAt pile (puts_and_takes 1) one_below_two (IsAmong up_to_two) 0 (0 ∷ [])
bottom_leads = record {
  wide = omega arith;
  layer = layer None true [];
  there = refl;
  marks = first;
  suffice = λ next bound list is top. marked_suffice (puts_and_takes 1) next (0 ∷ []) list first
      (call 0 0) (omega arith) (λ held. omega (arith, held)) (of_one (0 ∷ []));
  followed = at_first (λ (i : ℕ). IsFollowed pile (puts_and_takes 1) one_below_two
      (IsAmong up_to_two) 0 (layer None true []) (0 ∷ []) (next_call (0 ∷ []) i))
      (inr
      (inr (inl (1, refl, (1, layer (Some 1) false (0 ∷ []), refl, refl, (0, refl), (1, refl))))));
}

one_leads : IsClosedAt pile (puts_and_takes 1) one_below_two (IsAmong up_to_two) 1 (1 ∷ [])
one_leads = record {
  wide = omega arith;
  layer = layer (Some 1) false (0 ∷ []);
  there = refl;
  marks = first;
  suffice = λ next bound list is top. marked_suffice (puts_and_takes 1) next (1 ∷ []) list first
      (call 0 1) (omega arith) (λ held. omega (arith, held)) (of_one (1 ∷ []));
  followed = at_first (λ (i : ℕ). IsFollowed pile (puts_and_takes 1) one_below_two
      (IsAmong up_to_two) 1 (layer (Some 1) false (0 ∷ [])) (1 ∷ []) (next_call (1 ∷ []) i))
      (inr
      (inr (inl (2, refl, (2, layer (Some 2) false (1 ∷ []), refl, refl, (0, refl), (2, refl))))));
}

two_ends : IsClosedAt pile (puts_and_takes 1) one_below_two (IsAmong up_to_two) 2 (2 ∷ [])
two_ends = record {
  wide = omega arith;
  layer = layer (Some 2) false (1 ∷ []);
  there = refl;
  marks = first;
  suffice = λ next bound list is top. marked_suffice (puts_and_takes 1) next (2 ∷ []) list first
      (call 0 2) (omega arith) (λ held. omega (arith, held)) (of_one (2 ∷ []));
  followed = at_first (λ (i : ℕ). IsFollowed pile (puts_and_takes 1) one_below_two
      (IsAmong up_to_two) 2 (layer (Some 2) false (1 ∷ [])) (2 ∷ []) (next_call (2 ∷ []) i))
      (inl (
        Some 1,
        (0, answer 2 (3 ∷ []), refl, refl, refl, refl),
        λ (e : Some 1 ≡ Some 2). absurd (omega (arith, same_Some 1 2 e)),
      ));
}

-- The table of the bottom, the 1 on it and the 2 on the 1 is closed for the book whose take shows
-- the 1.
pub one_below_two_is_closed : IsClosed pile (puts_and_takes 1) one_below_two (IsAmong up_to_two)
one_below_two_is_closed = record {
  bottom = layer None true [];
  first = refl;
  empty = refl;
  start = (0, refl);
  kept = each_layer (λ (found : Layer). IsTrue found.top.kept
      → IsKeptLayer pile (puts_and_takes 1) one_below_two found) one_below_two (
        λ said. bottom_is_kept (puts_and_takes 1) one_below_two,
        (λ said. absurd (true≢false (sym said)), (λ said. absurd (true≢false (sym said)), tt)),
      );
  closed = λ (l : ℕ) (cut : List ℕ) (among : IsAmong up_to_two l cut).
      each_pair (IsClosedAt pile (puts_and_takes 1) one_below_two (IsAmong up_to_two)) up_to_two
      (bottom_leads, (one_leads, (two_ends, tt))) l cut among.0 among.1;
}

-- ---- the book that is taken from too often

-- After the put of caller 1, only the next call of caller 0 may come next.
of_two : (n i : ℕ) → MayComeNext taken_too_often (n ∷ 1 ∷ []) (next_call (n ∷ 1 ∷ []) i)
    → IsMarked first i
of_two n zero may = refl
of_two n (suc zero) may = absurd (omega (arith, may.is_call))
of_two n (suc (suc i)) may = absurd (omega (arith, may.is_call))

-- After the put of caller 0 alone, only the put of caller 1 may come next.
of_put : (i : ℕ) → MayComeNext taken_too_often (1 ∷ 0 ∷ []) (next_call (1 ∷ 0 ∷ []) i)
    → IsMarked second i
of_put zero may = absurd (omega (arith, may.preceded (call 1 0) (inl (omega arith))))
of_put (suc zero) may = refl
of_put (suc (suc i)) may = absurd (omega (arith, may.is_call))

of_both : (i : ℕ) → MayComeNext taken_too_often (0 ∷ 0 ∷ []) (next_call (0 ∷ 0 ∷ []) i)
    → IsMarked both i
of_both zero may = refl
of_both (suc zero) may = refl
of_both (suc (suc i)) may = absurd (omega (arith, may.is_call))

-- No call precedes the put of caller 0.
first_is_free : (i k : ℕ) → Precedes taken_too_often (call i k) (call 0 0) → ⊥
first_is_free zero zero p = elim p [
  | inl seen ↦ omega (arith, seen)
  | inr own ↦ omega (arith, own.1)
]
first_is_free zero (suc zero) p = elim p [
  | inl seen ↦ omega (arith, seen)
  | inr own ↦ omega (arith, own.1)
]
first_is_free zero (suc (suc zero)) p = elim p [
  | inl seen ↦ omega (arith, seen)
  | inr own ↦ omega (arith, own.1)
]
first_is_free zero (suc (suc (suc zero))) p = elim p [
  | inl seen ↦ omega (arith, seen)
  | inr own ↦ omega (arith, own.1)
]
first_is_free zero (suc (suc (suc (suc k)))) p = elim p [
  | inl seen ↦ seen
  | inr own ↦ omega (arith, own.1)
]
first_is_free (suc zero) zero p = elim p [
  | inl seen ↦ omega (arith, seen)
  | inr own ↦ omega (arith, own.0)
]
first_is_free (suc zero) (suc k) p = elim p [ inl seen ↦ seen | inr own ↦ omega (arith, own.0) ]
first_is_free (suc (suc i)) k p = elim p [ inl seen ↦ seen | inr own ↦ omega (arith, own.0) ]

-- The view of the put of caller 0 is within that of the put of caller 1.
both_see : (r s : Record) → record_of taken_too_often (call 0 0) ≡ Some r
    → record_of taken_too_often (call 1 0) ≡ Some s → IsWithin r.view s.view
both_see r s x y i =
    let mine : answer 0 (1 ∷ 1 ∷ []) ≡ r = same_Some (answer 0 (1 ∷ 1 ∷ [])) r x in
    let its : answer 0 (1 ∷ 1 ∷ []) ≡ s = same_Some (answer 0 (1 ∷ 1 ∷ [])) s y in
    omega (
      arith,
      ap (λ (t : Record). get_or t.view i 0) mine,
      ap (λ (t : Record). get_or t.view i 0) its,
    )

-- A pair of the table that goes up and down is closed where its cut lacks an answered call, all
-- callers whose next calls may come next are marked, and the next call of each marked caller is
-- followed.
closed_pair : (l : ℕ) (cut : List ℕ) (at : Layer) (marks : MarkedCallers) (outside : Call)
    → length taken_too_often ≤ length cut → slice_get one_on_one l ≡ Some at
    → IsAnswered taken_too_often outside → (Holds cut outside → ⊥)
    → ((i : ℕ) → MayComeNext taken_too_often cut (next_call cut i) → IsMarked marks i)
    → ((i : ℕ) → IsMarked marks i → IsFollowed pile taken_too_often one_on_one (IsAmong up_and_down)
    l at cut (next_call cut i))
    → IsClosedAt pile taken_too_often one_on_one (IsAmong up_and_down) l cut
closed_pair l cut at marks outside wide there answered out marked followed = record {
  wide = wide;
  layer = at;
  there = there;
  marks = marks;
  suffice = λ next bound list is top.
      marked_suffice taken_too_often next cut list marks outside answered out marked;
  followed = followed;
}

-- The next call of a caller is followed from a pair of the table that goes up and down.
abbrev Goes : ℕ → Layer → List ℕ → ℕ → Type 0
Goes l at cut i =
    IsFollowed pile taken_too_often one_on_one (IsAmong up_and_down) l at cut (next_call cut i)

-- The table that goes up by two puts and down by two takes is closed for the book with a third
-- take.
pub one_on_one_is_closed : IsClosed pile taken_too_often one_on_one (IsAmong up_and_down)
one_on_one_is_closed =
    let bottom : Layer = layer None true [] in
    let one : Layer = layer (Some 1) false (0 ∷ []) in
    let two : Layer = layer (Some 1) false (1 ∷ []) in
    let put : Record = answer 0 (1 ∷ 1 ∷ []) in
    record {
      bottom = bottom;
      first = refl;
      empty = refl;
      start = (0, refl);
      kept = each_layer (λ (found : Layer). IsTrue found.top.kept
          → IsKeptLayer pile taken_too_often one_on_one found) one_on_one (
            λ said. bottom_is_kept taken_too_often one_on_one,
            (λ said. absurd (true≢false (sym said)), (λ said. absurd (true≢false (sym said)), tt)),
          );
      closed = λ (l : ℕ) (cut : List ℕ) (among : IsAmong up_and_down l cut).
          each_pair (IsClosedAt pile taken_too_often one_on_one (IsAmong up_and_down)) up_and_down (
            closed_pair 0 (0 ∷ 0 ∷ []) bottom both (call 0 0) (omega arith) refl (omega arith)
                (λ held. omega (arith, held)) of_both
                (at_both (Goes 0 bottom (0 ∷ 0 ∷ []))
                (inr (inr (inl (1, refl, (1, one, refl, refl, (0, refl), (1, refl))))))
                (inr (inr (inr (
                  0,
                  record {
                    is_call = omega arith;
                    next = refl;
                    preceded = λ (a : Call) (p : Precedes taken_too_often a (call 0 0)).
                        absurd (first_is_free a.caller a.number p);
                  },
                  record {
                    apart = λ (e : 0 ≡ 1). absurd (omega (arith, e));
                    same = refl;
                    sooner = inl (put, put, refl, refl, refl, both_see);
                  },
                  (1, refl, (1, one, refl, refl, (0, refl), (1, refl))),
                ))))),
            (
              closed_pair 1 (1 ∷ 0 ∷ []) one second (call 1 0) (omega arith) refl (omega arith)
                  (λ held. omega (arith, held)) of_put
                  (at_second (Goes 1 one (1 ∷ 0 ∷ []))
                  (inr (inr (inl (1, refl, (2, two, refl, refl, (0, refl), (2, refl))))))),
              (
                closed_pair 2 (1 ∷ 1 ∷ []) two first (call 0 1) (omega arith) refl (omega arith)
                    (λ held. omega (arith, held)) (of_two 1)
                    (at_first (Goes 2 two (1 ∷ 1 ∷ []))
                    (inr (inr (inl (
                      0,
                      refl,
                      λ (p : ℕ) (under : IsOneLevel (1 ∷ []) p).
                          only_parent (λ (q : ℕ). IsAmong up_and_down q (2 ∷ 1 ∷ [])) 1 p
                          (3, refl) under,
                    ))))),
                (
                  closed_pair 1 (2 ∷ 1 ∷ []) one first (call 0 2) (omega arith) refl (omega arith)
                      (λ held. omega (arith, held)) (of_two 2)
                      (at_first (Goes 1 one (2 ∷ 1 ∷ []))
                      (inr (inr (inl (
                        0,
                        refl,
                        λ (p : ℕ) (under : IsOneLevel (0 ∷ []) p).
                            only_parent (λ (q : ℕ). IsAmong up_and_down q (3 ∷ 1 ∷ [])) 0 p
                            (4, refl) under,
                      ))))),
                  (
                    closed_pair 0 (3 ∷ 1 ∷ []) bottom first (call 0 3) (omega arith) refl
                        (omega arith)
                        (λ held. omega (arith, held)) (of_two 3)
                        (at_first (Goes 0 bottom (3 ∷ 1 ∷ []))
                        (inl (
                          Some 1,
                          (0, answer 2 (4 ∷ 1 ∷ []), refl, refl, refl, refl),
                          λ (e : Some 1 ≡ None). absurd (none-some 1 (sym e)),
                        ))),
                    tt,
                  ),
                ),
              ),
            ),
          ) l cut among.0 among.1;
    }

-- ---- the pile gives its last value first

same_value : (w v : ℕ) → Puts w ≡ Puts v → w ≡ v
same_value w v e = same_Some w v (ap value_put e)

put_no_neither : (v : ℕ) → Neither ≡ Puts v → ⊥
put_no_neither v e = cc

small_values : (op v : ℕ) → pile_deed op ≡ Puts v → v < 3
small_values zero v e = absurd (put_no_take v (sym e))
small_values (suc zero) v e = omega (arith, same_value 1 v e)
small_values (suc (suc zero)) v e = omega (arith, same_value 2 v e)
small_values (suc (suc (suc n))) v e = absurd (put_no_neither v e)

takes_by_zero : (op : ℕ) → pile_deed op ≡ Takes → op ≡ 0
takes_by_zero zero e = refl
takes_by_zero (suc zero) e = absurd (put_no_take 1 e)
takes_by_zero (suc (suc zero)) e = absurd (put_no_take 2 e)
takes_by_zero (suc (suc (suc n))) e = absurd (neither_no_take e)

same_reply : (one other : List ℕ) (op : ℕ) → pile_deed op ≢ Takes
    → (pile_next one op).1 ≡ (pile_next other op).1
same_reply one other zero apart = absurd (apart refl)
same_reply one other (suc zero) apart = refl
same_reply one other (suc (suc zero)) apart = refl
same_reply one other (suc (suc (suc n))) apart = refl

shown_by : (reply v : ℕ) → pile_shown reply ≡ Some v → reply ≡ suc v
shown_by zero v e = absurd (none-some v e)
shown_by (suc w) v e = ap suc (same_Some w v e)

last_of_more : (list : List ℕ) (x : ℕ) → without_last (list ++ x ∷ []) ≡ (list, suc x)
last_of_more [] x = refl
last_of_more (v ∷ []) x = refl
last_of_more (v ∷ w ∷ rest) x =
    ap (λ (parts : List ℕ × ℕ). (v ∷ parts.0, parts.1)) (last_of_more (w ∷ rest) x)

-- The pile gives its last value first, and its values are below 3.
pub pile_gives_last_first : GivesLastFirst pile pile_next 3
pile_gives_last_first = record {
  small = small_values;
  put = λ list op v e. ap (λ (d : Effect). (pile_after list d).0) e;
  take = λ list x op e. ap (λ (d : Effect). (pile_after (list ++ x ∷ []) d).0) e
      ∙ ap (λ (parts : List ℕ × ℕ). parts.0) (last_of_more list x);
  shows = λ list x op low e. ap (λ (d : Effect). pile_shown (pile_after (list ++ x ∷ []) d).1) e
      ∙ ap (λ (parts : List ℕ × ℕ). pile_shown parts.1) (last_of_more list x);
  empty = λ op e. (
    ap (λ (d : Effect). (pile_after [] d).0) e,
    ap (λ (d : Effect). pile_shown (pile_after [] d).1) e,
  );
  neither = λ list op e. ap (λ (d : Effect). (pile_after list d).0) e;
  blind = same_reply;
  one_take = λ a b e f. takes_by_zero a e ∙ sym (takes_by_zero b f);
  one_reply = λ a b v e f. shown_by a v e ∙ sym (shown_by b v f);
}

-- ---- a book with a legal order

-- What holds of the three records of the book of one caller holds of each record of it.
of_its_records : (shown : ℕ) (P : ℕ → ℕ → List ℕ → Type 0) → P 0 0 (1 ∷ []) → P 0 1 (2 ∷ [])
    → P 0 2 (3 ∷ [])
    → (i k : ℕ) (r : Record) → record_of (puts_and_takes shown) (call i k) ≡ Some r → P i k r.view
of_its_records shown P x y z zero zero r e =
    subst (λ (s : Record). P 0 0 s.view) (same_Some _ r e) x
of_its_records shown P x y z zero (suc zero) r e =
    subst (λ (s : Record). P 0 1 s.view) (same_Some _ r e) y
of_its_records shown P x y z zero (suc (suc zero)) r e =
    subst (λ (s : Record). P 0 2 s.view) (same_Some _ r e) z
of_its_records shown P x y z zero (suc (suc (suc k))) r e = absurd (none-some r e)
of_its_records shown P x y z (suc i) k r e = absurd (none-some r e)

within_one : (a b : ℕ) → a ≤ b → IsWithin (a ∷ []) (b ∷ [])
within_one a b low zero = low
within_one a b low (suc i) = omega arith

comparable_one : (a b : ℕ) → AreComparable (a ∷ []) (b ∷ [])
comparable_one a b = elim (cases_lt a b) [
  | inl less ↦ inl (within_one a b (omega (arith, less)))
  | inr more ↦ inr (within_one b a more)
]

answers_fit : (i : ℕ) → answers_of (puts_and_takes 2) i ≤ calls_of (puts_and_takes 2) i
answers_fit zero = omega arith
answers_fit (suc i) = omega arith

with_each : (n j m : ℕ) (r : Record) → record_of (puts_and_takes 2) (call j m) ≡ Some r
    → AreComparable (n ∷ []) r.view
with_each n = of_its_records 2 (λ j m w. AreComparable (n ∷ []) w) (comparable_one n 1)
    (comparable_one n 2) (comparable_one n 3)

is_valid : IsValid (puts_and_takes 2)
is_valid = record {
  answers = answers_fit;
  wide = λ call r e.
      of_its_records 2 (λ i k v. length v ≡ 1) refl refl refl call.caller call.number r e;
  within = λ call r e. of_its_records 2 (λ i k v. IsWithin v (3 ∷ []))
      (within_one 1 3 (omega arith)) (within_one 2 3 (omega arith)) (within_one 3 3 (omega arith))
      call.caller call.number r e;
  own = λ call r e. of_its_records 2 (λ i k v. get_or v i 0 ≡ k + 1) refl refl refl
      call.caller call.number r e;
  comparable = λ a b r s x y. of_its_records 2 (λ i k v. (j m : ℕ) (t : Record)
      → record_of (puts_and_takes 2) (call j m) ≡ Some t → AreComparable v t.view)
      (with_each 1) (with_each 2) (with_each 3) a.caller a.number r x b.caller b.number s y;
}

one_count : (n i : ℕ) → n ≤ 4 → get_or (n ∷ []) i 0 ≤ answers_of (puts_and_takes 2) i + 1
one_count n zero low = low
one_count n (suc i) low = omega arith

has_one_open : HasOneOpen (puts_and_takes 2)
has_one_open asked r i e = of_its_records 2
    (λ j m v. get_or v i 0 ≤ answers_of (puts_and_takes 2) i + 1)
    (one_count 1 i (omega arith)) (one_count 2 i (omega arith)) (one_count 3 i (omega arith))
    asked.caller asked.number r e

-- what precedes call n of the one caller is among its first n calls
precedes_it : (n i k : ℕ) → Precedes (puts_and_takes 2) (call i k) (call 0 n)
    → k < get_or (n ∷ []) i 0
precedes_it n zero zero p = elim p [ inl seen ↦ omega (arith, seen) | inr own ↦ own.1 ]
precedes_it n zero (suc zero) p = elim p [ inl seen ↦ omega (arith, seen) | inr own ↦ own.1 ]
precedes_it n zero (suc (suc zero)) p = elim p [ inl seen ↦ omega (arith, seen) | inr own ↦ own.1 ]
precedes_it n zero (suc (suc (suc k))) p = elim p [ inl seen ↦ absurd seen | inr own ↦ own.1 ]
precedes_it n (suc i) k p = elim p [
  | inl seen ↦ absurd seen
  | inr own ↦ absurd (omega (arith, own.0))
]

may_come : (n : ℕ) → n < 3 → MayComeNext (puts_and_takes 2) (n ∷ []) (call 0 n)
may_come n low = record {
  is_call = low;
  next = refl;
  preceded = λ (a : Call) (p : Precedes (puts_and_takes 2) a (call 0 n)).
      precedes_it n a.caller a.number p;
}

stands : (n reply : ℕ) (list : List ℕ) → n < 3
    → ((r : Record) → record_of (puts_and_takes 2) (call 0 n) ≡ Some r → r.reply ≡ reply)
    → (pile_next list (step_at (puts_and_takes 2) (stand 0 n reply)).0).1 ≡ reply
    → MayStandNext (puts_and_takes 2) pile_next (n ∷ []) list (stand 0 n reply)
stands n reply list low recorded gives =
    record { may_come = may_come n low; recorded = recorded; reply = gives }

all_stand : (i k : ℕ) → k < answers_of (puts_and_takes 2) i → k < get_or (3 ∷ []) i 0
all_stand zero k h = h
all_stand (suc i) k h = h

none_yet : (i : ℕ) → let none : List ℕ = 0 ∷ [] in get_or none i 0 ≡ 0
none_yet zero = refl
none_yet (suc i) = refl

-- The book whose take shows the 2 has a legal order of the pile.
pub has_legal_order : HasLegalOrder pile_spec (puts_and_takes 2)
has_legal_order = (
  stand 0 0 0 ∷ stand 0 1 0 ∷ stand 0 2 3 ∷ [],
  legal_order_from_continues (puts_and_takes 2) pile_spec (0 ∷ [])
      (stand 0 0 0 ∷ stand 0 1 0 ∷ stand 0 2 3 ∷ []) (omega arith) none_yet (
        stands 0 0 [] (omega arith)
            (λ r e. ap (λ (s : Record). s.reply) (sym (same_Some _ r e))) refl,
        (
          stands 1 0 (1 ∷ []) (omega arith)
              (λ r e. ap (λ (s : Record). s.reply) (sym (same_Some _ r e))) refl,
          (
            stands 2 3 (1 ∷ 2 ∷ []) (omega arith)
                (λ r e. ap (λ (s : Record). s.reply) (sym (same_Some _ r e))) refl,
            λ (asked : Call) (h : IsAnswered (puts_and_takes 2) asked).
                all_stand asked.caller asked.number h,
          ),
        ),
      ),
)

-- No table is closed for the book whose take shows the 2.
pub none_is_closed : (layers : List Layer) (pairs : List (ℕ × List ℕ))
    → IsClosed pile (puts_and_takes 2) layers (IsAmong pairs) → ⊥
none_is_closed layers pairs closed =
    closed_tables_have_no_order pile (puts_and_takes 2) layers pairs is_valid has_one_open closed
    pile_next 3 pile_gives_last_first has_legal_order

-- The bottom after no call isn't among the pairs of `without_start`.
no_start : (k : ℕ) → slice_get without_start k ≡ Some (0, 0 ∷ []) → ⊥
no_start zero e =
    let same : 1 ≡ 0 = ap (λ (pair : ℕ × List ℕ). pair.0) (same_Some (1, 1 ∷ []) (0, 0 ∷ []) e) in
    omega (arith, same)
no_start (suc zero) e =
    let same : 2 ≡ 0 = ap (λ (pair : ℕ × List ℕ). pair.0) (same_Some (2, 2 ∷ []) (0, 0 ∷ []) e) in
    omega (arith, same)
no_start (suc (suc k)) e = none-some (0, 0 ∷ []) e

-- The table without the bottom after no call isn't closed for the book whose take shows the 1.
pub start_left_out : IsClosed pile (puts_and_takes 1) one_below_two (IsAmong without_start) → ⊥
start_left_out closed = no_start closed.start.0 closed.start.1

-- ---- which calls don't change a list, and where a take leads

neither_no_put : (v : ℕ) → Puts v ≡ Neither → ⊥
neither_no_put v e = put_no_neither v (sym e)

-- An unanswered take doesn't change the empty list.
pub take_leaves_bottom : LeavesTop pile unanswered None (call 0 0)
take_leaves_bottom = (λ answered. omega (arith, answered), (0, refl, inr (refl, refl)))

-- An unanswered take changes a list with the last word 1.
pub take_leaves_no_item : LeavesTop pile unanswered (Some 1) (call 0 0) → ⊥
take_leaves_no_item leaves = elim leaves.1.2 [
  | inl neither ↦
      neither_no_take (sym (subst (λ (op : ℕ). pile_deed op ≡ Neither)
      (sym (same_Some 0 leaves.1.0 leaves.1.1)) neither))
  | inr takes ↦ none-some 1 (sym takes.1)
]

-- An unanswered put changes the empty list.
pub put_leaves_nothing : LeavesTop pile unanswered None (call 1 0) → ⊥
put_leaves_nothing leaves =
    let at : 1 ≡ leaves.1.0 = same_Some 1 leaves.1.0 leaves.1.1 in
    elim leaves.1.2 [
      | inl neither ↦ neither_no_put 1 (subst (λ (op : ℕ). pile_deed op ≡ Neither) (sym at) neither)
      | inr takes ↦ put_no_take 1 (subst (λ (op : ℕ). pile_deed op ≡ Takes) (sym at) takes.0)
    ]

-- An answered take isn't among the unanswered calls that don't change the empty list.
pub answered_is_another : LeavesTop pile taken_too_often None (call 0 1) → ⊥
answered_is_another leaves = leaves.0 (omega arith)

-- A take leads to two levels below where both are pairs with the cut after it.
pub take_leads_to_both : TakeLeads (IsAmong both_below) 3 (Some 1) (1 ∷ 2 ∷ []) (2 ∷ [])
take_leads_to_both p (zero, at) =
    subst (λ (q : ℕ). IsAmong both_below q (2 ∷ [])) (same_Some 1 p at) (0, refl)
take_leads_to_both p (suc zero, at) =
    subst (λ (q : ℕ). IsAmong both_below q (2 ∷ [])) (same_Some 2 p at) (1, refl)
take_leads_to_both p (suc (suc k), at) = absurd (none-some p at)

-- Each pair of `one_below` is one of level 1.
one_pair : (l : ℕ) → IsAmong one_below l (2 ∷ []) → l ≡ 1
one_pair l (zero, at) =
    sym (ap (λ (pair : ℕ × List ℕ). pair.0) (same_Some (1, 2 ∷ []) (l, 2 ∷ []) at))
one_pair l (suc k, at) = absurd (none-some (l, 2 ∷ []) at)

-- A take doesn't lead to two levels below where one of them is no pair with the cut after it.
pub take_leads_not_to_one : TakeLeads (IsAmong one_below) 3 (Some 1) (1 ∷ 2 ∷ []) (2 ∷ []) → ⊥
take_leads_not_to_one leads = omega (arith, one_pair 2 (leads 2 (1, refl)))

-- A take at the bottom doesn't lead to the pairs where the bottom is no pair with the cut after it.
pub take_stays_at_bottom : TakeLeads (IsAmong one_below) 0 None [] (2 ∷ []) → ⊥
take_stays_at_bottom leads = omega (arith, one_pair 0 leads)
