use Rattle.std.proofs.Common.{◌≡◌, ◌∙◌, ℕ, ◌+◌, ◌*◌, ◌<◌, max, List, Option, Vec, Global, length, map, slice_index, sum, refl, sym, ap, subst, arith}
use Rattle.std.proofs.lemmas.List.{length-map}
use Rattle.book_base.specs.declared.call.Record.{Record}
use Rattle.book_base.specs.declared.TheConstants.{MAX_CALLS}
use Rattle.book_base.specs.Book.{Page, calls_of, announced, answered}
use Rattle.world_core.specs.Local.{Local}
use Rattle.world_core.specs.Calls.{IsGathered}
use Rattle.world_laws.specs.Gathering.{HasPeekedAll}
use Rattle.world_laws.proofs.Gathered.{gathered_stays}
use Rattle.row_table.specs.Callers.{shape_of, who_of, local_with}
use Rattle.row_gather.specs.declared.gathered.Gathered.{Gathered}
use Rattle.row_gather.specs.Words.{words_of_book, ArePeekedTo, HasPeekedCalls, greatest_in}
use Rattle.row_gather.specs.Known.{AreGreatest}
use Rattle.row_gather.specs.Filling.{filled, IsFilled}
use Rattle.row_gather.specs.Gathered.{IsGatheredBy, IsBegunWith}
use Rattle.row_gather.proofs.Peeking.{all_stay, knows_given, only_peeked_then}
use Rattle.row_gather.proofs.Reading.{operations_stay, lists_stay, lists_wide}
use Rattle.row_gather.proofs.Filling.{filled_is}
use Rattle.row_gather.proofs.Gathering.{given_wide, counts_few, known_held, gathered, gathered_is_valid, is_book_of_all}
use Rattle.row_gather.proofs.Beginning.{begun_is_gathered, begun_within, ticks_for_new}
use Rattle.row_gather.proofs.Ticking.{words_read}
use Rattle.row_gather.proofs.gather.grow_at.Goals as goal

abbrev items : Vec Record Global → List Record
items v = v.items

-- Counts that are the greatest ones in the views of some lists are the greatest ones in the views
-- of lists that are equal to these.
counts_of_lists : (n k : ℕ) (counts : List ℕ) (vs ws : List (Vec Record Global)) → k ≡ n → ws ≡ vs
    → ((j : ℕ) → j < k → slice_index counts j ≡ greatest_in (map items ws) j)
    → (j : ℕ) → j < n → slice_index counts j ≡ greatest_in (map items vs) j
counts_of_lists n k counts vs ws same is are j low = are j (omega (arith, low, same))
    ∙ ap (λ (xs : List (Vec Record Global)). greatest_in (map items xs) j) is

-- The whole book is gathered at the cut, where it is the book with which the gathering began, with
-- the calls that were added and the records that were read.
grown : (n k : ℕ) (l m o : Local) (kept : Option Gathered) (cut counts : List ℕ)
    (start book whole : List Page) (vs us ws : List (Vec Record Global))
    → IsBegunWith kept cut start
    → IsGatheredBy l kept → length cut ≡ n → HasPeekedAll l o → HasPeekedAll m o
    → ArePeekedTo n m start cut n (map items vs) → us ≡ vs → k ≡ n
    → AreGreatest k (map items us) counts
    → HasPeekedCalls o start book
    → ((j : ℕ) → j < n → calls_of book j ≡ max (calls_of start j) (slice_index counts j)) → ws ≡ vs
    → IsFilled book (map items ws) whole
    → IsGathered n o cut whole
grown n k l m o kept cut counts start book whole vs us ws begun by wide first second lists was same
    are more calls is full =
    let early = begun_is_gathered kept cut start l begun by in
    let before : IsGathered n o early.0 start = gathered_stays n l o early.0 start first
    (subst (λ (x : ℕ). IsGathered x l early.0 start) wide early.1) in
    gathered n o start cut (map items vs) (lists_stay n m o second start cut n (map items vs) lists)
    early.0 before (begun_within kept cut start begun) book whole more
    (λ j low. calls j low
    ∙ ap (max (calls_of start j)) (counts_of_lists n k counts vs us same was are j low))
    (subst (λ (xs : List (Vec Record Global)). IsFilled book (map items xs) whole) is full)

pub peek_records-requires-clause-callers : goal.peek_records-requires-clause-callers
peek_records-requires-clause-callers g c =
    c.in_ok-book.ensures.held.callers
    ∙ given_wide (shape_of g.P.Program.meaning c.args.rows.now) (who_of c.args.caller.now)
    (local_with c.args.caller.now) c.args.cut.now c.requires.caller.seat.local c.requires.given

pub peek_records-requires-clause-wide : goal.peek_records-requires-clause-wide
peek_records-requires-clause-wide g c =
    given_wide (shape_of g.P.Program.meaning c.args.rows.now) (who_of c.args.caller.now)
    (local_with c.args.caller.now) c.args.cut.now c.requires.caller.seat.local c.requires.given

pub peek_records-requires-clause-known : goal.peek_records-requires-clause-known
peek_records-requires-clause-known g c j low k below = knows_given c.args.rows.now.callers
    (local_with c.args.caller.now) c.args.cut.now j k c.requires.given below

pub held_calls-held-requires-clause-wide : goal.held_calls-held-requires-clause-wide
held_calls-held-requires-clause-wide g c j k r e =
    let n = c.args.rows.now.callers in
    let l = local_with c.peek_records.new.caller in
    let start = c.in_ok-book.book in
    let wide = given_wide (shape_of g.P.Program.meaning c.args.rows.now) (who_of c.args.caller.now)
    (local_with c.args.caller.now) c.args.cut.now c.requires.caller.seat.local c.requires.given in
    let lists : ArePeekedTo n l start c.args.cut.now n (map items c.deref.result.now)
    = subst
    (λ (vs : List (Vec Record Global)). ArePeekedTo n l start c.args.cut.now n (map items vs))
    (sym c.deref.ensures.value) c.in_ok-records.ensures.records in
    lists_wide n l start c.args.cut.now (map items c.deref.result.now) lists j k r e
    ∙ (sym wide ∙ sym c.n.ensures.count)

pub add_calls-requires-clause-callers : goal.add_calls-requires-clause-callers
add_calls-requires-clause-callers g c =
    c.in_ok-book.ensures.held.callers
    ∙ given_wide (shape_of g.P.Program.meaning c.args.rows.now) (who_of c.args.caller.now)
    (local_with c.args.caller.now) c.args.cut.now c.requires.caller.seat.local c.requires.given

pub add_calls-requires-clause-wide : goal.add_calls-requires-clause-wide
add_calls-requires-clause-wide g c =
    let wide = given_wide (shape_of g.P.Program.meaning c.args.rows.now) (who_of c.args.caller.now)
    (local_with c.args.caller.now) c.args.cut.now c.requires.caller.seat.local c.requires.given in
    c.held_calls-held.ensures.wide ∙ (c.n.ensures.count ∙ wide)

pub add_calls-requires-clause-few : goal.add_calls-requires-clause-few
add_calls-requires-clause-few g c j =
    let s = shape_of g.P.Program.meaning c.args.rows.now in
    let wide = given_wide s (who_of c.args.caller.now)
    (local_with c.args.caller.now) c.args.cut.now c.requires.caller.seat.local c.requires.given in
    counts_few s (who_of c.peek_records.new.caller)
    (local_with c.peek_records.new.caller) c.args.cut.now c.in_ok-book.book
    (map items c.in_ok-records.records.items) c.held_calls-held.result MAX_CALLS
    c.peek_records.ensures.peeks.still.0.seat.local c.in_ok-records.ensures.records
    (c.held_calls-held.ensures.wide ∙ (c.n.ensures.count ∙ wide))
    (counts_of_lists s.callers c.n.result c.held_calls-held.result c.in_ok-records.records.items
    c.deref.result.now
    (c.n.ensures.count ∙ wide) c.deref.ensures.value c.held_calls-held.ensures.held)
    c.args.rows.now.few.3 j

pub add_calls-requires-clause-known : goal.add_calls-requires-clause-known
add_calls-requires-clause-known g c j low k below =
    let n = c.args.rows.now.callers in
    let vs = c.in_ok-records.records.items in
    let wide = given_wide (shape_of g.P.Program.meaning c.args.rows.now) (who_of c.args.caller.now)
    (local_with c.args.caller.now) c.args.cut.now c.requires.caller.seat.local c.requires.given in
    let are = counts_of_lists n c.n.result c.held_calls-held.result vs c.deref.result.now
    (c.n.ensures.count ∙ wide) c.deref.ensures.value c.held_calls-held.ensures.held in
    known_held n (local_with c.peek_records.new.caller) c.in_ok-book.book c.args.cut.now
    (map items vs) c.in_ok-records.ensures.records j low k (omega (arith, below, are j low))

pub add_calls-requires-clause-peeked : goal.add_calls-requires-clause-peeked
add_calls-requires-clause-peeked g c =
    let l = local_with c.args.caller.now in
    let m = local_with c.peek_records.new.caller in
    let early = begun_is_gathered c.args.gathered c.args.cut.now c.in_ok-book.book l
    c.in_ok-book.ensures c.requires.gathered in
    operations_stay l m
    (all_stay l m _ _ c.peek_records.ensures.peeks.peeks) c.in_ok-book.book early.1.operations

pub add_answers-requires-clause-callers : goal.add_answers-requires-clause-callers
add_answers-requires-clause-callers g c =
    let wide = given_wide (shape_of g.P.Program.meaning c.args.rows.now) (who_of c.args.caller.now)
    (local_with c.args.caller.now) c.args.cut.now c.requires.caller.seat.local c.requires.given in
    ap (length {A = Vec Record Global}) c.deref-2.ensures.value
    ∙ (sym (length-map c.in_ok-records.records.items items)
    ∙ (c.in_ok-records.ensures.records.wide ∙ (sym wide
    ∙ (sym c.in_ok-book.ensures.held.callers ∙ sym c.in_ok-add_calls.ensures.same.callers))))

pub add_answers-requires-clause-valid : goal.add_answers-requires-clause-valid
add_answers-requires-clause-valid g c =
    let s = shape_of g.P.Program.meaning c.args.rows.now in
    let n = c.args.rows.now.callers in
    let cut = c.args.cut.now in
    let l = local_with c.args.caller.now in
    let m = local_with c.peek_records.new.caller in
    let o = local_with c.add_calls.new.caller in
    let book = c.add_calls.new.book in
    let vs = c.in_ok-records.records.items in
    let ws = c.deref-2.result.now in
    let wide =
    given_wide s (who_of c.args.caller.now) l cut c.requires.caller.seat.local c.requires.given in
    let long : length (map items ws) ≡ length book
    = ap (λ (xs : List (Vec Record Global)). length (map items xs)) c.deref-2.ensures.value
    ∙ (c.in_ok-records.ensures.records.wide ∙ (sym wide
    ∙ (sym c.in_ok-book.ensures.held.callers ∙ sym c.in_ok-add_calls.ensures.same.callers))) in
    let first = only_peeked_then l m o _ _ _ c.peek_records.ensures.peeks.peeks
    c.add_calls.ensures.peeks.peeks in
    gathered_is_valid s (who_of c.add_calls.new.caller) o cut
    (filled book (map items ws)) c.add_calls.ensures.peeks.still.0.seat.local
    (grown n c.n.result l m o c.args.gathered cut c.held_calls-held.result c.in_ok-book.book book
    (filled book (map items ws)) vs c.deref.result.now ws c.in_ok-book.ensures
    c.requires.gathered wide
    (all_stay l o _ _ first) (all_stay m o _ _ c.add_calls.ensures.peeks.peeks)
    c.in_ok-records.ensures.records c.deref.ensures.value
    (c.n.ensures.count ∙ wide) c.held_calls-held.ensures.held
    c.in_ok-add_calls.ensures.same c.in_ok-add_calls.ensures.calls c.deref-2.ensures.value
    (filled_is book (map items ws) long))

pub returns-in_err-add_calls-clause-peeks : goal.returns-in_err-add_calls-clause-peeks
returns-in_err-add_calls-clause-peeks g c =
    only_peeked_then (local_with c.args.caller.now) (local_with c.peek_records.new.caller)
    (local_with c.add_calls.new.caller) _ _ _ c.peek_records.ensures.peeks.peeks
    c.add_calls.ensures.peeks.peeks

pub returns-in_err-add_answers-clause-peeks : goal.returns-in_err-add_answers-clause-peeks
returns-in_err-add_answers-clause-peeks g c =
    only_peeked_then (local_with c.args.caller.now) (local_with c.peek_records.new.caller)
    (local_with c.add_calls.new.caller) _ _ _ c.peek_records.ensures.peeks.peeks
    c.add_calls.ensures.peeks.peeks

pub returns-clause-peeks : goal.returns-clause-peeks
returns-clause-peeks g c =
    only_peeked_then (local_with c.args.caller.now) (local_with c.peek_records.new.caller)
    (local_with c.add_calls.new.caller) _ _ _ c.peek_records.ensures.peeks.peeks
    c.add_calls.ensures.peeks.peeks

pub returns-clause-gathered : goal.returns-clause-gathered
returns-clause-gathered g c =
    let n = c.args.rows.now.callers in
    let cut = c.args.cut.now in
    let l = local_with c.args.caller.now in
    let m = local_with c.peek_records.new.caller in
    let o = local_with c.add_calls.new.caller in
    let wide = given_wide (shape_of g.P.Program.meaning c.args.rows.now)
    (who_of c.args.caller.now) l cut c.requires.caller.seat.local c.requires.given in
    let first = only_peeked_then l m o _ _ _ c.peek_records.ensures.peeks.peeks
    c.add_calls.ensures.peeks.peeks in
    grown n c.n.result l m o c.args.gathered cut c.held_calls-held.result c.in_ok-book.book
    c.add_calls.new.book c.add_answers.new.book c.in_ok-records.records.items c.deref.result.now
    c.deref-2.result.now
    c.in_ok-book.ensures c.requires.gathered wide (all_stay l o _ _ first)
    (all_stay m o _ _ c.add_calls.ensures.peeks.peeks) c.in_ok-records.ensures.records
    c.deref.ensures.value (c.n.ensures.count ∙ wide)
    c.held_calls-held.ensures.held c.in_ok-add_calls.ensures.same c.in_ok-add_calls.ensures.calls
    c.deref-2.ensures.value c.in_ok-add_answers.ensures

pub returns-clause-exact : goal.returns-clause-exact
returns-clause-exact g c =
    is_book_of_all (shape_of g.P.Program.meaning c.args.rows.now) (who_of c.add_calls.new.caller)
    (local_with c.add_calls.new.caller) c.args.cut.now c.add_answers.new.book
    c.add_calls.ensures.peeks.still.0.seat.who (returns-clause-gathered g c)

-- The counter has risen by the number of words that the whole book has and the book with which the
-- gathering began lacks.
words_grown : (n : ℕ) (o : Local) (kept : Option Gathered) (cut : List ℕ)
    (start book whole : List Page) (lists : List (List Record)) (a b c : ℕ)
    → IsBegunWith kept cut start → length cut ≡ n
    → HasPeekedCalls o start book → IsFilled book lists whole → IsGathered n o cut whole
    → b + (1 + n) * sum (answered start) ≡ a + (1 + n) * sum cut
    → c + 2 * sum (announced start) ≡ b + 2 * sum (announced book)
    → c + words_of_book start ≡ a + words_of_book whole
words_grown n o kept cut start book whole lists a b c begun wide more full g first second =
    words_read start book whole cut n a b c (begun.held.callers ∙ wide)
    (more.callers ∙ (begun.held.callers ∙ wide)) g.callers wide
    (λ j. ap (length {A = ℕ}) (full.operations j)) g.records first second

pub returns-clause-ticks : goal.returns-clause-ticks
returns-clause-ticks g c =
    let n = c.args.rows.now.callers in
    let cut = c.args.cut.now in
    let l = local_with c.args.caller.now in
    let wide = given_wide (shape_of g.P.Program.meaning c.args.rows.now)
    (who_of c.args.caller.now) l cut c.requires.caller.seat.local c.requires.given in
    ticks_for_new n c.args.gathered cut c.in_ok-book.book l
    (record { book = c.add_answers.new.book; cut = cut }) c.args.steps.now c.add_calls.new.steps
    c.in_ok-book.ensures c.requires.gathered wide refl
    (words_grown n (local_with c.add_calls.new.caller) c.args.gathered cut c.in_ok-book.book
    c.add_calls.new.book c.add_answers.new.book (map items c.deref-2.result.now) c.args.steps.now
    c.peek_records.new.steps c.add_calls.new.steps c.in_ok-book.ensures wide
    c.in_ok-add_calls.ensures.same c.in_ok-add_answers.ensures
    (returns-clause-gathered g c) c.in_ok-records.ensures.ticks
    c.in_ok-add_calls.ensures.ticks)

pub returns-clause-most : goal.returns-clause-most
returns-clause-most g c =
    let n = c.args.rows.now.callers in
    let cut = c.args.cut.now in
    let wide = given_wide (shape_of g.P.Program.meaning c.args.rows.now) (who_of c.args.caller.now)
    (local_with c.args.caller.now) cut c.requires.caller.seat.local c.requires.given in
    let words =
    words_grown n (local_with c.add_calls.new.caller) c.args.gathered cut c.in_ok-book.book
    c.add_calls.new.book c.add_answers.new.book (map items c.deref-2.result.now) c.args.steps.now
    c.peek_records.new.steps c.add_calls.new.steps c.in_ok-book.ensures wide
    c.in_ok-add_calls.ensures.same c.in_ok-add_answers.ensures
    (returns-clause-gathered g c) c.in_ok-records.ensures.ticks
    c.in_ok-add_calls.ensures.ticks in
    omega (arith, words)
