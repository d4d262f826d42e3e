-- In a lawful report each delivered line has a place in one legal order.
use Rattle.std.proofs.Common.{◌≡◌, ℕ, ◌<◌, Bool, nat_lt, List, [], refl, length, map, cond, Option, Some, slice_get, slice_index_or, sym, ap, ◌∙◌, arith, inl, inr}
use Rattle.std.specs.Option.{option_and_then}
use Rattle.std.proofs.lemmas.Bool.{cases_lt, lt-ltb, le-ltb, cond_both}
use Rattle.std.proofs.lemmas.List.FromFn.{length-map-range_with_len}
use Rattle.std.proofs.lemmas.Option.{same_Some, slice_get_within}
use Rattle.book_base.specs.declared.call.Call.{Call}
use Rattle.book_base.specs.declared.call.Record.{Record}
use Rattle.book_base.specs.declared.call.Place.{Place}
use Rattle.book_base.specs.Book.{Page, IsCall, record_of}
use Rattle.book_base.specs.BookAt.{book_at}
use Rattle.book_base.specs.Order.{IsLegalOrder}
use Rattle.legal_orders.proofs.BookAtLaws.{is_the_book_at}
use Rattle.world_core.specs.Local.{Local}
use Rattle.world_core.specs.Calls.{Made, Reached, Is_announced, Has_record, Has_seen, AreTogether, record_in, reached_in, call_in, calls_in, book_in, local_at}
use Rattle.world_laws.proofs.Pages.{slice_get-made, record_in_book}
use Rattle.world_laws.proofs.Validity.{all_lengths}
use Rattle.report_lines.specs.declared.line.Line.{Line}
use Rattle.report_lines.specs.declared.line.LineEnd.TheVariants.{Delivered}
use Rattle.report_lines.specs.Lines.{made_of, reached_of, book_of_lines, delivered_in, line_at, delivered_at}
use Rattle.report_lines.specs.Lawful.{delivered_cut}
use Rattle.report_lines.proofs.Lines.{call_of_line}
use Rattle.report_lines.proofs.Runs.{calls_at}
use Rattle.report_lines.proofs.Worlds.{one, same_book}
use Rattle.reports.specs.Orders.{StandsWith, delivered_book, DeliveredRepliesStandInOneOrder}
use Rattle.reports.proofs.Books.{operation_of-lines}

-- a call that has seen a cut has its record, which its local keeps
record HasItsRecord (l : Local) (k : ℕ) (r : Record) : Type 0 where
  below : k < length l.seen
  is : record_in l k ≡ r

has_its_record : (l : Local) (k : ℕ) (r : Record) (cut : List ℕ) → reached_in l k ≡ Has_seen r cut
    → HasItsRecord l k r
has_its_record l k r cut e =
    let own : List ℕ = slice_index_or l.seen k [] in
    let other : Reached =
    cond (nat_lt k (length l.views)) (Has_record (record_in l k)) Is_announced in
    let made : Bool → Reached = λ b. cond b (Has_seen (record_in l k) own) other in
    elim (cases_lt k (length l.seen)) [
      | inl below ↦
          let one : Has_seen (record_in l k) own ≡ Has_seen r cut =
          sym (ap made (lt-ltb k (length l.seen) below)) ∙ e in
          let same : record_in l k ≡ r = cc in
          record { below = below; is = same }
      | inr past ↦
          let none : other ≡ Has_seen r cut = sym (ap made (le-ltb k (length l.seen) past)) ∙ e in
          absurd (cond_both (nat_lt k (length l.views)) (Has_record (record_in l k)) Is_announced
          (λ (v : Reached). v ≡ Has_seen r cut → ⊥) (λ _ h. absurd cc) (λ _ h. absurd cc) none)
    ]

pub delivered_replies_stand_in_one_order : DeliveredRepliesStandInOneOrder
delivered_replies_stand_in_one_order spec s operations allotments lines lawful =
    (order, legal, stands)
  where
    order : List Place
    order = lawful.one_order.0

    legal : IsLegalOrder spec (delivered_book s lines) order
    legal = lawful.one_order.1

    locals : List Local
    locals = lawful.reached.0.locals

    together : AreTogether s locals
    together = (lawful.reached.0, lawful.reached.1, refl)

    recorded : (call : Call) (line : Line) (r : Record) (cut : List ℕ) → slice_get
        (slice_index_or (map calls_in locals) call.caller []) call.number ≡ Some (made_of line)
        → line.end ≡ Delivered r cut → record_of (book_in locals) call ≡ Some r
    recorded call line r cut there end =
        let l : Local = local_at locals call.caller in
        let at : slice_get (calls_in l) call.number ≡ Some (made_of line) =
        ap (λ (cs : List Made). slice_get cs call.number) (sym (calls_at locals call.caller))
        ∙ there in
        let low : call.number < length l.operations =
        omega (
          arith,
          slice_get_within (calls_in l) call.number (made_of line) at,
          length-map-range_with_len (λ k. call_in l k) 0 (length l.operations),
        ) in
        let same : call_in l call.number ≡ made_of line =
        same_Some (call_in l call.number) (made_of line)
        (sym (slice_get-made (λ k. call_in l k) (length l.operations) call.number low) ∙ at) in
        let has = has_its_record l call.number r cut
        (ap (λ (m : Made). m.reached) same ∙ ap reached_of end) in
        let all = all_lengths s locals together in
        record_in_book locals all call (omega (arith, has.below, (all call.caller).seen))
        ∙ ap (λ (q : Record). Some q) has.is

    answered : (call : Call) (line : Line) (r : Record) (cut : List ℕ)
        → line_at lines call ≡ Some line → line.end ≡ Delivered r cut
        → record_of (delivered_book s lines) call ≡ Some r
    answered call line r cut there end =
        let are = lawful.reached.2 in
        let at =
        ap (λ (cs : List (List Made)). slice_get (slice_index_or cs call.caller []) call.number)
        (sym are.calls) ∙ call_of_line lines call line there in
        let d : delivered_at lines call ≡ Some cut =
        ap (λ (o : Option Line). option_and_then (λ (l : Line). delivered_in l.end) o) there
        ∙ ap delivered_in end in
        let kept : record_of
        (book_at (delivered_cut s.callers lines) (book_in locals)) call ≡ Some r =
        (one spec locals lines are s together).records call (lawful.holds call cut d)
        ∙ recorded call line r cut at end in
        ap (λ (b : List Page). record_of (book_at (delivered_cut s.callers lines) b) call)
        (same_book spec locals lines are) ∙ kept

    stands : (call : Call) (line : Line) (r : Record) (cut : List ℕ)
        → line_at lines call ≡ Some line → line.end ≡ Delivered r cut
        → StandsWith (delivered_book s lines) order call line.op r.reply
    stands call line r cut there end =
        let place = legal.answered call r (answered call line r cut there end) in
        let is : IsCall (delivered_book s lines) call = legal.calls place.0 call
        (record { caller = call.caller; number = call.number; reply = r.reply }, place.1, refl) in (
          place.0,
          place.1,
          (is_the_book_at (book_of_lines lines) (delivered_cut s.callers lines)
              lawful.valid).operations call is ∙ operation_of-lines lines call line there,
        )
