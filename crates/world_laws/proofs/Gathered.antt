-- A gathered book is the book at its cut, since each of its words is the word of its owner's call.
use Rattle.std.proofs.Common.{◌≡◌, ◌↔◌, ℕ, suc, ◌+◌, ◌-◌, ◌<◌, List, [], length, take, get_or, Some, slice_get, slice_index, slice_index_or, if◌then◌else◌, sym, ap, ◌∙◌, arith, inl, inr, length-take}
use Rattle.std.proofs.lemmas.Bool.{cases_lt, lt-ltb}
use Rattle.std.proofs.lemmas.List.{ext_get_or, take_all}
use Rattle.std.proofs.lemmas.Option.{slice_get_past, slice_get-get_or}
use Rattle.list_laws.proofs.Prefixes.{slice_get-take_within, same_from_places}
use Rattle.book_base.specs.declared.call.Call.{Call}
use Rattle.book_base.specs.declared.call.Record.{Record}
use Rattle.book_base.specs.OperationWord.{low_of, high_of}
use Rattle.book_base.specs.Book.{Page, page_of, operation_of, record_of, IsCall, IsAnswered}
use Rattle.book_base.specs.BookAt.{IsHeldBySomeView, IsBookAt}
use Rattle.book_base.proofs.PageLemmas.{page_past}
use Rattle.book_base.proofs.ViewLemmas.{answer_stands}
use Rattle.legal_orders.proofs.BookAtLaws.{is_the_only_one}
use Rattle.world_core.specs.declared.region.Region.TheVariants.{N, M}
use Rattle.world_core.specs.Layout.{View_entry, Embedded_entry, content}
use Rattle.world_core.specs.Shape.{Shape}
use Rattle.world_core.specs.Local.{Local, word_of}
use Rattle.world_core.specs.Calls.{AreTogether, IsGathered, record_in, book_in, local_at}
use Rattle.world_laws.proofs.Locals.{locals_have_phases, peeked_words_are_words}
use Rattle.world_laws.proofs.OwnEntries.{views_count_their_call}
use Rattle.world_laws.specs.Gathering.{GatheredIsTheBookAt, GatheredStays}
use Rattle.world_laws.proofs.Pages.{operation_in_book, record_in_book}
use Rattle.world_laws.proofs.Validity.{all_lengths, book_long, books_are_valid}

-- an operation is made of its words
same_operation : (a b : ℕ) → low_of a ≡ low_of b → high_of a ≡ high_of b → a ≡ b
same_operation a b low high = omega arith

-- entry j of the view is at place 1 + j of a row of M
pub view_place : (n j : ℕ) → j < n → content n M (1 + j) ≡ View_entry j
view_place n j low = let next : 1 + j ≡ suc j = omega arith in ap (content n M) next
    ∙ ap (λ b. if b then View_entry j else Embedded_entry M (j - n)) (lt-ltb j n low)

pub same_record : (r q : Record) → r.reply ≡ q.reply → r.view ≡ q.view → r ≡ q
same_record r q reply view =
    let made : ℕ → List ℕ → Record = λ x v. record { reply = x; view = v } in
    ap (λ (x : ℕ). made x r.view) reply ∙ ap (made q.reply) view

module _ (s : Shape) (locals : List Local) (t : AreTogether s locals) (i : ℕ) (low : i < s.callers)
    (cut : List ℕ) (part : List Page)
    (g : IsGathered s.callers (local_at locals i) cut part) where
  long : length locals ≡ s.callers
  long = (locals_have_phases s locals t).0

  reply_is : (call : Call) (r : Record) → record_of part call ≡ Some r
      → r.reply ≡ slice_index (local_at locals call.caller).replies call.number
  reply_is call r e =
      (peeked_words_are_words s locals i M call 0 r.reply t low (g.replies call r e)).2

  entry_is : (call : Call) (r : Record) → record_of part call ≡ Some r → (j : ℕ) → j < s.callers
      → slice_index r.view j
      ≡ slice_index (slice_index_or (local_at locals call.caller).views call.number []) j
  entry_is call r e j there =
      (peeked_words_are_words s locals i M call (1 + j) (slice_index r.view j) t low
      ((g.views call r e).1 j there)).2
      ∙ ap (word_of (local_at locals call.caller) call.number) (view_place s.callers j there)

  -- who answered is one of the callers, and its call is published, so it has a view
  answerer : (call : Call) (r : Record) → record_of part call ≡ Some r → (call.caller < s.callers)
      × (call.number < length (local_at locals call.caller).views)
  answerer call r e =
      let row = (peeked_words_are_words s locals i M call 0 r.reply t low (g.replies call r e)).0 in
      (row.0, omega (arith, row.2, (all_lengths s locals t call.caller).published))

  record_is : (call : Call) (r : Record) → record_of part call ≡ Some r
      → r ≡ record_in (local_at locals call.caller) call.number
  record_is call r e =
      let who = answerer call r e in
      let wide = (views_count_their_call s locals call.caller call.number t who.0 who.1).wide in
      let mine = (g.views call r e).0 in
      same_record r (record_in (local_at locals call.caller) call.number) (reply_is call r e)
      (ext_get_or 0 r.view (slice_index_or (local_at locals call.caller).views call.number [])
      (mine ∙ sym (wide ∙ long)) (λ j inside. entry_is call r e j (omega (arith, inside, mine))))

  from_part : (call : Call) (r : Record) → record_of part call ≡ Some r
      → record_of (book_in locals) call ≡ Some r
  from_part call r e = record_in_book locals (all_lengths s locals t) call (answerer call r e).1
      ∙ ap Some (sym (record_is call r e))

  -- a caller's records in the part are the first of its records in the book, as many as its entry
  -- of the cut
  records_are : (j : ℕ)
      → (page_of part j).records ≡ take (get_or cut j 0) (page_of (book_in locals) j).records
  records_are j =
      elim (cases_lt j s.callers) [
        | inl there ↦
            same_from_places (page_of part j).records
            (take (get_or cut j 0) (page_of (book_in locals) j).records) (λ k.
            let it : Call = record { caller = j; number = k } in
            elim (cases_lt k (get_or cut j 0)) [
              | inl below ↦
                  let stands : IsAnswered part it = omega (arith, below, g.records j there) in
                  let found = answer_stands part it stands in
                  found.1 ∙ sym (from_part it found.0 found.1) ∙ sym (slice_get-take_within
                  (get_or cut j 0) (page_of (book_in locals) j).records k below)
              | inr past ↦
                  slice_get_past (page_of part j).records k (omega (arith, past, g.records j there))
                  ∙ sym (slice_get_past (take (get_or cut j 0) (page_of (book_in locals) j).records)
                  k (omega
                  (arith, past, length-take (get_or cut j 0) (page_of (book_in locals) j).records)))
            ])
        | inr past ↦
            ap (λ (q : Page). q.records) (page_past part j (omega (arith, past, g.callers)))
            ∙ (sym (take_all (get_or cut j 0) [] (omega arith))
            ∙ ap (λ (q : Page). take (get_or cut j 0) q.records)
            (sym (page_past (book_in locals) j (omega (arith, past, long, book_long locals)))))
      ]

  held_there : (call : Call) → IsHeldBySomeView part cut call
      ↔ IsHeldBySomeView (book_in locals) cut call
  held_there call = (
    λ (h : IsHeldBySomeView part cut call). (h.0, h.1, h.2, from_part h.0 h.1 h.3, h.4),
    λ (h : IsHeldBySomeView (book_in locals) cut call).
        let there : record_of part h.0 ≡ Some h.1 =
        ap (λ (rs : List Record). slice_get rs h.0.number) (records_are h.0.caller)
        ∙ slice_get-take_within (get_or cut h.0.caller 0)
        (page_of (book_in locals) h.0.caller).records h.0.number h.2 ∙ h.3 in
        (h.0, h.1, h.2, there, h.4),
  )

  operation_is : (call : Call) → IsCall part call
      → operation_of part call ≡ operation_of (book_in locals) call
  operation_is call there =
      let op : ℕ = get_or (page_of part call.caller).operations call.number 0 in
      let stands : operation_of part call ≡ Some op =
      slice_get-get_or (page_of part call.caller).operations call.number 0 there in
      let words = g.operations call op stands in
      let first = peeked_words_are_words s locals i N call 0 (low_of op) t low words.0 in
      let second = peeked_words_are_words s locals i N call 1 (high_of op) t low words.1 in
      let mine : List ℕ = (local_at locals call.caller).operations in
      let same : op ≡ slice_index mine call.number =
      same_operation op (slice_index mine call.number) first.2 second.2 in
      let announced : call.number < length mine =
      omega (arith, first.0.2, (all_lengths s locals t call.caller).operations) in
      stands ∙ ap Some same ∙ sym (slice_get-get_or mine call.number 0 announced)
      ∙ sym (operation_in_book locals (all_lengths s locals t) call)

  gathered_at : IsBookAt (book_in locals) cut part
  gathered_at =
      record {
        callers = g.callers ∙ sym (book_long locals ∙ long);
        records = records_are;
        calls = λ call. (
          λ (h : IsCall part call). (held_there call).0 ((g.calls call).0 h),
          λ (h : IsHeldBySomeView (book_in locals) cut call).
              (g.calls call).1 ((held_there call).1 h),
        );
        operations = operation_is;
      }

pub gathered_is_the_book_at : GatheredIsTheBookAt
gathered_is_the_book_at s locals i cut book t low g =
    is_the_only_one (book_in locals) cut book (books_are_valid s locals t)
    (gathered_at s locals t i low cut book g)

pub gathered_stays : GatheredStays
gathered_stays n l m cut book more g =
    record {
      callers = g.callers;
      records = g.records;
      calls = g.calls;
      operations =
          λ call op e. let words = g.operations call op e in (more _ words.0, more _ words.1);
      replies = λ call r e. more _ (g.replies call r e);
      views = λ call r e. let v = g.views call r e in (v.0, λ j there. more _ (v.1 j there));
    }
