-- Books of streams: they are valid, and have the precedence and the legal orders of their streams.
use Rattle.std.proofs.Common.{◌≡◌, ℕ, zero, suc, ◌+◌, ◌<◌, ◌≤◌, ◌∙◌, List, [], ◌∷◌, length, map, get_or, Option, Some, unwrap_or, refl, sym, ap, subst, inl, inr, slice_get, arith}
use Rattle.std.specs.Prelude.{IsSomeAnd, ◌↔◌}
use Rattle.std.proofs.lemmas.Bool.{cases_lt, cases_order}
use Rattle.std.proofs.lemmas.Option.{same_Some, none-some, slice_get_within}
use Rattle.list_laws.proofs.Options.{some_from_is_some_and}
use Rattle.book_base.specs.declared.call.Call.{Call}
use Rattle.book_base.specs.declared.call.Record.{Record}
use Rattle.book_base.specs.declared.call.Place.{Place}
use Rattle.book_base.specs.SeqSpec.{SeqSpec}
use Rattle.book_base.specs.Cut.{Holds, IsWithin}
use Rattle.book_base.specs.Book.{Page, page_of, calls_of, answers_of, IsCall, IsAnswered, operation_of, record_of, announced, Precedes, IsValid}
use Rattle.book_base.specs.Sequential.{IsRunFrom}
use Rattle.book_base.specs.Order.{call_at, StandsAt, step_at, IsLegalOrder, HasLegalOrder}
use Rattle.book_base.proofs.GrowthLemmas.{announced_at}
use Rattle.streams.specs.Stream.{StreamEvent, Returned, IsStreamCall, Returns, StreamPrecedes}
use Rattle.streams.specs.StreamOrder.{StreamPlace, word_of_event, stream_step, IsAmong, IsLegalStreamOrder, HasLegalStreamOrder}
use Rattle.streams.specs.StreamBook.{HoldsTheCallsBefore, IsBookOf}
use Rattle.streams.specs.BookStream.{HasOnePending}
use Rattle.streams.proofs.Returning.{return_or_call, returns_once, returned_call}

module _ (stream : List StreamEvent) (book : List Page) (name : ℕ → Call)
    (of : IsBookOf stream book name) where
  -- the calls of a stream are calls of its book
  pub named_call : (call : ℕ) → IsStreamCall stream call → IsCall book (name call)
  named_call call (process, op, at) =
      slice_get_within (page_of book (name call).caller).operations (name call).number op
      (of.calls call process op at)

  -- a call that is answered in the book returns in the stream, with the recorded reply
  pub record-answers : (call : ℕ) (r : Record) → IsStreamCall stream call
      → record_of book (name call) ≡ Some r
      → (end : ℕ) × Returns stream call end r.reply × IsWithin r.view (announced book)
      × (length r.view ≡ length book) × HoldsTheCallsBefore stream name r.view end
  record-answers call r is known =
      let within : IsAnswered book (name call) = slice_get_within
      (page_of book (name call).caller).records (name call).number r known in
      let found = of.returned (name call) within in
      let same : found.0 ≡ call =
      of.apart found.0 call (returned_call stream found.0 found.1 found.2 found.3) is found.4 in
      let returns : Returns stream call found.1 found.2 =
      subst (λ (k : ℕ). Returns stream k found.1 found.2) same found.3 in
      let answer = of.answers call found.1 found.2 returns in
      let equal : answer.0 ≡ r = same_Some answer.0 r (sym answer.1 ∙ known) in (
        found.1,
        subst (λ (n : ℕ). Returns stream call found.1 n)
            (sym answer.2 ∙ ap (λ (s : Record). s.reply) equal) returns,
        subst (λ (s : Record). IsWithin s.view (announced book)) equal answer.4,
        subst (λ (s : Record). length s.view ≡ length book) equal answer.3,
        subst (λ (s : Record). HoldsTheCallsBefore stream name s.view found.1) equal answer.5,
      )

  -- the same, of any call of the book
  record-call : (named : Call) (r : Record) → record_of book named ≡ Some r
      → (call : ℕ) × IsStreamCall stream call × (name call ≡ named)
      × (record_of book (name call) ≡ Some r)
  record-call named r known =
      let within : IsAnswered book named =
      slice_get_within (page_of book named.caller).records named.number r known in
      let found = of.returned named within in (
        found.0,
        returned_call stream found.0 found.1 found.2 found.3,
        found.4,
        subst (λ (c : Call). record_of book c ≡ Some r) (sym found.4) known,
      )

  -- what counts for a caller in a view within the announced counts is a call of the book
  counted_call : (r : Record) (caller number : ℕ) → IsWithin r.view (announced book)
      → number < get_or r.view caller 0
      → IsCall book (record { caller = caller; number = number })
  counted_call r caller number within below =
      let low : get_or r.view caller 0 ≤ get_or (announced book) caller 0 = within caller in
      omega (arith, announced_at book caller)

  -- a return earlier in the stream has a view within that of a later one
  within-ends : (r s : Record) (e f : ℕ) → e ≤ f → IsWithin r.view (announced book)
      → HoldsTheCallsBefore stream name r.view e → HoldsTheCallsBefore stream name s.view f
      → IsWithin r.view s.view
  within-ends r s e f order within first second i =
      elim (cases_lt (get_or s.view i 0) (get_or r.view i 0)) [
        | inl more ↦
            let named : Call = record { caller = i; number = get_or s.view i 0 } in
            let found = of.whole named (counted_call r i (get_or s.view i 0) within more) in
            let held : Holds r.view (name found.0) =
            subst (λ (c : Call). Holds r.view c) (sym found.2) more in
            let before : found.0 < e = (first found.0 found.1).0 held in
            let also : Holds s.view (name found.0) = (second found.0 found.1).1 (omega arith) in
            let below : get_or s.view i 0 < get_or s.view i 0 =
            subst (λ (c : Call). Holds s.view c) found.2 also in
            absurd (omega arith)
        | inr less ↦ less
      ]

  own-view : (call : ℕ) (r : Record) (end : ℕ) → IsStreamCall stream call
      → Returns stream call end r.reply → IsWithin r.view (announced book)
      → HoldsTheCallsBefore stream name r.view end
      → get_or r.view (name call).caller 0 ≡ (name call).number + 1
  own-view call r end is returns within holds =
      let after : call < end = returns.after in
      let own : (name call).number < get_or r.view (name call).caller 0 =
      (holds call is).1 after in
      elim (cases_lt ((name call).number + 1) (get_or r.view (name call).caller 0)) [
        | inl more ↦
            let named : Call =
            record { caller = (name call).caller; number = (name call).number + 1 } in
            let found = of.whole named
            (counted_call r (name call).caller ((name call).number + 1) within more) in
            let held : Holds r.view (name found.0) =
            subst (λ (c : Call). Holds r.view c) (sym found.2) more in
            let before : found.0 < end = (holds found.0 found.1).0 held in
            let number : (name found.0).number ≡ (name call).number + 1 =
            ap (λ (c : Call). c.number) found.2 in
            let turn = of.turns call found.0 is found.1
            (sym (ap (λ (c : Call). c.caller) found.2)) (omega arith) in
            let same = returns_once stream call end r.reply turn.0 turn.1 returns turn.2 in
            absurd (omega (arith, turn.3, same.0))
        | inr less ↦ omega arith
      ]

  pub valid : IsValid book
  valid = record {
    answers = λ i. elim (cases_lt (calls_of book i) (answers_of book i)) [
      | inl more ↦
          let named : Call = record { caller = i; number = calls_of book i } in
          let found = of.returned named more in
          let is : IsCall book (name found.0) =
          named_call found.0 (returned_call stream found.0 found.1 found.2 found.3) in
          let below : calls_of book i < calls_of book i =
          subst (λ (c : Call). IsCall book c) found.4 is in
          absurd (omega arith)
      | inr less ↦ less
    ];
    wide = λ call r known.
        let found = record-call call r known in
        (record-answers found.0 r found.1 found.3).3;
    within = λ call r known.
        let found = record-call call r known in
        (record-answers found.0 r found.1 found.3).2;
    own = λ call r known.
        let found = record-call call r known in
        let answer = record-answers found.0 r found.1 found.3 in
        subst (λ (c : Call). get_or r.view c.caller 0 ≡ c.number + 1) found.2
        (own-view found.0 r answer.0 found.1 answer.1 answer.2 answer.4);
    comparable = λ a b r s known also.
        let first = record-call a r known in
        let second = record-call b s also in
        let one = record-answers first.0 r first.1 first.3 in
        let other = record-answers second.0 s second.1 second.3 in
        elim (cases_lt other.0 one.0) [
          | inl more ↦ inr (within-ends s r other.0 one.0 (omega arith) other.2 other.4 one.4)
          | inr less ↦ inl (within-ends r s one.0 other.0 less one.2 one.4 other.4)
        ];
  }

  pub one_pending : HasOnePending book
  one_pending i = elim (cases_lt (answers_of book i + 1) (calls_of book i)) [
    | inl more ↦
        let first : Call = record { caller = i; number = answers_of book i } in
        let second : Call = record { caller = i; number = answers_of book i + 1 } in
        let one = of.whole first (omega arith) in
        let other = of.whole second more in
        let caller : (name one.0).caller ≡ (name other.0).caller =
        ap (λ (c : Call). c.caller) one.2 ∙ sym (ap (λ (c : Call). c.caller) other.2) in
        let low : (name one.0).number ≡ answers_of book i = ap (λ (c : Call). c.number) one.2 in
        let high : (name other.0).number ≡ answers_of book i + 1 =
        ap (λ (c : Call). c.number) other.2 in
        let turn = of.turns one.0 other.0 one.1 other.1 caller (omega arith) in
        let answer = of.answers one.0 turn.0 turn.1 turn.2 in
        let is : IsAnswered book (name one.0) = slice_get_within
        (page_of book (name one.0).caller).records (name one.0).number answer.0 answer.1 in
        let below : answers_of book i < answers_of book i =
        subst (λ (c : Call). IsAnswered book c) one.2 is in
        absurd (omega arith)
    | inr less ↦ less
  ]

  -- precedence in the book is precedence in the stream
  pub precedes-there : (a b : ℕ) → IsStreamCall stream a → IsStreamCall stream b
      → Precedes book (name a) (name b) → StreamPrecedes stream a b
  precedes-there a b first second (inl answered) =
      let P : Record → Type 0 = λ r. get_or r.view (name b).caller 0 ≤ (name b).number in
      let known = some_from_is_some_and (record_of book (name a)) P answered in
      let unseen : get_or known.0.view (name b).caller 0 ≤ (name b).number =
      subst (λ (o : Option Record). IsSomeAnd o P) known.1 answered in
      let answer = record-answers a known.0 first known.1 in
      elim (cases_order answer.0 b) [
        | inl same ↦
            absurd (return_or_call stream b answer.1.process known.0.reply second.0 second.1
            (subst (λ (k : ℕ). slice_get stream k
            ≡ Some (Returned answer.1.process known.0.reply)) same answer.1.returned) second.2)
        | inr (inl before) ↦ (answer.0, known.0.reply, answer.1, before)
        | inr (inr after) ↦
            let held : (name b).number < get_or known.0.view (name b).caller 0 =
            (answer.4 b second).1 after in
            absurd (omega arith)
      ]
  precedes-there a b first second (inr own) = of.turns a b first second own.0 own.1

  pub precedes-here : (a b : ℕ) → IsStreamCall stream a → IsStreamCall stream b
      → StreamPrecedes stream a b → Precedes book (name a) (name b)
  precedes-here a b first second (end, reply, returns, before) =
      let P : Record → Type 0 = λ r. get_or r.view (name b).caller 0 ≤ (name b).number in
      let answer = of.answers a end reply returns in
      let unseen : get_or answer.0.view (name b).caller 0 ≤ (name b).number =
      elim (cases_lt (name b).number (get_or answer.0.view (name b).caller 0)) [
        | inl held ↦ let early : b < end = (answer.5 b second).0 held in absurd (omega arith)
        | inr less ↦ less
      ] in
      inl (subst (λ (o : Option Record). IsSomeAnd o P) (sym answer.1) unseen)

-- a place of a stream's order as a place of an order of the book
abbrev pub named_place : (ℕ → Call) → StreamPlace → Place
named_place name place = record {
  caller = (name place.call).caller;
  number = (name place.call).number;
  reply = place.reply;
}

-- the place of an order that a place of the mapped order comes from
unmapped : (name : ℕ → Call) (order : List StreamPlace) (k : ℕ) (place : Place)
    → slice_get (map (named_place name) order) k ≡ Some place
    → (x : StreamPlace) × (slice_get order k ≡ Some x) × (named_place name x ≡ place)
unmapped name [] k place at = absurd (none-some place at)
unmapped name (x ∷ order) zero place at = (x, refl, same_Some _ place at)
unmapped name (x ∷ order) (suc k) place at = unmapped name order k place at

mapped : (name : ℕ → Call) (order : List StreamPlace) (k : ℕ) (x : StreamPlace)
    → slice_get order k ≡ Some x
    → slice_get (map (named_place name) order) k ≡ Some (named_place name x)
mapped name [] k x at = absurd (none-some x at)
mapped name (y ∷ order) zero x at =
    ap (λ (z : StreamPlace). Some (named_place name z)) (same_Some y x at)
mapped name (y ∷ order) (suc k) x at = mapped name order k x at

stands-mapped : (name : ℕ → Call) (order : List StreamPlace) (k : ℕ) (call : Call)
    → StandsAt (map (named_place name) order) k call
    → (x : StreamPlace) × (slice_get order k ≡ Some x) × (name x.call ≡ call)
stands-mapped name order k call (place, at, is) =
    let found = unmapped name order k place at in
    (found.0, found.1, ap call_at found.2 ∙ is)

-- two places of a stream's order with the same call and reply are equal
same_stream_place : (a b : StreamPlace) → a.call ≡ b.call → a.reply ≡ b.reply → a ≡ b
same_stream_place a b call reply =
    let made : ℕ → ℕ → StreamPlace = λ c r. record { call = c; reply = r } in
    ap (λ (c : ℕ). made c a.reply) call ∙ ap (made b.call) reply

module _ (spec : SeqSpec) (stream : List StreamEvent) (book : List Page) (name : ℕ → Call)
    (of : IsBookOf stream book name) where
  -- all places of the order are calls of the stream
  abbrev AreCalls : List StreamPlace → Type 0
  AreCalls order = (place : StreamPlace) → IsAmong order place → IsStreamCall stream place.call

  same-steps : (order : List StreamPlace) → AreCalls order
      → map (step_at book) (map (named_place name) order) ≡ map (stream_step stream) order
  same-steps [] calls = refl
  same-steps (place ∷ order) calls =
      let is = calls place (0, refl) in
      let word : unwrap_or (operation_of book (name place.call)) 0
      ≡ word_of_event (slice_get stream place.call) =
      ap (λ (o : Option ℕ). unwrap_or o 0) (of.calls place.call is.0 is.1 is.2)
      ∙ sym (ap word_of_event is.2) in
      let rest : map (step_at book) (map (named_place name) order)
      ≡ map (stream_step stream) order = same-steps order (λ p (k, at). calls p (suc k, at)) in
      let head : ◌≡◌ {A = ℕ × ℕ} (unwrap_or (operation_of book (name place.call)) 0, place.reply)
      (word_of_event (slice_get stream place.call), place.reply) =
      ap (λ (w : ℕ). (w, place.reply)) word in
      ap (λ (s : ℕ × ℕ). s ∷ map (step_at book) (map (named_place name) order)) head
      ∙ ap (λ (ss : List (ℕ × ℕ)). stream_step stream place ∷ ss) rest

  -- a legal order of the stream is one of the book, under the names of the calls
  order-named : (order : List StreamPlace) → IsLegalStreamOrder spec stream order
      → IsLegalOrder spec book (map (named_place name) order)
  order-named order legal = record {
    calls = λ k call s.
        let x = stands-mapped name order k call s in
        subst (λ (c : Call). IsCall book c) x.2
        (named_call stream book name of x.0.call (legal.calls x.0 (k, x.1)));
    once = λ j k call s t.
        let x = stands-mapped name order j call s in
        let y = stands-mapped name order k call t in
        legal.once j k x.0 y.0 x.1 y.1
        (of.apart x.0.call y.0.call (legal.calls x.0 (j, x.1)) (legal.calls y.0 (k, y.1))
        (x.2 ∙ sym y.2));
    earlier = λ k call s number less.
        let x = stands-mapped name order k call s in
        let is : IsCall book (name x.0.call) =
        named_call stream book name of x.0.call (legal.calls x.0 (k, x.1)) in
        let here : IsCall book call = subst (λ (c : Call). IsCall book c) x.2 is in
        let named : Call = record { caller = call.caller; number = number } in
        let found = of.whole named (omega arith) in
        let caller : (name found.0).caller ≡ (name x.0.call).caller =
        ap (λ (c : Call). c.caller) found.2 ∙ sym (ap (λ (c : Call). c.caller) x.2) in
        let low : (name found.0).number ≡ number = ap (λ (c : Call). c.number) found.2 in
        let high : (name x.0.call).number ≡ call.number = ap (λ (c : Call). c.number) x.2 in
        let turn = of.turns found.0 x.0.call found.1 (legal.calls x.0 (k, x.1)) caller
        (omega arith) in
        let place : StreamPlace = record { call = found.0; reply = turn.1 } in
        let stands = legal.returned found.0 turn.0 turn.1 turn.2 in (
          stands.0,
          legal.precedence stands.0 k place x.0 stands.1 x.1 turn,
          (named_place name place, mapped name order stands.0 place stands.1, found.2),
        );
    answered = λ call r known.
        let found = record-call stream book name of call r known in
        let answer = record-answers stream book name of found.0 r found.1 found.3 in
        let place : StreamPlace = record { call = found.0; reply = r.reply } in
        let stands = legal.returned found.0 answer.0 r.reply answer.1 in (
          stands.0,
          mapped name order stands.0 place stands.1 ∙ ap (λ (c : Call). Some (record {
            caller = c.caller;
            number = c.number;
            reply = r.reply;
          })) found.2,
        );
    run = subst (λ (steps : List (ℕ × ℕ)). IsRunFrom spec.next spec.init steps)
        (sym (same-steps order legal.calls)) legal.run;
    precedence = λ j k a b s t before.
        let x = stands-mapped name order j a s in
        let y = stands-mapped name order k b t in
        let first : Precedes book (name x.0.call) b =
        subst (λ (c : Call). Precedes book c b) (sym x.2) before in
        let second : Precedes book (name x.0.call) (name y.0.call) =
        subst (λ (c : Call). Precedes book (name x.0.call) c) (sym y.2) first in
        legal.precedence j k x.0 y.0 x.1 y.1 (precedes-there stream book name of x.0.call y.0.call
        (legal.calls x.0 (j, x.1)) (legal.calls y.0 (k, y.1)) second);
  }

  more-calls : (place : StreamPlace) (order : List StreamPlace) → IsStreamCall stream place.call
      → AreCalls order → AreCalls (place ∷ order)
  more-calls place order first calls p (zero, at) =
      subst (λ (q : StreamPlace). IsStreamCall stream q.call) (same_Some place p at) first
  more-calls place order first calls p (suc k, at) = calls p (k, at)

  -- an order of calls of the book is one of calls of the stream, under their names
  unnamed : (order : List Place)
      → ((k : ℕ) (place : Place) → slice_get order k ≡ Some place → IsCall book (call_at place))
      → (names : List StreamPlace) × (map (named_place name) names ≡ order) × AreCalls names
  unnamed [] calls = ([], refl, λ place (k, at). absurd (none-some place at))
  unnamed (place ∷ order) calls =
      let rest = unnamed order (λ k p at. calls (suc k) p at) in
      let found = of.whole (call_at place) (calls 0 place refl) in
      let first : StreamPlace = record { call = found.0; reply = place.reply } in
      let head : named_place name first ≡ place = ap (λ (c : Call). record {
        caller = c.caller;
        number = c.number;
        reply = place.reply;
      }) found.2 in (
        first ∷ rest.0,
        cc (head, rest.1),
        more-calls first rest.0 found.1 rest.2,
      )

  order-unnamed : (order : List StreamPlace) → AreCalls order
      → IsLegalOrder spec book (map (named_place name) order)
      → IsLegalStreamOrder spec stream order
  order-unnamed order calls legal = record {
    calls = calls;
    once = λ j k a b first second same.
        legal.once j k (name a.call) (named_place name a, mapped name order j a first, refl)
        (named_place name b, mapped name order k b second, ap name (sym same));
    returned = λ call end reply returns.
        let answer = of.answers call end reply returns in
        let stands = legal.answered (name call) answer.0 answer.1 in
        let x = unmapped name order stands.0 _ stands.1 in
        let is : x.0.call ≡ call = of.apart x.0.call call (calls x.0 (stands.0, x.1))
        (returned_call stream call end reply returns) (ap call_at x.2) in
        let equal : x.0 ≡ record { call = call; reply = reply } = same_stream_place x.0 _ is
        (ap (λ (p : Place). p.reply) x.2 ∙ answer.2) in
        (stands.0, x.1 ∙ ap (λ (p : StreamPlace). Some p) equal);
    run = subst (λ (steps : List (ℕ × ℕ)). IsRunFrom spec.next spec.init steps)
        (same-steps order calls) legal.run;
    precedence = λ j k a b first second before.
        legal.precedence j k (name a.call) (name b.call)
        (named_place name a, mapped name order j a first, refl)
        (named_place name b, mapped name order k b second, refl)
        (precedes-here stream book name of a.call b.call (calls a (j, first)) (calls b (k, second))
        before);
  }

  pub same_verdict : (HasLegalOrder spec book ↔ HasLegalStreamOrder spec stream)
  same_verdict = (
    λ (order, legal).
        let names =
        unnamed order (λ k place at. legal.calls k (call_at place) (place, at, refl)) in (
          names.0,
          order-unnamed names.0 names.2
              (subst (λ (o : List Place). IsLegalOrder spec book o) (sym names.1) legal),
        ),
    λ (order, legal). (map (named_place name) order, order-named order legal),
  )
