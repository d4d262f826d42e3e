-- The events of the part of a key, in the part and in the whole stream.
use Rattle.std.proofs.Common.{◌≡◌, ℕ, ◌<◌, ◌⊎◌, ◌∙◌, List, length, get_or, slice_get, Some, refl, sym, ap, subst, inl, inr, arith}
use Rattle.std.proofs.lemmas.Bool.{cases_order}
use Rattle.std.proofs.lemmas.Option.{same_Some, slice_get_within, slice_get-get_or}
use Rattle.streams.specs.Stream.{StreamEvent, Called, Returned, Lost, process_of, Ends, IsCalledAt, IsQuiet, Returns, StreamPrecedes, IsValidStream}
use Rattle.streams.proofs.Returning.{one_event, first_or_quiet}
use Rattle.stream_locality.specs.StreamParts.{EndsCall, IsOneOf, IsOfKey, IsStreamOfKey, PartsAreValid}

-- an event ends a call, or it is one
ends_or_calls : (event : StreamEvent)
    → Ends event ⊎ ((op : ℕ) × (event ≡ Called (process_of event) op))
ends_or_calls (Called process op) = inr (op, refl)
ends_or_calls (Returned process reply) = inl tt
ends_or_calls (Lost process) = inl tt

-- an event that ends a call is no call
pub no_call : (stream : List StreamEvent) (place process op : ℕ) (event : StreamEvent)
    → slice_get stream place ≡ Some event → Ends event → IsCalledAt stream place process op → ⊥
no_call stream place process op (Called p o) at ends called = ends
no_call stream place process op (Returned p r) at ends called =
    let event : Returned p r ≡ Called process op = one_event stream place _ _ at called in cc
no_call stream place process op (Lost p) at ends called =
    let event : Lost p ≡ Called process op = one_event stream place _ _ at called in cc

-- at one place one operation is called
pub same_op : (stream : List StreamEvent) (call process op other second : ℕ)
    → IsCalledAt stream call process op → IsCalledAt stream call other second → op ≡ second
same_op stream call process op other second at there =
    let event : Called process op ≡ Called other second = one_event stream call _ _ at there in cc

-- a call that is an event of a key has the key
pub called_key : (key : ℕ → ℕ) (k : ℕ) (stream : List StreamEvent) (place process op : ℕ)
    → IsCalledAt stream place process op → IsOfKey key k stream place → key op ≡ k
called_key key k stream place process op at (call, p, o, called, same, inl equal) =
    ap key (same_op stream place process op p o at
    (subst (λ (n : ℕ). IsCalledAt stream n p o) (sym equal) called))
    ∙ same
called_key key k stream place process op at (call, p, o, called, same, inr ends) =
    absurd (no_call stream place process op ends.event ends.at ends.ends at)

module _ (key : ℕ → ℕ) (k : ℕ) (whole : List StreamEvent) (places : List ℕ)
    (part : List StreamEvent) (is : IsStreamOfKey key k whole places part) where
  place_at : (j : ℕ) → j < length places → slice_get places j ≡ Some (get_or places j 0)
  place_at j low = slice_get-get_or places j 0 low

  -- an event of the part is an event of the whole stream
  event_was : (j : ℕ) (event : StreamEvent) → slice_get part j ≡ Some event
      → (j < length places) × (slice_get whole (get_or places j 0) ≡ Some event)
  event_was j event at =
      let low : j < length places = omega (arith, slice_get_within part j event at, is.long) in
      (low, sym (is.same j (get_or places j 0) (place_at j low)) ∙ at)

  -- of two places of the part the lesser one is that of the lesser place
  less_is : (i j : ℕ) → i < length places → get_or places i 0 < get_or places j 0 → i < j
  less_is i j low less = elim (cases_order i j) [
    | inl same ↦ absurd (omega (arith, less, ap (λ (n : ℕ). get_or places n 0) same))
    | inr (inl before) ↦ before
    | inr (inr after) ↦ absurd (omega (arith, less, is.rising j i after low))
  ]

  -- two places of the part that are those of one place are one
  pub place_once : (i j : ℕ) → i < length places → j < length places
      → get_or places i 0 ≡ get_or places j 0 → i ≡ j
  place_once i j low within same = elim (cases_order i j) [
    | inl equal ↦ equal
    | inr (inl before) ↦ absurd (omega (arith, same, is.rising i j before within))
    | inr (inr after) ↦ absurd (omega (arith, same, is.rising j i after low))
  ]

  -- the place in the part of a place that is taken
  found : (place : ℕ) → IsOneOf places place
      → (j : ℕ) × (j < length places) × (get_or places j 0 ≡ place)
  found place (j, at) =
      let low : j < length places = slice_get_within places j place at in
      (j, low, same_Some (get_or places j 0) place (sym (place_at j low) ∙ at))

  -- the event of the whole stream at a place of the part
  event_is : (j place : ℕ) (event : StreamEvent) → j < length places → get_or places j 0 ≡ place
      → slice_get whole place ≡ Some event → slice_get part j ≡ Some event
  event_is j place event low same at =
      is.same j (get_or places j 0) (place_at j low)
      ∙ (ap (λ (n : ℕ). slice_get whole n) same ∙ at)

  -- A call of the part is a call of the whole stream with the key.
  pub call_was : (j process op : ℕ) → IsCalledAt part j process op
      → (j < length places) × IsCalledAt whole (get_or places j 0) process op × (key op ≡ k)
  call_was j process op at =
      let there = event_was j (Called process op) at in (
        there.0,
        there.1,
        called_key key k whole (get_or places j 0) process op there.1
            ((is.events (get_or places j 0)).0 (j, place_at j there.0)),
      )

  -- A call of the whole stream with the key is a call of the part.
  pub call_is : (call process op : ℕ) → IsCalledAt whole call process op → key op ≡ k
      → (j : ℕ) × (j < length places) × (get_or places j 0 ≡ call) × IsCalledAt part j process op
  call_is call process op at same =
      let there = found call
      ((is.events call).1 (call, process, op, at, same, inl refl)) in (
        there.0,
        there.1,
        there.2,
        event_is there.0 call (Called process op) there.1 there.2 at,
      )

  -- the end of a call with the key is an event of the part
  end_is : (call process op end : ℕ) → IsCalledAt whole call process op → key op ≡ k
      → EndsCall whole call process end
      → (j : ℕ) × (j < length places) × (get_or places j 0 ≡ end)
  end_is call process op end at same ends =
      found end ((is.events end).1 (call, process, op, at, same, inr ends))

  -- the part is quiet where the whole stream is
  quiet_is : (process i j : ℕ) → j < length places
      → IsQuiet whole process (get_or places i 0) (get_or places j 0) → IsQuiet part process i j
  quiet_is process i j within quiet m event low high at own =
      let there = event_was m event at in
      quiet (get_or places m 0) event (is.rising i m low there.0) (is.rising m j high within)
      there.1 own

  -- Where a call with the key returns in the whole stream, it returns in the part.
  pub returns_is : (call end reply : ℕ) (h : Returns whole call end reply) → key h.op ≡ k
      → (i : ℕ) × (j : ℕ) × (i < length places) × (j < length places)
      × (get_or places i 0 ≡ call) × (get_or places j 0 ≡ end) × Returns part i j reply
  returns_is call end reply h same =
      let from = call_is call h.process h.op h.called same in
      let to = end_is call h.process h.op end h.called same (record {
        event = Returned h.process reply;
        at = h.returned;
        own = refl;
        ends = tt;
        after = h.after;
        quiet = h.quiet;
      }) in (
        from.0,
        to.0,
        from.1,
        to.1,
        from.2,
        to.2,
        record {
          process = h.process;
          op = h.op;
          called = from.3;
          returned = event_is to.0 end (Returned h.process reply) to.1 to.2 h.returned;
          after = less_is from.0 to.0 from.1 (omega (arith, h.after, from.2, to.2));
          quiet = quiet_is h.process from.0 to.0 to.1 (λ m event low high.
              h.quiet m event (omega (arith, low, from.2)) (omega (arith, high, to.2)));
        },
      )

  -- the call that an event of the part ends
  ended_call : (j : ℕ) (event : StreamEvent) → slice_get part j ≡ Some event → Ends event
      → (i : ℕ) × (op : ℕ) × (i < length places) × IsCalledAt part i (process_of event) op
      × IsQuiet whole (process_of event) (get_or places i 0) (get_or places j 0)
      × (get_or places i 0 < get_or places j 0)
  ended_call j event at ends =
      let there = event_was j event at in
      ended_from j event there.1 ends ((is.events (get_or places j 0)).0 (j, place_at j there.0))
    where
      ended_from : (j : ℕ) (event : StreamEvent)
          → slice_get whole (get_or places j 0) ≡ Some event → Ends event
          → IsOfKey key k whole (get_or places j 0)
          → (i : ℕ) × (op : ℕ) × (i < length places) × IsCalledAt part i (process_of event) op
          × IsQuiet whole (process_of event) (get_or places i 0) (get_or places j 0)
          × (get_or places i 0 < get_or places j 0)
      ended_from j event at ends (call, process, op, called, same, inl equal) =
          absurd (no_call whole (get_or places j 0) process op event at ends
          (subst (λ (n : ℕ). IsCalledAt whole n process op) (sym equal) called))
      ended_from j event at ends (call, process, op, called, same, inr end) =
          let own : process ≡ process_of event =
          sym end.own
          ∙ ap process_of (one_event whole (get_or places j 0) end.event event end.at at) in
          let from = call_is call process op called same in (
            from.0,
            op,
            from.1,
            subst (λ (p : ℕ). IsCalledAt part from.0 p op) own from.3,
            λ m other low high there is_own.
                end.quiet m other (omega (arith, low, from.2)) high there (is_own ∙ sym own),
            omega (arith, end.after, from.2),
          )

  -- Where a call returns in the part, it returns in the whole stream.
  pub returns_was : (i j reply : ℕ) → Returns part i j reply
      → Returns whole (get_or places i 0) (get_or places j 0) reply
  returns_was i j reply h =
      let call = call_was i h.process h.op h.called in
      let end = event_was j (Returned h.process reply) h.returned in
      let last = ended_call j (Returned h.process reply) h.returned tt in
      let high : get_or places i 0 < get_or places j 0 = is.rising i j h.after end.0 in
      let same : last.0 ≡ i = elim (cases_order last.0 i) [
        | inl same ↦ same
        | inr (inl before) ↦ absurd (last.4 (get_or places i 0) (Called h.process h.op)
            (is.rising last.0 i before call.0) high call.1 refl)
        | inr (inr after) ↦ absurd (h.quiet last.0 (Called h.process last.1) after
            (less_is last.0 j last.2 last.5) last.3 refl)
      ] in
      record {
        process = h.process;
        op = h.op;
        called = call.1;
        returned = end.1;
        after = high;
        quiet = λ m event low up.
            last.4 m event (omega (arith, low, ap (λ (n : ℕ). get_or places n 0) same)) up;
      }

  -- A call of the part that precedes another one in the whole stream precedes it in the part.
  pub precedes_is : (i j process op other second : ℕ) → IsCalledAt part i process op
      → IsCalledAt part j other second
      → StreamPrecedes whole (get_or places i 0) (get_or places j 0) → StreamPrecedes part i j
  precedes_is i j process op other second first at (end, reply, h, less) =
      let call = call_was i process op first in
      let same : key h.op ≡ k =
      ap key (same_op whole (get_or places i 0) h.process h.op process op h.called call.1)
      ∙ call.2 in
      let there = returns_is (get_or places i 0) end reply h same in
      let own : there.0 ≡ i = place_once there.0 i there.2 call.0 there.4 in (
        there.1,
        reply,
        subst (λ (n : ℕ). Returns part n there.1 reply) own there.6,
        less_is there.1 j there.3 (omega (arith, there.5, less)),
      )

  -- A call of the part that precedes another one there precedes it in the whole stream.
  pub precedes_was : (i j process op : ℕ) → IsCalledAt part j process op
      → StreamPrecedes part i j → StreamPrecedes whole (get_or places i 0) (get_or places j 0)
  precedes_was i j process op at (end, reply, h, less) = (
    get_or places end 0,
    reply,
    returns_was i end reply h,
    is.rising end j less (call_was j process op at).0,
  )

  -- between two calls of a process of the part there is the end of a call
  calls_end : IsValidStream whole → (i j process op other : ℕ) → i < j
      → IsCalledAt part i process op → IsCalledAt part j process other
      → (end : ℕ) × (event : StreamEvent) × (i < end) × (end < j)
      × (slice_get part end ≡ Some event) × (process_of event ≡ process) × Ends event
  calls_end valid i j process op other less at bt =
      let call = call_was i process op at in
      let next = call_was j process other bt in
      let from : ℕ = get_or places i 0 in
      let to : ℕ = get_or places j 0 in
      elim (first_or_quiet whole process from to) [
        | inl quiet ↦
            let between = valid.calls from to process op other
            (is.rising i j less next.0) call.1 next.1 in
            absurd (quiet between.0 between.1 between.2 between.3 between.4 between.5)
        | inr (m, event, low, high, here, own, quiet) ↦ elim (ends_or_calls event) [
          | inl ends ↦
              let there = end_is from process op m call.1 call.2 (record {
                event = event;
                at = here;
                own = own;
                ends = ends;
                after = low;
                quiet = quiet;
              }) in (
                there.0,
                event,
                less_is i there.0 call.0 (omega (arith, low, there.2)),
                less_is there.0 j there.1 (omega (arith, high, there.2)),
                event_is there.0 m event there.1 there.2 here,
                own,
                ends,
              )
          | inr (second, calls) ↦
              let here_called : IsCalledAt whole m process second =
              here ∙ (ap Some calls ∙ ap (λ (p : ℕ). Some (Called p second)) own) in
              let between = valid.calls from m process op second low call.1 here_called in
              absurd (quiet between.0 between.1 between.2 between.3 between.4 between.5)
        ]
      ]

  -- The part of a key of a valid stream is valid.
  pub part_is_valid : IsValidStream whole → IsValidStream part
  part_is_valid valid = record {
    calls = λ i j process op other less at bt. calls_end valid i j process op other less at bt;
    ends = λ end event at ends.
        let there = event_was end event at in
        let last = ended_call end event at ends in (
          last.0,
          last.1,
          less_is last.0 end last.2 last.5,
          last.3,
          quiet_is (process_of event) last.0 end there.0 last.4,
        );
  }

pub parts_are_valid : PartsAreValid
parts_are_valid key k whole places part valid is = part_is_valid key k whole places part is valid
