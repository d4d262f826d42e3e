-- A legal order of a stream from those of the parts of its keys. The size of a place is the place at
-- which its call returns.
use Rattle.std.proofs.Common.{◌≡◌, ℕ, suc, ◌<◌, ◌≤◌, ◌⊎◌, ◌∙◌, List, map, filter, get_or, nat_eq, slice_get, sum_by, Option, Some, None, refl, sym, ap, subst, inl, inr, arith}
use Rattle.std.proofs.lemmas.Bool.{cases_lt, cases_order}
use Rattle.std.proofs.lemmas.List.Sums.{get_or-le-sum_by}
use Rattle.std.proofs.lemmas.Option.{none-some, same_Some, slice_get_within, slice_get-get_or}
use Rattle.book_base.specs.SeqSpec.{SeqSpec}
use Rattle.streams.specs.Stream.{StreamEvent, Called, Returned, Lost, IsCalledAt, IsStreamCall, Returns, HasReturned, StreamPrecedes}
use Rattle.streams.specs.StreamOrder.{StreamPlace, word_of_event, stream_step, IsAmong, HasLegalStreamOrder}
use Rattle.streams.proofs.Returning.{one_event, returns_once, cases_returned}
use Rattle.locality.specs.Locality.{IsProduct}
use Rattle.locality.proofs.Sorting.{ranks_rise}
use Rattle.locality.proofs.Ranking.{sized_is_ranked}
use Rattle.locality.proofs.Renaming.{map_at, at_map}
use Rattle.locality.proofs.Merged.{ranked_of, merged, merged-sorted, from_merged, in_merged, before_in_key, merged_order, merged_run}
use Rattle.stream_locality.specs.StreamParts.{StreamLocality}
use Rattle.stream_locality.proofs.Orders.{IsOrderOfKey, word_at, order_was, order_is, order_of_key}

-- ---- where a call returns

end_from : {stream : List StreamEvent} {call : ℕ}
    → HasReturned stream call ⊎ (HasReturned stream call → ⊥) → Option ℕ
end_from (inl (end, reply, h)) = Some end
end_from (inr never) = None

-- the place at which the call of a place returns, where it does
end_of : List StreamEvent → StreamPlace → Option ℕ
end_of stream place = end_from (cases_returned stream place.call)

-- a call returns where it says so
end_returns : (stream : List StreamEvent) (place : StreamPlace) (end : ℕ)
    → end_of stream place ≡ Some end → (reply : ℕ) × Returns stream place.call end reply
unfolding end_of end_from
end_returns stream place end at = from (cases_returned stream place.call) at
  where
    from : (o : HasReturned stream place.call ⊎ (HasReturned stream place.call → ⊥))
        → end_from o ≡ Some end → (reply : ℕ) × Returns stream place.call end reply
    from (inl (other, reply, h)) same =
        (reply, subst (λ (n : ℕ). Returns stream place.call n reply) (same_Some other end same) h)
    from (inr never) same = absurd (none-some end same)

-- a call that returns has this place
end_known : (stream : List StreamEvent) (place : StreamPlace) (end reply : ℕ)
    → Returns stream place.call end reply → end_of stream place ≡ Some end
unfolding end_of end_from
end_known stream place end reply h = from (cases_returned stream place.call)
  where
    from : (o : HasReturned stream place.call ⊎ (HasReturned stream place.call → ⊥))
        → end_from o ≡ Some end
    from (inl (other, again, other_h)) =
        ap Some (returns_once stream place.call other again end reply other_h h).0
    from (inr never) = absurd (never (end, reply, h))

-- ---- keys

-- more than the key of each operation word of a stream
abbrev key_bound : (ℕ → ℕ) → List StreamEvent → ℕ
key_bound key stream =
    suc (sum_by (λ (event : StreamEvent). key (word_of_event (Some event))) stream)

below_bound : (key : ℕ → ℕ) (stream : List StreamEvent) (call process op : ℕ)
    → IsCalledAt stream call process op → key op < key_bound key stream
below_bound key stream call process op at =
    let word : StreamEvent → ℕ = λ event. key (word_of_event (Some event)) in
    let low = slice_get_within stream call (Called process op) at in
    let own : word (get_or stream call (Lost 0)) ≤ sum_by word stream =
    get_or-le-sum_by word stream call (Lost 0) low in
    let same : get_or stream call (Lost 0) ≡ Called process op =
    same_Some (get_or stream call (Lost 0)) (Called process op)
    (sym (slice_get-get_or stream call (Lost 0) low) ∙ at) in
    omega (arith, own, ap word same)

-- ---- the merged order

module _ (key : ℕ → ℕ) (whole : List StreamEvent) (objects : ℕ → SeqSpec)
    (orders : ℕ → List StreamPlace)
    (are : (k : ℕ) → IsOrderOfKey key k whole (objects k) (orders k)) where
  abbrev bound : ℕ
  bound = key_bound key whole

  own : (k j : ℕ) (place : StreamPlace) → slice_get (orders k) j ≡ Some place
      → key (stream_step whole place).0 ≡ k
  own k j place at =
      let called = (are k).calls j place at in
      ap key (word_at whole place called.0 called.1 called.2) ∙ called.3

  abbrev all : List (ℕ × StreamPlace)
  all = merged key (stream_step whole) (end_of whole) orders bound own

  abbrev order : List StreamPlace
  order = merged_order key (stream_step whole) (end_of whole) orders bound own

  abbrev key_at : ℕ × StreamPlace → ℕ
  key_at y = key (stream_step whole y.1).0

  -- a merged place is in the order of its key, and a call from it on returns at its rank
  record IsFrom (y : ℕ × StreamPlace) : Type 0 where
    index : ℕ
    at : slice_get (orders (key_at y)) index ≡ Some y.1
    ranked : slice_get (ranked_of key (stream_step whole) (end_of whole) orders bound own
        (key_at y)) index ≡ Some y
    later : ℕ
    last : StreamPlace
    from : index ≤ later
    last_at : slice_get (orders (key_at y)) later ≡ Some last
    reply : ℕ
    returns : Returns whole last.call y.0 reply

  is_from : (j : ℕ) (y : ℕ × StreamPlace) → slice_get all j ≡ Some y → IsFrom y
  is_from j y at =
      let there = from_merged key (stream_step whole) (end_of whole) orders bound own j y at in
      let sized = there.2.1 in
      let end = end_returns whole sized.item y.0 sized.sized in
      record {
        index = there.0;
        at = there.2.0;
        ranked = there.1;
        later = sized.index;
        last = sized.item;
        from = sized.from;
        last_at = sized.at;
        reply = end.0;
        returns = end.1;
      }

  -- the rank of a call that returns is at most the place of its return
  rank-le : (j : ℕ) (y : ℕ × StreamPlace) (end reply : ℕ) → slice_get all j ≡ Some y
      → Returns whole y.1.call end reply → y.0 ≤ end
  rank-le j y end reply at h =
      let there = is_from j y at in
      let least = sized_is_ranked (end_of whole) (orders (key_at y)) there.index y.1 end there.at
      (end_known whole y.1 end reply h) in
      let same : ◌≡◌ {A = ℕ × StreamPlace} (least.0, y.1) y =
      same_Some (least.0, y.1) y (sym least.1 ∙ there.ranked) in
      omega (arith, least.2, ap (λ (z : ℕ × StreamPlace). z.0) same)

  -- the call of a merged place is called before the place that is its rank
  called-lt : (j : ℕ) (y : ℕ × StreamPlace) → slice_get all j ≡ Some y → y.1.call < y.0
  called-lt j y at =
      let there = is_from j y at in
      elim (cases_order y.1.call y.0) [
        | inl same ↦
            let called = (are (key_at y)).calls there.index y.1 there.at in
            let event : Called called.0 called.1 ≡ Returned there.returns.process there.reply =
            one_event whole y.0 (Called called.0 called.1)
            (Returned there.returns.process there.reply)
            (subst (λ (n : ℕ). IsCalledAt whole n called.0 called.1) same called.2)
            there.returns.returned in
            absurd cc
        | inr (inl less) ↦ less
        | inr (inr more) ↦ absurd (omega (
          arith,
          there.from,
          (are (key_at y)).precedence there.later there.index there.last y.1 there.last_at
              there.at (y.0, there.reply, there.returns, more),
        ))
      ]

  -- of two calls of the merged order, one that precedes the other is before it
  keeps_precedence : (j l : ℕ) (y z : ℕ × StreamPlace) → slice_get all j ≡ Some y
      → slice_get all l ≡ Some z → StreamPrecedes whole y.1.call z.1.call → j < l
  keeps_precedence j l y z at bt (end, reply, h, less) = elim (cases_lt j l) [
    | inl before ↦ before
    | inr le ↦ absurd (omega (
      arith,
      ranks_rise all l j z y
          (merged-sorted key (stream_step whole) (end_of whole) orders bound own) le bt at,
      rank-le j y end reply at h,
      less,
      called-lt l z bt,
    ))
  ]

  -- no call is in the merged order twice
  not_twice : (j l : ℕ) (y z : ℕ × StreamPlace) → slice_get all j ≡ Some y
      → slice_get all l ≡ Some z → y.1.call ≡ z.1.call → j < l → ⊥
  not_twice j l y z at bt same less =
      let keys : key_at y ≡ key_at z =
      ap (λ (c : ℕ). key (word_of_event (slice_get whole c))) same in
      let kept = before_in_key key (stream_step whole) (end_of whole) orders bound own j l y z at
      bt keys less in
      omega (arith, (are (key_at z)).once kept.0 kept.1 y.1 z.1 kept.3 kept.4 same, kept.2)

  was_merged : (j : ℕ) (place : StreamPlace) → slice_get order j ≡ Some place
      → (y : ℕ × StreamPlace) × (slice_get all j ≡ Some y) × (y.1 ≡ place)
  was_merged j place at = map_at (λ (y : ℕ × StreamPlace). y.1) all j place at

  call_of : (place : StreamPlace) → IsAmong order place → IsStreamCall whole place.call
  call_of place (j, at) =
      let there = was_merged j place at in
      let mine = is_from j there.0 there.1 in
      let called = (are (key_at there.0)).calls mine.index there.0.1 mine.at in
      subst (λ (p : StreamPlace). IsStreamCall whole p.call) there.2
      (called.0, called.1, called.2)

  returned_is_in : (call end reply : ℕ) → Returns whole call end reply
      → IsAmong order (record { call = call; reply = reply })
  returned_is_in call end reply h =
      let place : StreamPlace = record { call = call; reply = reply } in
      let k : ℕ = key h.op in
      let found = (are k).returned call end reply h refl in
      let mine = sized_is_ranked (end_of whole) (orders k) found.0 place end found.1
      (end_known whole place end reply h) in
      let there = in_merged key (stream_step whole) (end_of whole) orders bound own k found.0
      (mine.0, place) (below_bound key whole call h.process h.op h.called) mine.1 in
      (there.0, at_map (λ (y : ℕ × StreamPlace). y.1) all there.0 (mine.0, place) there.1)

  -- The merged order is a legal order of the stream.
  pub merged_is_legal : (list_of : ℕ → List ℕ → List ℕ) (product : SeqSpec)
      → IsProduct key list_of objects product → HasLegalStreamOrder product whole
  merged_is_legal list_of product is = (
    order,
    record {
      calls = call_of;
      once = λ j l a b at bt same.
          let y = was_merged j a at in
          let z = was_merged l b bt in
          let equal : y.0.1.call ≡ z.0.1.call =
          ap (λ (p : StreamPlace). p.call) y.2
          ∙ (same ∙ sym (ap (λ (p : StreamPlace). p.call) z.2)) in
          elim (cases_order j l) [
            | inl e ↦ e
            | inr (inl less) ↦ absurd (not_twice j l y.0 z.0 y.1 z.1 equal less)
            | inr (inr more) ↦ absurd (not_twice l j z.0 y.0 z.1 y.1 (sym equal) more)
          ];
      returned = returned_is_in;
      run = merged_run key (stream_step whole) (end_of whole) orders bound own list_of objects
          product is (λ k. (are k).run);
      precedence = λ j l a b at bt before.
          let y = was_merged j a at in
          let z = was_merged l b bt in
          keeps_precedence j l y.0 z.0 y.1 z.1
          (subst (λ (p : StreamPlace). StreamPrecedes whole y.0.1.call p.call) (sym z.2)
          (subst (λ (p : StreamPlace). StreamPrecedes whole p.call b.call) (sym y.2) before));
    },
  )

pub stream_locality : StreamLocality
stream_locality key list_of objects product whole places parts is of_keys = (
  λ (order, legal) k. order_is key k whole (places k) (parts k) (objects k) (of_keys k)
      (filter (λ place. nat_eq (key (stream_step whole place).0) k) order)
      (order_of_key key list_of objects product k whole order is legal),
  λ legal. merged_is_legal key whole objects
      (λ k. map (λ place. record { call = get_or (places k) place.call 0; reply = place.reply })
      (legal k).0)
      (λ k. order_was key k whole (places k) (parts k) (objects k) (of_keys k) (legal k).0
      (legal k).1) list_of product is,
)
