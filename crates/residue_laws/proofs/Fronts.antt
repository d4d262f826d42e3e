-- Orders of a stream that goes on: a front, up to the last call that has returned so far, and the
-- rest.
use Rattle.std.proofs.Common.{◌≡◌, ℕ, zero, suc, ◌+◌, ◌<◌, ◌∙◌, List, [], ◌∷◌, ◌++◌, length, map, Some, refl, sym, ap, subst, inl, inr, slice_get, arith, length-append}
use Rattle.std.specs.Prelude.{◌↔◌}
use Rattle.std.proofs.lemmas.Bool.{cases_lt}
use Rattle.std.proofs.lemmas.Option.{same_Some, none-some, slice_get_within}
use Rattle.book_base.specs.SeqSpec.{SeqSpec}
use Rattle.book_base.specs.Sequential.{IsRunFrom}
use Rattle.book_base.specs.Reaching.{list_after_run}
use Rattle.streams.specs.Stream.{StreamEvent, Called, HasReturned}
use Rattle.streams.specs.StreamOrder.{StreamPlace, stream_step, IsAmong, IsLegalStreamOrder}
use Rattle.streams.proofs.Returning.{get-longer, get-shorter, returns_once, returns-longer, returns-shorter, cases_returned}
use Rattle.residue_laws.specs.Residue.{Configuration, StreamReaches}
use Rattle.residue_laws.specs.Continuation.{IsContinuation}
use Rattle.residue_laws.specs.Late.{EndsInAReturn}
use Rattle.residue_laws.proofs.Appending.{get-right, run-first, run-second, map-both, AreCalls, steps-longer, among-left, among-right, among-cases}

-- none of the places has returned in a stream
abbrev pub ArePending : List StreamEvent → List StreamPlace → Type 0
ArePending stream places = (place : StreamPlace) → IsAmong places place
    → HasReturned stream place.call → ⊥

-- An order is cut after the last of its calls that returns in a stream.
abbrev pub HasFront : List StreamEvent → List StreamPlace → Type 0
HasFront stream order = (front : List StreamPlace) × (rest : List StreamPlace)
    × (order ≡ front ++ rest) × EndsInAReturn stream front × ArePending stream rest

are_pending-cons : (stream : List StreamEvent) (place : StreamPlace) (rest : List StreamPlace)
    → (HasReturned stream place.call → ⊥) → ArePending stream rest
    → ArePending stream (place ∷ rest)
are_pending-cons stream place rest first later p (zero, at) returned =
    first (subst (λ (q : StreamPlace). HasReturned stream q.call) (sym (same_Some place p at))
    returned)
are_pending-cons stream place rest first later p (suc k, at) returned = later p (k, at) returned

front-cons : (stream : List StreamEvent) (place : StreamPlace) (order front rest : List StreamPlace)
    → order ≡ front ++ rest → EndsInAReturn stream front → ArePending stream rest
    → HasFront stream (place ∷ order)
front-cons stream place order front rest e (inl none) pending_rest =
    elim (cases_returned stream place.call) [
      | inl returned ↦ (
        place ∷ [],
        rest,
        ap (λ (ps : List StreamPlace). place ∷ ps)
            (e ∙ ap (λ (f : List StreamPlace). f ++ rest) none),
        inr ([], place, refl, returned),
        pending_rest,
      )
      | inr not ↦ (
        [],
        place ∷ rest,
        ap (λ (ps : List StreamPlace). place ∷ ps)
            (e ∙ ap (λ (f : List StreamPlace). f ++ rest) none),
        inl refl,
        are_pending-cons stream place rest not pending_rest,
      )
    ]
front-cons stream place order front rest e (inr (f, last, is, returned)) pending_rest = (
  place ∷ front,
  rest,
  ap (λ (ps : List StreamPlace). place ∷ ps) e,
  inr (place ∷ f, last, ap (λ (ps : List StreamPlace). place ∷ ps) is, returned),
  pending_rest,
)

pub front_of : (stream : List StreamEvent) (order : List StreamPlace) → HasFront stream order
front_of stream [] =
    ([], [], refl, inl refl, λ place (k, at) returned. none-some place at)
front_of stream (place ∷ order) = let later = front_of stream order in
    front-cons stream place order later.0 later.1 later.2 later.3 later.4

-- the pending places of an order, one place more
module _ (stream : List StreamEvent) (first : StreamPlace) (order later : List StreamPlace)
    (places : (place : StreamPlace) → (IsAmong later place
    ↔ IsAmong order place × (HasReturned stream place.call → ⊥))) where
  passed : HasReturned stream first.call → (place : StreamPlace) → IsAmong (first ∷ order) place
      → (HasReturned stream place.call → ⊥) → IsAmong later place
  passed returned place (zero, at) not = absurd (not
      (subst (λ (q : StreamPlace). HasReturned stream q.call) (same_Some first place at) returned))
  passed returned place (suc k, at) not = (places place).1 ((k, at), not)

  with_first : (HasReturned stream first.call → ⊥) → (place : StreamPlace)
      → IsAmong (first ∷ later) place
      → IsAmong (first ∷ order) place × (HasReturned stream place.call → ⊥)
  with_first not place (zero, at) = (
    (0, at),
    subst (λ (q : StreamPlace). HasReturned stream q.call → ⊥) (same_Some first place at) not,
  )
  with_first not place (suc k, at) =
      let is = (places place).0 (k, at) in ((suc is.0.0, is.0.1), is.1)

  with_rest : (place : StreamPlace) → IsAmong (first ∷ order) place
      → (HasReturned stream place.call → ⊥) → IsAmong (first ∷ later) place
  with_rest place (zero, at) not = (0, at)
  with_rest place (suc k, at) not =
      let found = (places place).1 ((k, at), not) in (suc found.0, found.1)

-- the places of an order whose calls don't return in a stream
pub pending_places : (stream : List StreamEvent) (order : List StreamPlace)
    → (placed : List StreamPlace) × ((place : StreamPlace) → (IsAmong placed place
    ↔ IsAmong order place × (HasReturned stream place.call → ⊥)))
pending_places stream [] = (
  [],
  λ place. (λ (k, at). absurd (none-some place at), λ ((k, at), not). absurd (none-some place at)),
)
pending_places stream (first ∷ order) =
    let later = pending_places stream order in
    elim (cases_returned stream first.call) [
      | inl returned ↦ (
        later.0,
        λ place. (
          λ among. let is = (later.1 place).0 among in ((suc is.0.0, is.0.1), is.1),
          λ (among, not). passed stream first order later.0 later.1 returned place among not,
        ),
      )
      | inr not ↦ (
        first ∷ later.0,
        λ place. (
          λ among. with_first stream first order later.0 later.1 not place among,
          λ (among, pending). with_rest stream first order later.0 later.1 place among pending,
        ),
      )
    ]

-- A legal order comes to a configuration.
pub reaches_somewhere : (spec : SeqSpec) (stream : List StreamEvent) (order : List StreamPlace)
    → IsLegalStreamOrder spec stream order
    → (at : Configuration) × StreamReaches spec stream order at
reaches_somewhere spec stream order legal = let placed = pending_places stream order in (
  record {
    placed = placed.0;
    list = list_after_run spec.next spec.init (map (stream_step stream) order);
  },
  record { legal = legal; placed = placed.1; list = refl },
)

module _ (spec : SeqSpec) (stream later : List StreamEvent) where
  -- the calls of a front are calls of the shorter stream
  pub front-calls : (front rest : List StreamPlace)
      → IsLegalStreamOrder spec (stream ++ later) (front ++ rest) → EndsInAReturn stream front
      → AreCalls stream front
  front-calls front rest legal (inl none) place (k, at) = absurd (none-some place
      (subst (λ (f : List StreamPlace). slice_get f k ≡ Some place) none at))
  front-calls front rest legal (inr (f, last, is, (end, reply, returns))) place (k, at) =
      let called = legal.calls place (among-left front rest place (k, at)) in
      elim (cases_lt place.call (length stream)) [
        | inl low ↦ (
          called.0,
          called.1,
          get-shorter stream later place.call (Called called.0 called.1) low called.2,
        )
        | inr past ↦
            let within : end < length stream = slice_get_within stream end _ returns.returned in
            let there : slice_get (f ++ last ∷ []) (length f + 0) ≡ Some last =
            get-right f (last ∷ []) 0 last refl in
            let here : slice_get front (length f + 0) ≡ Some last =
            subst (λ (g : List StreamPlace). slice_get g (length f + 0) ≡ Some last) (sym is) there
            in
            let before : length f + 0 < k = legal.precedence (length f + 0) k last place
            (get-longer front rest (length f + 0) last here) (get-longer front rest k place at)
            (end, reply, returns-longer stream later last.call end reply returns, omega arith) in
            let long : length front ≡ length f + 1 = ap length is ∙ length-append f (last ∷ []) in
            absurd (omega (arith, slice_get_within front k place at))
      ]

  -- the front is a legal order of the shorter stream
  pub front_is_legal : (front rest : List StreamPlace)
      → IsLegalStreamOrder spec (stream ++ later) (front ++ rest) → EndsInAReturn stream front
      → ArePending stream rest → IsLegalStreamOrder spec stream front
  front_is_legal front rest legal ends pending_rest =
      let calls : AreCalls stream front = front-calls front rest legal ends in
      record {
        calls = calls;
        once = λ j k a b first second same. legal.once j k a b (get-longer front rest j a first)
            (get-longer front rest k b second) same;
        returned = λ call end reply returns.
            let place : StreamPlace = record { call = call; reply = reply } in
            elim (among-cases front rest place (legal.returned call end reply
            (returns-longer stream later call end reply returns))) [
              | inl left ↦ left
              | inr right ↦ absurd (pending_rest place right (end, reply, returns))
            ];
        run = subst (λ (steps : List (ℕ × ℕ)). IsRunFrom spec.next spec.init steps)
            (steps-longer stream later front calls)
            (run-first spec.next spec.init (map (stream_step (stream ++ later)) front)
            (map (stream_step (stream ++ later)) rest)
            (subst (λ (steps : List (ℕ × ℕ)). IsRunFrom spec.next spec.init steps)
            (map-both (stream_step (stream ++ later)) front rest) legal.run));
        precedence = λ j k a b first second (end, reply, returns, before).
            legal.precedence j k a b (get-longer front rest j a first)
            (get-longer front rest k b second)
            (end, reply, returns-longer stream later a.call end reply returns, before);
      }

  -- the rest is a legal continuation from where the front comes to
  pub rest_continues : (front rest : List StreamPlace) (at : Configuration)
      → IsLegalStreamOrder spec (stream ++ later) (front ++ rest)
      → StreamReaches spec stream front at
      → ArePending stream rest → IsContinuation spec.next stream later at rest
  rest_continues front rest at legal reaches pending_rest = record {
    calls = λ place among. legal.calls place (among-right front rest place among);
    pending = λ place among end reply returns. elim (cases_lt end (length stream)) [
      | inl low ↦ absurd (pending_rest place among (
        end,
        reply,
        returns-shorter stream later place.call end reply low returns,
      ))
      | inr past ↦ past
    ];
    unplaced = λ place other (k, here) placed same.
        let among = ((reaches.placed other).0 placed).0 in
        let equal : among.0 ≡ length front + k = legal.once among.0 (length front + k) other place
        (get-longer front rest among.0 other among.1) (get-right front rest k place here) same in
        omega (arith, slice_get_within front among.0 other among.1);
    once = λ j k a b first second same.
        let equal : length front + j ≡ length front + k =
        legal.once (length front + j) (length front + k) a b (get-right front rest j a first)
        (get-right front rest k b second) same in
        omega arith;
    returned = λ call end reply returns past.
        let place : StreamPlace = record { call = call; reply = reply } in
        elim (among-cases front rest place (legal.returned call end reply returns)) [
          | inl left ↦ inl ((reaches.placed place).1 (
            left,
            λ (e, r, before).
                let same = returns_once (stream ++ later) call e r end reply
                (returns-longer stream later call e r before) returns in
                absurd (omega (arith, same.0, slice_get_within stream e _ before.returned)),
          ))
          | inr right ↦ inr right
        ];
    run =
        let steps : map (stream_step (stream ++ later)) front ≡ map (stream_step stream) front =
        steps-longer stream later front reaches.legal.calls in
        let run = run-second spec.next spec.init (map (stream_step (stream ++ later)) front)
        (map (stream_step (stream ++ later)) rest)
        (subst (λ (steps : List (ℕ × ℕ)). IsRunFrom spec.next spec.init steps)
        (map-both (stream_step (stream ++ later)) front rest) legal.run) in
        subst (λ (list : List ℕ). IsRunFrom spec.next list
        (map (stream_step (stream ++ later)) rest))
        (ap (λ (s : List (ℕ × ℕ)). list_after_run spec.next spec.init s) steps ∙ reaches.list) run;
    precedence = λ j k a b first second before.
        let less : length front + j < length front + k =
        legal.precedence (length front + j) (length front + k) a b (get-right front rest j a first)
        (get-right front rest k b second) before in
        omega arith;
  }
