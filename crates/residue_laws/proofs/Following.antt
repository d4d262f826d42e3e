-- The rest of an order follows on its front; and what a return changes.
use Rattle.std.proofs.Common.{◌≡◌, ℕ, ◌<◌, ◌∙◌, List, [], ◌∷◌, ◌++◌, length, map, sym, ap, subst, inl, inr, arith}
use Rattle.book_base.specs.SeqSpec.{SeqSpec}
use Rattle.book_base.specs.Sequential.{IsRunFrom}
use Rattle.book_base.specs.Reaching.{list_after_run}
use Rattle.streams.specs.Stream.{StreamEvent, Called, Returned, Returns, IsWaiting}
use Rattle.streams.specs.StreamOrder.{StreamPlace, stream_step, IsAmong, IsLegalStreamOrder}
use Rattle.streams.proofs.Returning.{get-longer, returns-longer, call_within}
use Rattle.residue_laws.specs.Residue.{Configuration, StreamReaches}
use Rattle.residue_laws.specs.Step.{IsWithout}
use Rattle.residue_laws.specs.Late.{EndsInAReturn}
use Rattle.residue_laws.proofs.Appending.{after-both, map-both, AreCalls, steps-longer, among-left, among-right, among-cases}
use Rattle.residue_laws.proofs.Fronts.{ArePending, front_of, reaches_somewhere, front_is_legal, rest_continues}
use Rattle.streams.proofs.Pushing.{NoneReturns, old_call, returns_now, no_other_returns, not_before}
use Rattle.residue_laws.proofs.Placing.{FollowOn}

module _ (spec : SeqSpec) (stream later : List StreamEvent)
    (none : NoneReturns stream later) where
  -- the rest of an order follows on the configuration to which its front comes
  pub follows_front : (front rest : List StreamPlace) (at after : Configuration)
      → StreamReaches spec (stream ++ later) (front ++ rest) after
      → StreamReaches spec stream front at
      → ArePending stream rest → FollowOn spec.next (stream ++ later) at rest after
  follows_front front rest at after whole reaches pending_rest =
      let continues =
      rest_continues spec stream later front rest at whole.legal reaches pending_rest in
      let step = stream_step (stream ++ later) in
      let steps : map step front ≡ map (stream_step stream) front =
      steps-longer stream later front reaches.legal.calls in
      let list : list_after_run spec.next spec.init (map step front) ≡ at.list =
      ap (λ (s : List (ℕ × ℕ)). list_after_run spec.next spec.init s) steps ∙ reaches.list in
      record {
        calls = continues.calls;
        pending = λ place among (end, reply, returns).
            pending_rest place among (end, reply, none place.call end reply returns);
        unplaced = continues.unplaced;
        once = continues.once;
        run = continues.run;
        placed = λ place. (
          λ among. let is = (whole.placed place).0 among in
              elim (among-cases front rest place is.0) [
                | inl left ↦ inl ((reaches.placed place).1 (
                  left,
                  λ (end, reply, returns).
                      is.1 (end, reply, returns-longer stream later place.call end reply returns),
                ))
                | inr right ↦ inr right
              ],
          λ either. (whole.placed place).1 (elim either [
            | inl old ↦ let is = (reaches.placed place).0 old in (
              among-left front rest place is.0,
              λ (end, reply, returns). is.1 (end, reply, none place.call end reply returns),
            )
            | inr right ↦ (
              among-right front rest place right,
              λ (end, reply, returns).
                  pending_rest place right (end, reply, none place.call end reply returns),
            )
          ]),
        );
        list = ap (λ (l : List ℕ). list_after_run spec.next l (map step rest)) (sym list)
            ∙ (sym (after-both spec.next spec.init (map step front) (map step rest))
            ∙ (ap (λ (s : List (ℕ × ℕ)). list_after_run spec.next spec.init s)
            (sym (map-both step front rest)) ∙ whole.list));
      }

  -- an order is a front that comes to some configuration, and places that follow on it
  pub cut_order : (order : List StreamPlace) (after : Configuration)
      → StreamReaches spec (stream ++ later) order after
      → (at : Configuration) × ((front : List StreamPlace) × StreamReaches spec stream front at
      × EndsInAReturn stream front)
      × ((rest : List StreamPlace) × FollowOn spec.next (stream ++ later) at rest after)
  cut_order order after reaches =
      let cut = front_of stream order in
      let joined : StreamReaches spec (stream ++ later) (cut.0 ++ cut.1) after =
      subst (λ (o : List StreamPlace). StreamReaches spec (stream ++ later) o after)
      cut.2 reaches in
      let front = front_is_legal spec stream later cut.0 cut.1 joined.legal cut.3 cut.4 in
      let at = reaches_somewhere spec stream cut.0 front in (
        at.0,
        (cut.0, at.1, cut.3),
        (cut.1, follows_front cut.0 cut.1 at.0 after joined at.1 cut.4),
      )

module _ (spec : SeqSpec) (stream : List StreamEvent) (process call reply : ℕ)
    (waits : IsWaiting stream process call) (order : List StreamPlace) (after : Configuration) where
  abbrev whole : List StreamEvent
  whole = stream ++ Returned process reply ∷ []

  old-calls : StreamReaches spec whole order after → AreCalls stream order
  old-calls reaches place among = old_call stream (Returned process reply)
      (λ p o (e : Called p o ≡ Returned process reply). cc) place.call
      (reaches.legal.calls place among)

  shorter_is_legal : StreamReaches spec whole order after → IsLegalStreamOrder spec stream order
  shorter_is_legal reaches = record {
    calls = old-calls reaches;
    once = reaches.legal.once;
    returned = λ c end last returns. reaches.legal.returned c end last
        (returns-longer stream (Returned process reply ∷ []) c end last returns);
    run = subst (λ (s : List (ℕ × ℕ)). IsRunFrom spec.next spec.init s)
        (steps-longer stream (Returned process reply ∷ []) order (old-calls reaches))
        reaches.legal.run;
    precedence = λ j k a b first second (end, last, returns, before).
        reaches.legal.precedence j k a b first second (
          end,
          last,
          returns-longer stream (Returned process reply ∷ []) a.call end last returns,
          before,
        );
  }

  -- before a return, the call that returns is placed with its reply
  pub before_return : StreamReaches spec whole order after
      → (at : Configuration) × StreamReaches spec stream order at
      × IsAmong at.placed (record { call = call; reply = reply }) × IsWithout call at after
  before_return reaches =
      let found = reaches_somewhere spec stream order (shorter_is_legal reaches) in
      let at = found.0 in
      let now = returns_now stream process call reply waits in (
        at,
        found.1,
        (found.1.placed (record { call = call; reply = reply })).1 (
          reaches.legal.returned call (length stream) reply now,
          not_before stream process call reply waits,
        ),
        (
          λ place. (
            λ among. let is = (reaches.placed place).0 among in (
              (found.1.placed place).1 (
                is.0,
                λ (end, last, returns). is.1 (
                  end,
                  last,
                  returns-longer stream (Returned process reply ∷ []) place.call end last returns,
                ),
              ),
              λ same. is.1 (
                length stream,
                reply,
                subst (λ (c : ℕ). Returns whole c (length stream) reply) (sym same) now,
              ),
            ),
            λ (among, apart). let is = (found.1.placed place).0 among in
                (reaches.placed place).1 (
                  is.0,
                  λ (end, last, returns).
                      elim (no_other_returns stream process call reply waits place.call end last
                      returns) [
                        | inl old ↦ is.1 (end, last, old)
                        | inr new ↦ apart new.0
                      ],
                ),
          ),
          sym found.1.list
              ∙ (ap (λ (s : List (ℕ × ℕ)). list_after_run spec.next spec.init s)
              (sym (steps-longer stream (Returned process reply ∷ []) order (old-calls reaches)))
              ∙ reaches.list),
        ),
      )

  -- where the call that returns is placed with its reply, the order stays legal
  pub after_return : (at : Configuration) → StreamReaches spec stream order at
      → IsAmong at.placed (record { call = call; reply = reply }) → IsWithout call at after
      → StreamReaches spec whole order after
  after_return at reaches placed (without, list) =
      let now = returns_now stream process call reply waits in
      let returns = no_other_returns stream process call reply waits in record {
        legal = record {
          calls = λ place among. let is = reaches.legal.calls place among in (
            is.0,
            is.1,
            get-longer stream (Returned process reply ∷ []) place.call
                (Called is.0 is.1) is.2,
          );
          once = reaches.legal.once;
          returned = λ c end last h. elim (returns c end last h) [
            | inl old ↦ reaches.legal.returned c end last old
            | inr (same, equal, here) ↦
                subst (λ (r : ℕ). IsAmong order (record { call = c; reply = r }))
                (sym equal) (subst (λ (n : ℕ). IsAmong order (record { call = n; reply = reply }))
                (sym same) ((reaches.placed (record { call = call; reply = reply })).0 placed).0)
          ];
          run = subst (λ (s : List (ℕ × ℕ)). IsRunFrom spec.next spec.init s)
              (sym (steps-longer stream (Returned process reply ∷ []) order reaches.legal.calls))
              reaches.legal.run;
          precedence = λ j k a b first second (end, last, h, before).
              elim (returns a.call end last h) [
                | inl old ↦ reaches.legal.precedence j k a b first second (end, last, old, before)
                | inr (same, equal, here) ↦
                    let low : b.call < length stream =
                    call_within stream b.call (reaches.legal.calls b (k, second)) in
                    absurd (omega arith)
              ];
        };
        placed = λ place. (
          λ among. let is = (without place).0 among in
              let was = (reaches.placed place).0 is.0 in (
                was.0,
                λ (end, last, h).
                    elim (returns place.call end last h) [
                      | inl old ↦ was.1 (end, last, old)
                      | inr (same, equal, here) ↦ is.1 same
                    ],
              ),
          λ (among, not). (without place).1 (
            (reaches.placed place).1 (
              among,
              λ (end, last, h). not (
                end,
                last,
                returns-longer stream (Returned process reply ∷ []) place.call end last h,
              ),
            ),
            λ same. not (
              length stream,
              reply,
              subst (λ (c : ℕ). Returns whole c (length stream) reply) (sym same) now,
            ),
          ),
        );
        list = ap (λ (s : List (ℕ × ℕ)). list_after_run spec.next spec.init s)
            (steps-longer stream (Returned process reply ∷ []) order reaches.legal.calls)
            ∙ (reaches.list ∙ list);
      }
