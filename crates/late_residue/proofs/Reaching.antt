-- Open calls that are placed lead from the residue into it.
use Rattle.std.proofs.Common.{◌≡◌, ℕ, ◌∙◌, List, ◌∷◌, ◌++◌, refl, sym, ap, subst, inl, inr, slice_get}
use Rattle.book_base.specs.SeqSpec.{SeqSpec}
use Rattle.streams.specs.Stream.{StreamEvent}
use Rattle.streams.specs.StreamOrder.{StreamPlace, word_of_event}
use Rattle.residue_laws.specs.Residue.{Configuration, IsInResidue}
use Rattle.residue_laws.specs.Step.{AreAlike, MayPlace, with_place, ArePlaced}
use Rattle.residue_laws.proofs.Placing.{among-cons, among-first, among-later, follow_on, reaches_on}
use Rattle.residue_laws.proofs.Events.{reaches-alike, alike_itself}
use Rattle.residue_laws.proofs.Stepping.{residues_are_closed}
use Rattle.late_residue.specs.declared.open_call.OpenCall.{OpenCall}
use Rattle.late_residue.specs.Description.{Description}
use Rattle.late_residue.specs.Reached.{Has}
use Rattle.late_residue.specs.Known.{MayHaveReply}
use Rattle.late_residue.specs.Placing.{AreOf, IsPlacedAt, Overwrites, IsPlacedOn, IsAllowed, IsSound, IsReachedBy, with_call}
use Rattle.late_residue.specs.LateOnes.{AreOpen}
use Rattle.late_residue.proofs.Alike.{alike-on, alike-cons}
use Rattle.late_residue.proofs.Meanings.{names, others_of, allowed_sound, placed_from, placed_last, placed_lacks, placed_once}
use Rattle.late_residue.proofs.KnownReplies.{known-placed}

-- a configuration that is alike to one of the residue is in it
pub residue-alike : (spec : SeqSpec) (stream : List StreamEvent) (at other : Configuration)
    → AreAlike at other → IsInResidue spec stream at → IsInResidue spec stream other
residue-alike spec stream at other alike (order, reaches) =
    (order, reaches-alike spec stream order at other alike reaches)

-- placed calls lead from the residue into it
pub residue_on : (spec : SeqSpec) (stream : List StreamEvent) (from at : Configuration)
    (rest : List StreamPlace) → IsInResidue spec stream from
    → ArePlaced spec.next stream from rest at → IsInResidue spec stream at
residue_on spec stream from at rest (order, reaches) placed = (
  order ++ rest,
  reaches_on spec stream order rest from at reaches
      (follow_on spec.next stream from at rest placed),
)

module _ (spec : SeqSpec) (stream : List StreamEvent) (calls : List OpenCall)
    (are : AreOpen stream calls) where
  -- the word of an open call is that of its event
  pub op_of : (one : OpenCall) → Has calls one → word_of_event (slice_get stream one.call) ≡ one.op
  op_of one has = ap word_of_event (are.called one has)

  -- the place of an open call at a configuration
  abbrev place_at : Configuration → OpenCall → StreamPlace
  place_at at one = record { call = one.call; reply = (spec.next at.list one.op).1 }

  may_place : (at : Configuration) (one : OpenCall) → Has calls one
      → (IsPlacedAt at one.call → ⊥) → MayPlace spec.next stream at (place_at at one)
  may_place at one has lacks = record {
    call = (one.process, one.op, are.called one has);
    pending = are.pending one has;
    unplaced = λ other among same. lacks (names at.placed other one.call same among);
    reply = ap (λ (w : ℕ). (spec.next at.list w).1) (op_of one has);
  }

  -- an open call that is placed leads from the residue into it
  pub placed_is_reached : (at after : Configuration) (one : OpenCall) → Has calls one
      → (IsPlacedAt at one.call → ⊥) → AreAlike (with_call spec.next at one) after
      → IsInResidue spec stream at → IsInResidue spec stream after
  placed_is_reached at after one has lacks alike residue =
      let step = residues_are_closed spec stream at (place_at at one) residue
      (may_place at one has lacks) in
      let lists : (spec.next at.list (word_of_event (slice_get stream one.call))).0
      ≡ (spec.next at.list one.op).0 =
      ap (λ (w : ℕ). (spec.next at.list w).0) (op_of one has) in
      residue-alike spec stream (with_place spec.next stream at (place_at at one)) after
      (alike-on (with_place spec.next stream at (place_at at one)) (with_call spec.next at one) after
      (alike-cons at at (place_at at one) (place_at at one) _ _ (alike_itself at) refl lists)
      alike) step

  -- what is reached by a call that is placed last is reached
  pub last_is_reached : (one : OpenCall) → Has calls one → (at : Configuration)
      → IsReachedBy spec stream one at → IsInResidue spec stream at
  last_is_reached one has at (start, residue, lacks, alike) =
      placed_is_reached start at one has lacks alike residue

  -- a description is sound after an open call is placed last
  pub placed_sound : (from after : Description) (call : OpenCall) → Has calls call
      → IsPlacedOn spec.next from call after → (AreOf from.placed call.call → ⊥)
      → MayHaveReply call (spec.next from.list call.op).1
      → IsSound (IsInResidue spec stream) calls from
      → IsSound (IsReachedBy spec stream call) calls after
  placed_sound from after call has on lacks may sound = record {
    each = λ at means.
        let meant = placed_from spec.next from after call on lacks at means in (
          record { placed = others_of call.call at.placed; list = from.list },
          sound.each _ meant,
          placed_lacks spec.next from after call on lacks at,
          placed_last spec.next from after call on lacks at means,
        );
    agree = λ p is. elim is [
      | inl placed ↦ elim ((on.placed p).0 placed) [
        | inl equal ↦ subst (λ (q : StreamPlace). (one : OpenCall) → Has calls one
            → one.call ≡ q.call → MayHaveReply one q.reply) equal
            (known-placed stream calls are call (spec.next from.list call.op).1 has may)
        | inr old ↦ sound.agree p (inl old)
      ]
      | inr optional ↦ sound.agree p (inr ((on.optional p).0 optional).0)
    ];
    once = placed_once spec.next from after call on lacks sound.once;
  }

  -- a call that may be placed last and leaves the list may be optional
  pub settled_sound : (one after : Description) (call : OpenCall) (reply : ℕ) → Has calls call
      → IsAllowed (record { call = call.call; reply = reply }) one after
      → (AreOf one.placed call.call → ⊥) → reply ≡ (spec.next one.list call.op).1
      → (spec.next one.list call.op).0 ≡ one.list → MayHaveReply call reply
      → IsSound (IsInResidue spec stream) calls one
      → IsSound (IsInResidue spec stream) calls after
  settled_sound one after call reply has allowed lacks replies stays may sound =
      allowed_sound one after (record { call = call.call; reply = reply }) allowed lacks
      (IsInResidue spec stream) calls
      (λ start at residue list apart alike.
      let same : place_at start call ≡ record { call = call.call; reply = reply } =
      ap (λ (l : List ℕ). place_at (record { placed = start.placed; list = l }) call) list
      ∙ ap (λ (r : ℕ). record { call = call.call; reply = r }) (sym replies) in
      let lists : (spec.next start.list call.op).0 ≡ start.list =
      ap (λ (l : List ℕ). (spec.next l call.op).0) list ∙ (stays ∙ sym list) in
      placed_is_reached start at call has apart
      (alike-on (with_call spec.next start call)
      (record { placed = record { call = call.call; reply = reply } ∷ start.placed; list = start.list })
      at (alike-cons start start (place_at start call) (record { call = call.call; reply = reply })
      _ _ (alike_itself start) same lists) alike) residue)
      (known-placed stream calls are call reply has may) sound

  -- where two calls overwrite, one may be placed just before the other one
  hidden_step : (last call : OpenCall) (reply : ℕ) → Has calls call → Overwrites spec.next last.op
      → (call.call ≡ last.call → ⊥) → ((list : List ℕ) → reply ≡ (spec.next list call.op).1)
      → (start at : Configuration) → IsReachedBy spec stream last start
      → (IsPlacedAt start call.call → ⊥)
      → AreAlike (record {
        placed = record { call = call.call; reply = reply } ∷ start.placed;
        list = start.list;
      }) at → IsReachedBy spec stream last at
  hidden_step last call reply has overwrites apart replies start at
      (first, residue, lacks, alike) free same =
      let place : StreamPlace = record { call = call.call; reply = reply } in
      let ahead : IsPlacedAt first call.call → ⊥ = λ (is : IsPlacedAt first call.call).
      free (is.0, (alike.0 _).0 (among-later (place_at first last) first.placed _ is.1)) in
      let middle = with_call spec.next first call in
      let given : place_at first call ≡ place =
      ap (λ (r : ℕ). record { call = call.call; reply = r }) (sym (replies first.list)) in
      let it : place_at middle last ≡ place_at first last =
      ap (λ (n : List ℕ × ℕ). record { call = last.call; reply = n.1 })
      (overwrites middle.list first.list) in
      let lists : (spec.next middle.list last.op).0 ≡ (spec.next first.list last.op).0 =
      ap (λ (n : List ℕ × ℕ). n.0) (overwrites middle.list first.list) in (
        middle,
        placed_is_reached first middle call has ahead (alike_itself middle) residue,
        λ (reply_there, among). elim (among-cons (place_at first call) first.placed _ among) [
          | inl is ↦ apart (ap (λ (p : StreamPlace). p.call) is)
          | inr old ↦ lacks (reply_there, old)
        ],
        (
          λ p. (
            λ among. (same.0 p).0
                (elim (among-cons (place_at middle last) middle.placed p among) [
                  | inl is ↦ among-later place start.placed p
                      ((alike.0 p).0 (among-first (place_at first last) first.placed p (sym it ∙ is)))
                  | inr old ↦ elim (among-cons (place_at first call) first.placed p old) [
                    | inl is ↦ among-first place start.placed p (sym given ∙ is)
                    | inr early ↦ among-later place start.placed p
                        ((alike.0 p).0 (among-later (place_at first last) first.placed p early))
                  ]
                ]),
            λ among. elim (among-cons place start.placed p ((same.0 p).1 among)) [
              | inl is ↦ among-later (place_at middle last) middle.placed p
                  (among-first (place_at first call) first.placed p (given ∙ is))
              | inr old ↦ elim (among-cons (place_at first last) first.placed p
                  ((alike.0 p).1 old)) [
                    | inl is ↦ among-first (place_at middle last) middle.placed p (it ∙ is)
                    | inr early ↦ among-later (place_at middle last) middle.placed p
                        (among-later (place_at first call) first.placed p early)
                  ]
            ],
          ),
          lists ∙ (alike.1 ∙ same.1),
        ),
      )

  pub hidden_sound : (last call : OpenCall) (one after : Description) (reply : ℕ) (list : List ℕ)
      → Has calls call → Overwrites spec.next last.op → Overwrites spec.next call.op
      → (call.call ≡ last.call → ⊥)
      → IsAllowed (record { call = call.call; reply = reply }) one after
      → (AreOf one.placed call.call → ⊥) → reply ≡ (spec.next list call.op).1
      → MayHaveReply call reply → IsSound (IsReachedBy spec stream last) calls one
      → IsSound (IsReachedBy spec stream last) calls after
  hidden_sound last call one after reply list has overwrites also apart allowed lacks replies may
      sound =
      allowed_sound one after (record { call = call.call; reply = reply }) allowed lacks
      (IsReachedBy spec stream last) calls
      (λ start at reached lists free alike. hidden_step last call reply has overwrites apart
      (λ other. replies ∙ ap (λ (n : List ℕ × ℕ). n.1) (also list other)) start at reached free alike)
      (known-placed stream calls are call reply has may) sound
