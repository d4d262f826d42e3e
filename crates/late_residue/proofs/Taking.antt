-- What a return makes of a late residue.
use Rattle.std.proofs.Common.{◌≡◌, ◌≢◌, ◌⊎◌, ℕ, Bool, ◌∙◌, List, [], ◌∷◌, ◌++◌, length, refl, sym, ap, subst, inl, inr, slice_get}
use Rattle.std.proofs.lemmas.Bool.{cases_eq, cases_order}
use Rattle.std.proofs.lemmas.Option.{slice_get_within}
use Rattle.book_base.specs.Reaching.{Leaves}
use Rattle.book_base.specs.SeqSpec.{SeqSpec}
use Rattle.streams.specs.Stream.{StreamEvent, Called, Returned, IsWaiting, IsValidStream}
use Rattle.streams.specs.StreamOrder.{StreamPlace, word_of_event, IsAmong}
use Rattle.streams.proofs.Returning.{get-longer}
use Rattle.streams.proofs.Pushing.{no_other_returns}
use Rattle.residue_laws.specs.Residue.{Configuration, IsInResidue}
use Rattle.residue_laws.specs.Step.{MayPlace, with_place, ArePlaced, IsWithout}
use Rattle.residue_laws.proofs.Appending.{word-longer}
use Rattle.residue_laws.proofs.Placing.{among-cons, among-first, among-later, follow_on}
use Rattle.residue_laws.proofs.Stepping.{residues_step}
use Rattle.late_residue.specs.declared.open_call.OpenCall.{OpenCall}
use Rattle.late_residue.specs.Description.{Description}
use Rattle.late_residue.specs.Reached.{Has}
use Rattle.late_residue.specs.Known.{MayHaveReply, AgreesWithKnown}
use Rattle.late_residue.specs.Meaning.{AreOnce, Means, AreMeant}
use Rattle.late_residue.specs.Placing.{AreOf, IsPlacedAt, with_call, MayBePlaced, IsHandled, IsTaken, Hides, LeadsOn}
use Rattle.late_residue.specs.LateOnes.{AreOpen, AreLedTo, AreLate, AreAdded}
use Rattle.late_residue.proofs.Items.{has-none}
use Rattle.late_residue.proofs.Meanings.{same_place, names, of_or_not, others_of, others_are, sound_for}
use Rattle.late_residue.proofs.KnownReplies.{once_in_residue, agree-without}
use Rattle.late_residue.proofs.Reaching.{op_of}

-- a process waits for one call
pub one_waits : (stream : List StreamEvent) (process a b : ℕ) → IsWaiting stream process a
    → IsWaiting stream process b → a ≡ b
one_waits stream process a b first second = elim (cases_order a b) [
  | inl same ↦ same
  | inr (inl less) ↦ absurd (first.2 b (Called process second.0) less
      (slice_get_within stream b _ second.1) second.1 refl)
  | inr (inr more) ↦ absurd (second.2 a (Called process first.0) more
      (slice_get_within stream a _ first.1) first.1 refl)
]

module _ (spec : SeqSpec) (stream : List StreamEvent) (calls : List OpenCall)
    (are : AreOpen stream calls) (process : ℕ) (returning : OpenCall) (reply : ℕ)
    (is_open : Has calls returning) (waits : IsWaiting stream process returning.call) where
  abbrev place : StreamPlace
  place = record { call = returning.call; reply = reply }

  abbrev longer : List StreamEvent
  longer = stream ++ Returned process reply ∷ []

  -- another call than the one that returns may be placed after the return
  later_may : (from start : Configuration) (z : StreamPlace) → MayPlace spec.next stream from z
      → z.call ≢ returning.call
      → ((p : StreamPlace) → IsAmong start.placed p → IsAmong from.placed p)
      → start.list ≡ from.list → MayPlace spec.next longer start z
  later_may from start z may apart fewer list = record {
    call = (
      may.call.0,
      may.call.1,
      get-longer stream (Returned process reply ∷ []) z.call
          (Called may.call.0 may.call.1) may.call.2,
    );
    pending = λ (end, past, returns).
        elim (no_other_returns stream process returning.call reply waits z.call end past returns) [
          | inl old ↦ may.pending (end, past, old)
          | inr (same, equal, here) ↦ apart same
        ];
    unplaced = λ other among same. may.unplaced other (fewer other among) same;
    reply = ap (λ (l : List ℕ). (spec.next l (word_of_event (slice_get longer z.call))).1) list
        ∙ (ap (λ (w : ℕ). (spec.next from.list w).1)
        (word-longer stream (Returned process reply ∷ []) z.call may.call) ∙ may.reply);
  }

  list_later : (from start : Configuration) (z : StreamPlace) → MayPlace spec.next stream from z
      → start.list ≡ from.list
      → (with_place spec.next stream from z).list ≡ (with_place spec.next longer start z).list
  list_later from start z may list =
      ap (λ (w : ℕ). (spec.next from.list w).0)
      (sym (word-longer stream (Returned process reply ∷ []) z.call may.call))
      ∙ ap (λ (l : List ℕ). (spec.next l (word_of_event (slice_get longer z.call))).0) (sym list)

  -- where the call that returns is placed, the others may be placed after the return as before it
  removed : (from start at after : Configuration) (rest : List StreamPlace)
      → AreOf from.placed returning.call → IsWithout returning.call from start
      → ArePlaced spec.next stream from rest at → IsWithout returning.call at after
      → ArePlaced spec.next longer start rest after
  removed from start at after [] of (lacks, same) alike (lack, equal) = (
    λ p. (
      λ among. let is = (lacks p).0 among in (lack p).1 ((alike.0 p).0 is.0, is.1),
      λ among. let is = (lack p).0 among in (lacks p).1 ((alike.0 p).1 is.0, is.1),
    ),
    sym same ∙ (alike.1 ∙ equal),
  )
  removed from start at after (z ∷ rest) (other, there) (lacks, same) (may, later) is =
      let apart : z.call ≢ returning.call = λ (e : z.call ≡ returning.call).
      may.unplaced (record { call = returning.call; reply = other }) there (sym e) in (
        later_may from start z may apart (λ p among. ((lacks p).0 among).0) (sym same),
        removed (with_place spec.next stream from z) (with_place spec.next longer start z) at after
            rest (other, among-later z from.placed _ there) (
              λ p. (
                λ among. elim (among-cons z start.placed p among) [
                  | inl first ↦ (
                    among-first z from.placed p first,
                    λ (e : p.call ≡ returning.call).
                        apart (ap (λ (q : StreamPlace). q.call) first ∙ e),
                  )
                  | inr old ↦ let kept = (lacks p).0 old in
                      (among-later z from.placed p kept.0, kept.1)
                ],
                λ (among, not). elim (among-cons z from.placed p among) [
                  | inl first ↦ among-first z start.placed p first
                  | inr old ↦ among-later z start.placed p ((lacks p).1 (old, not))
                ],
              ),
              list_later from start z may (sym same),
            ) later is,
      )

  -- where the call that returns changes no list at which it has the reply, the others may be placed
  -- without it
  leaving : (from at after : Configuration) (rest : List StreamPlace)
      → Leaves spec.next returning.op reply → (IsPlacedAt from returning.call → ⊥)
      → IsAmong at.placed place → AreOnce at.placed → ArePlaced spec.next stream from rest at
      → IsWithout returning.call at after
      → (others : List StreamPlace) × ArePlaced spec.next longer from others after
  leaving from at after [] leaves free there once alike is =
      absurd (free (reply, (alike.0 place).1 there))
  leaving from at after (z ∷ rest) leaves free there once (may, later) is =
      elim (cases_eq z.call returning.call) [
        | inl same ↦
            let in_at : IsAmong at.placed z =
            ((follow_on spec.next stream (with_place spec.next stream from z) at rest
            later).placed z).1 (inl (0, refl)) in
            let it : z ≡ place = once z place in_at there same in
            let word : word_of_event (slice_get stream z.call) ≡ returning.op =
            ap (λ (c : ℕ). word_of_event (slice_get stream c)) same
            ∙ op_of spec stream calls are returning is_open in
            let gives : (spec.next from.list returning.op).1 ≡ reply =
            sym (ap (λ (w : ℕ). (spec.next from.list w).1) word)
            ∙ (may.reply ∙ ap (λ (p : StreamPlace). p.reply) it) in
            let stays : (spec.next from.list (word_of_event (slice_get stream z.call))).0
            ≡ from.list = ap (λ (w : ℕ). (spec.next from.list w).0) word ∙ leaves from.list gives in (
              rest,
              removed (with_place spec.next stream from z) from at after rest
                  (names (z ∷ from.placed) z returning.call same (0, refl)) (
                    λ p. (
                      λ among. (
                        among-later z from.placed p among,
                        λ (e : p.call ≡ returning.call). free (names from.placed p returning.call e
                            among),
                      ),
                      λ (among, not). elim (among-cons z from.placed p among) [
                        | inl first ↦ absurd (not (sym (ap (λ (q : StreamPlace). q.call) first)
                            ∙ same))
                        | inr old ↦ old
                      ],
                    ),
                    stays,
                  ) later is,
            )
        | inr apart ↦
            let found = leaving (with_place spec.next stream from z) at after rest leaves
            (λ (other, among). elim (among-cons z from.placed _ among) [
              | inl first ↦ apart (ap (λ (q : StreamPlace). q.call) first)
              | inr old ↦ free (other, old)
            ]) there once later is in
            let same : with_place spec.next stream from z ≡ with_place spec.next longer from z =
            ap (λ (l : List ℕ). record { placed = z ∷ from.placed; list = l })
            (list_later from from z may refl) in (
              z ∷ found.0,
              (
                later_may from from z may apart (λ p among. among) refl,
                subst (λ (c : Configuration). ArePlaced spec.next longer c found.0 after) same
                    found.1,
              ),
            )
      ]

  module _ (writes : ℕ → Bool) (ones left : List Description)
      (closed : (one : Description) → Has ones one
      → LeadsOn spec.next writes calls returning reply ones left (length calls) one)
      (at after : Configuration) (once : AreOnce at.placed) (agrees : AgreesWithKnown calls at)
      (there : IsAmong at.placed place) (without : IsWithout returning.call at after) where
    follow_placed : (from : Configuration) (rest : List StreamPlace)
        → IsHandled spec.next returning reply ones left from
        → ArePlaced spec.next stream from rest at → AreOf from.placed returning.call
        → AreLedTo spec longer left after
    follow_placed from rest handled placed (other, here) =
        let in_at = ((follow_on spec.next stream from at rest placed).placed
        (record { call = returning.call; reply = other })).1 (inl here) in
        let same : record { call = returning.call; reply = other } ≡ place =
        once (record { call = returning.call; reply = other }) place in_at there refl in
        let start : Configuration =
        record { placed = others_of returning.call from.placed; list = from.list } in
        let lacks : IsWithout returning.call from start =
        (others_are returning.call from.placed, refl) in (
          start,
          handled.returned (subst (λ (p : StreamPlace). IsAmong from.placed p) same here) start lacks,
          (rest, removed from start at after rest (other, here) lacks placed without),
        )

    -- the next call is open, and may be placed
    next_call : (from : Configuration) (z : StreamPlace) (rest : List StreamPlace)
        → MayPlace spec.next stream from z
        → ArePlaced spec.next stream (with_place spec.next stream from z) rest at
        → (call : OpenCall) × (call.call ≡ z.call) × MayBePlaced spec.next calls from call
        × (with_call spec.next from call ≡ with_place spec.next stream from z)
    next_call from z rest may later =
        let found = are.whole z.call may.call may.pending in
        let call = found.0 in
        let in_at : IsAmong at.placed z =
        ((follow_on spec.next stream (with_place spec.next stream from z) at rest
        later).placed z).1 (inl (0, refl)) in
        let word : word_of_event (slice_get stream z.call) ≡ call.op =
        ap (λ (c : ℕ). word_of_event (slice_get stream c)) (sym found.2)
        ∙ op_of spec stream calls are call found.1 in
        let gives : (spec.next from.list call.op).1 ≡ z.reply =
        sym (ap (λ (w : ℕ). (spec.next from.list w).1) word) ∙ may.reply in
        let it : record { call = call.call; reply = (spec.next from.list call.op).1 } ≡ z =
        same_place _ z found.2 gives in (
          call,
          found.2,
          record {
            is_open = found.1;
            unplaced = λ (other, among).
                may.unplaced (record { call = call.call; reply = other }) among found.2;
            reply = λ known given. gives ∙ agrees z in_at call found.1 found.2 known given;
          },
          ap (λ (p : StreamPlace). record {
            placed = p ∷ from.placed;
            list = (spec.next from.list call.op).0;
          }) it
              ∙ ap (λ (w : ℕ). record { placed = z ∷ from.placed; list = (spec.next from.list w).0 })
              (sym word),
        )

    -- a configuration that one of the descriptions hides, at which the call that returns isn't placed
    abbrev AreHiding : Configuration → Type 0
    AreHiding from = (one : Description) × Has ones one
        × Hides spec.next writes calls returning.call one from
        × (IsPlacedAt from returning.call → ⊥)

    -- where the call that returns isn't placed at a configuration that is handled or hidden, one of
    -- the descriptions means or hides it, or the call leaves each list at which it has the reply
    covered_by : (from : Configuration)
        → IsHandled spec.next returning reply ones left from ⊎ AreHiding from
        → (IsPlacedAt from returning.call → ⊥)
        → (Leaves spec.next returning.op reply × AreMeant left from)
        ⊎ ((one : Description) × Has ones one
        × (Means one from ⊎ Hides spec.next writes calls returning.call one from))
    covered_by from (inl handled) free = elim (handled.further free) [
      | inl (one, has, means) ↦ inr (one, has, inl means)
      | inr leaves ↦ inl leaves
    ]
    covered_by from (inr (one, has, hides, lacks)) free = inr (one, has, inr hides)

    -- where the call that returns is placed, the configuration is handled
    handled_of : (from : Configuration)
        → IsHandled spec.next returning reply ones left from ⊎ AreHiding from
        → AreOf from.placed returning.call → IsHandled spec.next returning reply ones left from
    handled_of from (inl handled) of = handled
    handled_of from (inr (one, has, hides, lacks)) of = absurd (lacks of)

    -- placed calls lead from a configuration that is handled or hidden to one that is left
    follow : (from : Configuration) (rest : List StreamPlace)
        → IsHandled spec.next returning reply ones left from ⊎ AreHiding from
        → ArePlaced spec.next stream from rest at → AreLedTo spec longer left after
    follow from [] case alike =
        let of : AreOf from.placed returning.call = (reply, (alike.0 place).1 there) in
        follow_placed from [] (handled_of from case of) alike of
    follow from (z ∷ rest) case (may, later) = elim (of_or_not from.placed returning.call) [
      | inl of ↦ follow_placed from (z ∷ rest) (handled_of from case of) (may, later) of
      | inr free ↦ elim (covered_by from case free) [
        | inl (leaves, meant) ↦
            (from, meant, leaving from at after (z ∷ rest) leaves free there once (may, later) without)
        | inr (one, has, covered) ↦
            let it = next_call from z rest may later in
            let next = closed one has from covered it.2.is_open.0 it.0
            (slice_get_within calls it.2.is_open.0 it.0 it.2.is_open.1) it.2.is_open.1 it.2 in
            follow (with_place spec.next stream from z) rest (elim next [
              | inl handled ↦ inl (subst (λ (c : Configuration).
                  IsHandled spec.next returning reply ones left c) it.3 handled)
              | inr (other, hides) ↦ inr (
                one,
                has,
                subst (λ (c : Configuration). Hides spec.next writes calls returning.call one c)
                    it.3 hides,
                λ (r, among). elim (among-cons z from.placed _ among) [
                  | inl is ↦ other (it.1 ∙ ap (λ (p : StreamPlace). p.call) is)
                  | inr old ↦ free (r, old)
                ],
              )
            ]) later
      ]
    ]

  pub late_after : (writes : ℕ → Bool) (answer : MayHaveReply returning reply) → IsValidStream longer
      → (old ones left : List Description) → AreLate spec stream calls old
      → AreAdded spec calls returning reply old [] [] ones left
      → ((one : Description) → Has old one → IsTaken spec.next returning reply ones left one)
      → ((one : Description) → Has ones one
      → LeadsOn spec.next writes calls returning reply ones left (length calls) one)
      → AreLate spec longer calls left
  late_after writes answer valid old ones left late added taken closed = record {
    reached = λ one has. sound_for _ (IsInResidue spec longer) calls one
        (λ after (at, residue, among, without).
        (residues_step spec stream (Returned process reply) after valid).1
        (at, residue, (returning.call, waits, among, without)))
        (added.sound stream are late.reached (λ other none. absurd (has-none other none))
        (λ other none. absurd (has-none other none)) one has);
    whole = λ after residue agrees.
        let step = (residues_step spec stream (Returned process reply) after valid).0 residue in
        let at = step.0 in
        let same : step.2.0 ≡ returning.call =
        one_waits stream process step.2.0 returning.call step.2.1 waits in
        let there : IsAmong at.placed place =
        subst (λ (c : ℕ). IsAmong at.placed (record { call = c; reply = reply })) same step.2.2 in
        let without : IsWithout returning.call at after =
        subst (λ (c : ℕ). IsWithout c at after) same step.2.3 in
        let before = agree-without spec stream calls are returning reply at after is_open answer
        step.1 there without agrees in
        let led = late.whole at step.1 before in
        follow writes ones left closed at after (once_in_residue spec stream at step.1) before there without
        led.0 led.2.0 (inl (taken led.1.0 led.1.1 led.0 led.1.2)) led.2.1;
  }
