-- The late residue.
use Rattle.std.proofs.Common.{◌≡◌, ℕ, ◌+◌, ◌⊎◌, ◌∙◌, List, [], ◌∷◌, ◌++◌, length, Some, refl, sym, ap, subst, inl, inr, slice_get, append-nil, append_assoc}
use Rattle.std.specs.Prelude.{◌↔◌}
use Rattle.std.proofs.lemmas.Option.{same_Some}
use Rattle.book_base.specs.SeqSpec.{SeqSpec}
use Rattle.streams.specs.Stream.{StreamEvent, Called, Returned, Lost, HasReturned, IsWaiting}
use Rattle.streams.specs.StreamOrder.{StreamPlace, IsAmong, IsLegalStreamOrder}
use Rattle.streams.proofs.Returning.{returns-longer}
use Rattle.residue_laws.specs.Residue.{Configuration, StreamReaches}
use Rattle.residue_laws.specs.Step.{AreAlike, MayPlace, with_place, ArePlaced, IsWithout}
use Rattle.residue_laws.specs.Late.{EndsInAReturn, IsInLateResidue, StepsLateTo}
use Rattle.residue_laws.specs.Laws.{LateResiduesSuffice, LateResiduesStep}
use Rattle.residue_laws.proofs.Appending.{get-right, AreCalls, among-cases}
use Rattle.residue_laws.proofs.Fronts.{ArePending, front_of, reaches_somewhere, front-calls, front_is_legal}
use Rattle.streams.proofs.Pushing.{NoneReturns, no_return-called, no_return-lost, no_return-none, returns_now, no_other_returns, not_before, waits_before}
use Rattle.residue_laws.proofs.Events.{reaches-longer, reaches-shorter, reaches-alike, alike_itself}
use Rattle.residue_laws.proofs.Placing.{FollowOn, are_placed, follow_on, reaches_on, among-cons, nothing_among}
use Rattle.residue_laws.proofs.Following.{follows_front, cut_order, before_return, after_return}
use Rattle.residue_laws.proofs.Stepping.{placed_one}

pub late_residues_suffice : LateResiduesSuffice
late_residues_suffice spec stream after = (
  λ (order, reaches).
      let same : stream ++ [] ≡ stream = append-nil stream in
      let cut = cut_order spec stream [] (no_return-none stream) order after
      (subst (λ (s : List StreamEvent). StreamReaches spec s order after) (sym same) reaches) in (
        cut.0,
        (cut.1.0, cut.1.1, cut.1.2),
        (
          cut.2.0,
          are_placed spec.next stream cut.0 after cut.2.0
              (subst (λ (s : List StreamEvent). FollowOn spec.next s cut.0 cut.2.0 after) same
              cut.2.1),
        ),
      ),
  λ (at, (order, reaches, ends), (rest, placed)). (
    order ++ rest,
    reaches_on spec stream order rest at after reaches
        (follow_on spec.next stream at after rest placed),
  ),
)

-- what ends in a return still does so in a longer stream, and in a shorter one where none returns
-- between them
ends-longer : (stream later : List StreamEvent) (order : List StreamPlace)
    → EndsInAReturn stream order → EndsInAReturn (stream ++ later) order
ends-longer stream later order (inl none) = inl none
ends-longer stream later order (inr (front, last, is, (end, reply, returns))) = inr (
  front,
  last,
  is,
  (end, reply, returns-longer stream later last.call end reply returns),
)

ends-shorter : (stream later : List StreamEvent) (order : List StreamPlace)
    → NoneReturns stream later → EndsInAReturn (stream ++ later) order → EndsInAReturn stream order
ends-shorter stream later order none (inl nothing) = inl nothing
ends-shorter stream later order none (inr (front, last, is, (end, reply, returns))) =
    inr (front, last, is, (end, reply, none last.call end reply returns))

-- events without a return leave the late residue
late-same : (spec : SeqSpec) (stream later : List StreamEvent) → NoneReturns stream later
    → (after : Configuration) → (IsInLateResidue spec (stream ++ later) after
    ↔ ((at : Configuration) × IsInLateResidue spec stream at × AreAlike at after))
late-same spec stream later none after = (
  λ (order, reaches, ends).
      let before = ends-shorter stream later order none ends in
      let calls : AreCalls stream order = front-calls spec stream later order []
      (subst (λ (o : List StreamPlace). IsLegalStreamOrder spec (stream ++ later) o)
      (sym (append-nil order)) reaches.legal) before in (
        after,
        (order, reaches-shorter spec stream later order after none calls reaches, before),
        alike_itself after,
      ),
  λ (at, (order, reaches, ends), alike). (
    order,
    reaches-longer spec stream later order after none
        (reaches-alike spec stream order at after alike reaches),
    ends-longer stream later order ends,
  ),
)

-- the last of some calls that are placed one after another
placed-last : (next : List ℕ → ℕ → List ℕ × ℕ) (stream : List StreamEvent) (at : Configuration)
    (rest : List StreamPlace) (last : StreamPlace) (after : Configuration)
    → ArePlaced next stream at (rest ++ last ∷ []) after
    → (middle : Configuration) × ArePlaced next stream at rest middle
    × MayPlace next stream middle last × AreAlike (with_place next stream middle last) after
placed-last next stream at [] last after (may, alike) = (at, alike_itself at, may, alike)
placed-last next stream at (first ∷ rest) last after (may, later) =
    let found = placed-last next stream (with_place next stream at first) rest last after later in
    (found.0, (may, found.1), found.2, found.3)

pub without-alike : (call : ℕ) (one other without : Configuration) → AreAlike one other
    → IsWithout call other without → IsWithout call one without
without-alike call one other without (placed, list) (lacks, same) = (
  λ place. (
    λ among. let is = (lacks place).0 among in ((placed place).1 is.0, is.1),
    λ (among, apart). (lacks place).1 ((placed place).0 among, apart),
  ),
  list ∙ same,
)

module _ (spec : SeqSpec) (stream : List StreamEvent) (process call reply : ℕ)
    (waits : IsWaiting stream process call) (after : Configuration) where
  abbrev it : StreamPlace
  it = record { call = call; reply = reply }

  -- the call that returns is the last one of an order
  late-last : (order front : List StreamPlace) (last : StreamPlace) (at : Configuration)
      → StreamReaches spec stream order at → IsAmong at.placed it → IsWithout call at after
      → order ≡ front ++ last ∷ [] → last.call ≡ call
      → (at : Configuration) × IsInLateResidue spec stream at
      × StepsLateTo spec.next stream (Returned process reply) at after
  late-last order front last at reaches placed without is same =
      let among = ((reaches.placed it).0 placed).0 in
      let there : slice_get order (length front + 0) ≡ Some last =
      subst (λ (o : List StreamPlace). slice_get o (length front + 0) ≡ Some last) (sym is)
      (get-right front (last ∷ []) 0 last refl) in
      let place : among.0 ≡ length front + 0 =
      reaches.legal.once among.0 (length front + 0) it last among.1 there (sym same) in
      let equal : last ≡ it = same_Some last it (sym there
      ∙ subst (λ (k : ℕ). slice_get order k ≡ Some it) place among.1) in
      let cut = front_of stream front in
      let rest = cut.1 ++ last ∷ [] in
      let parts : order ≡ cut.0 ++ rest = is
      ∙ (ap (λ (f : List StreamPlace). f ++ last ∷ []) cut.2
      ∙ append_assoc cut.0 cut.1 (last ∷ [])) in
      let pending_rest : ArePending stream rest = λ p h returned.
      elim (among-cases cut.1 (last ∷ []) p h) [
        | inl left ↦ cut.4 p left returned
        | inr right ↦ elim (among-cons last [] p right) [
          | inl here ↦ not_before stream process call reply waits
              (subst (HasReturned stream) (sym (ap (λ (q : StreamPlace). q.call) here) ∙ same)
              returned)
          | inr none ↦ nothing_among p none
        ]
      ] in
      let nil : stream ++ [] ≡ stream = append-nil stream in
      let joined : StreamReaches spec (stream ++ []) (cut.0 ++ rest) at =
      subst (λ (s : List StreamEvent). StreamReaches spec s (cut.0 ++ rest) at) (sym nil)
      (subst (λ (o : List StreamPlace). StreamReaches spec stream o at) parts reaches) in
      let legal = front_is_legal spec stream [] cut.0 rest joined.legal cut.3 pending_rest in
      let early = reaches_somewhere spec stream cut.0 legal in
      let follows : FollowOn spec.next stream early.0 rest at =
      subst (λ (s : List StreamEvent). FollowOn spec.next s early.0 rest at) nil
      (follows_front spec stream [] (no_return-none stream) cut.0 rest early.0 at joined early.1
      pending_rest) in
      let split = placed-last spec.next stream early.0 cut.1 last at
      (are_placed spec.next stream early.0 at rest follows) in (
        early.0,
        (cut.0, early.1, cut.3),
        (
          call,
          waits,
          inr (
            cut.1,
            split.0,
            split.1,
            subst (λ (p : StreamPlace). MayPlace spec.next stream split.0 p) equal split.2,
            without-alike call (with_place spec.next stream split.0 it) at after
                (subst (λ (p : StreamPlace). AreAlike (with_place spec.next stream split.0 p) at)
                equal split.3) without,
          ),
        ),
      )

  late-there : (order : List StreamPlace)
      → StreamReaches spec (stream ++ Returned process reply ∷ []) order after
      → EndsInAReturn (stream ++ Returned process reply ∷ []) order
      → (at : Configuration) × IsInLateResidue spec stream at
      × StepsLateTo spec.next stream (Returned process reply) at after
  late-there order reaches (inl nothing) =
      let before = before_return spec stream process call reply waits order after reaches in
      let among = ((before.1.placed it).0 before.2).0 in
      absurd (nothing_among it
      (subst (λ (o : List StreamPlace). IsAmong o it) nothing among))
  late-there order reaches (inr (front, last, is, (end, past, returns))) =
      let before = before_return spec stream process call reply waits order after reaches in
      elim (no_other_returns stream process call reply waits last.call end past returns) [
        | inl old ↦ (
          before.0,
          (order, before.1, inr (front, last, is, (end, past, old))),
          (call, waits, inl (before.2, before.3)),
        )
        | inr (same, equal, here) ↦
            late-last order front last before.0 before.1 before.2 before.3 is same
      ]

  late-here : (at : Configuration) (order : List StreamPlace) → StreamReaches spec stream order at
      → EndsInAReturn stream order
      → (IsAmong at.placed it × IsWithout call at after)
      ⊎ ((rest : List StreamPlace) × (middle : Configuration)
      × ArePlaced spec.next stream at rest middle × MayPlace spec.next stream middle it
      × IsWithout call (with_place spec.next stream middle it) after)
      → IsInLateResidue spec (stream ++ Returned process reply ∷ []) after
  late-here at order reaches ends (inl (placed, without)) = (
    order,
    after_return spec stream process call reply waits order after at reaches placed without,
    ends-longer stream (Returned process reply ∷ []) order ends,
  )
  late-here at order reaches ends (inr (rest, middle, placed, may, without)) =
      let first : StreamReaches spec stream (order ++ rest) middle =
      reaches_on spec stream order rest at
      middle reaches (follow_on spec.next stream at middle rest placed) in
      let last : StreamReaches spec stream ((order ++ rest) ++ it ∷ [])
      (with_place spec.next stream middle it) =
      reaches_on spec stream (order ++ rest) (it ∷ []) middle
      (with_place spec.next stream middle it) first
      (follow_on spec.next stream middle (with_place spec.next stream middle it) (it ∷ [])
      (placed_one spec.next stream middle it may)) in (
        (order ++ rest) ++ it ∷ [],
        after_return spec stream process call reply waits ((order ++ rest) ++ it ∷ []) after
            (with_place spec.next stream middle it) last (0, refl) without,
        inr (
          order ++ rest,
          it,
          refl,
          (length stream, reply, returns_now stream process call reply waits),
        ),
      )

pub late_residues_step : LateResiduesStep
late_residues_step spec stream (Called process op) after valid =
    late-same spec stream (Called process op ∷ []) (no_return-called stream process op) after
late_residues_step spec stream (Returned process reply) after valid = (
  λ (order, reaches, ends).
      let waits = waits_before stream process reply valid in
      late-there spec stream process waits.0 reply waits.1 after order reaches ends,
  λ (at, (order, reaches, ends), (call, waits, either)).
      late-here spec stream process call reply waits after at order reaches ends either,
)
late_residues_step spec stream (Lost process) after valid =
    late-same spec stream (Lost process ∷ []) (no_return-lost stream process) after
