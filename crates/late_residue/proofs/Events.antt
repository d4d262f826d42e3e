-- What the next events, and what is known of calls, make of a late residue.
use Rattle.std.proofs.Common.{◌≡◌, ◌⊎◌, ℕ, ◌∙◌, List, [], ◌∷◌, ◌++◌, refl, sym, ap, subst, inl, inr, slice_get}
use Rattle.book_base.specs.SeqSpec.{SeqSpec}
use Rattle.streams.specs.Stream.{StreamEvent, Called, Lost, IsValidStream, HasReturned}
use Rattle.streams.specs.StreamOrder.{StreamPlace, word_of_event, HasLegalStreamOrder}
use Rattle.streams.proofs.Returning.{get-longer}
use Rattle.streams.proofs.Pushing.{NoneReturns, no_return-called, no_return-lost}
use Rattle.residue_laws.specs.Residue.{Configuration, IsInResidue}
use Rattle.residue_laws.specs.Step.{AreAlike, with_place, ArePlaced}
use Rattle.residue_laws.proofs.Appending.{word-longer}
use Rattle.residue_laws.proofs.Events.{alike_itself}
use Rattle.residue_laws.proofs.Stepping.{residues_step}
use Rattle.late_residue.specs.declared.open_call.OpenCall.{OpenCall}
use Rattle.late_residue.specs.Description.{Description}
use Rattle.late_residue.specs.Reached.{Has}
use Rattle.late_residue.specs.Known.{IsKnownPlace, AgreesWithKnown}
use Rattle.late_residue.specs.LateOnes.{AreLate}
use Rattle.late_residue.proofs.Alike.{alike-on, alike-cons}
use Rattle.late_residue.proofs.Meanings.{least, means_least, sound_for}
use Rattle.late_residue.proofs.KnownReplies.{agree-before}

module _ (next : List ℕ → ℕ → List ℕ × ℕ) (stream : List StreamEvent) where
  -- calls that are placed at a configuration may be placed at one that is alike
  placed-alike : (one other after : Configuration) (rest : List StreamPlace) → AreAlike one other
      → ArePlaced next stream other rest after → ArePlaced next stream one rest after
  placed-alike one other after [] alike same = alike-on one other after alike same
  placed-alike one other after (z ∷ rest) alike (may, later) = (
    record {
      call = may.call;
      pending = may.pending;
      unplaced = λ p among same. may.unplaced p ((alike.0 p).0 among) same;
      reply = ap (λ (l : List ℕ). (next l (word_of_event (slice_get stream z.call))).1) alike.1
          ∙ may.reply;
    },
    placed-alike (with_place next stream one z) (with_place next stream other z) after rest
        (alike-cons one other z z _ _ alike refl
        (ap (λ (l : List ℕ). (next l (word_of_event (slice_get stream z.call))).0) alike.1)) later,
  )

  -- calls are placed after others
  placed_both : (from middle at : Configuration) (rest more : List StreamPlace)
      → ArePlaced next stream from rest middle → ArePlaced next stream middle more at
      → ArePlaced next stream from (rest ++ more) at
  placed_both from middle at [] more alike later = placed-alike from middle at more alike later
  placed_both from middle at (z ∷ rest) more (may, placed) later =
      (may, placed_both (with_place next stream from z) middle at rest more placed later)

  -- what may be placed may be placed after events without a return
  placed_longer : (later : List StreamEvent) → NoneReturns stream later
      → (from at : Configuration) (rest : List StreamPlace) → ArePlaced next stream from rest at
      → ArePlaced next (stream ++ later) from rest at
  placed_longer later none from at [] alike = alike
  placed_longer later none from at (z ∷ rest) (may, placed) =
      let word = word-longer stream later z.call may.call in
      let same : with_place next stream from z ≡ with_place next (stream ++ later) from z =
      ap (λ (w : ℕ). record { placed = z ∷ from.placed; list = (next from.list w).0 }) (sym word) in (
        record {
          call = (
            may.call.0,
            may.call.1,
            get-longer stream later z.call (Called may.call.0 may.call.1) may.call.2,
          );
          pending = λ (end, reply, returns).
              may.pending (end, reply, none z.call end reply returns);
          unplaced = may.unplaced;
          reply = ap (λ (w : ℕ). (next from.list w).1) word ∙ may.reply;
        },
        subst (λ (c : Configuration). ArePlaced next (stream ++ later) c rest at) same
            (placed_longer later none (with_place next stream from z) at rest placed),
      )

-- The late residue stays where a call comes, or a loss.
pub late_call : (spec : SeqSpec) (stream : List StreamEvent) (process op : ℕ)
    (calls : List OpenCall) (ones : List Description)
    → IsValidStream (stream ++ Called process op ∷ []) → AreLate spec stream calls ones
    → AreLate spec (stream ++ Called process op ∷ []) calls ones
late_call spec stream process op calls ones valid late =
    let longer = stream ++ Called process op ∷ [] in
    record {
      reached = λ one has. sound_for _ (IsInResidue spec longer) calls one
          (λ at residue. (residues_step spec stream (Called process op) at valid).1
          (at, residue, ([], alike_itself at))) (late.reached one has);
      whole = λ at residue agrees.
          let step = (residues_step spec stream (Called process op) at valid).0 residue in
          let before = agree-before spec.next longer calls step.0 at step.2.0 step.2.1 agrees in
          let led = late.whole step.0 step.1 before in (
            led.0,
            led.1,
            (
              led.2.0 ++ step.2.0,
              placed_both spec.next longer led.0 step.0 at led.2.0 step.2.0
                  (placed_longer spec.next stream (Called process op ∷ [])
                  (no_return-called stream process op) led.0 step.0 led.2.0 led.2.1) step.2.1,
            ),
          );
    }

pub late_loss : (spec : SeqSpec) (stream : List StreamEvent) (process : ℕ)
    (calls : List OpenCall) (ones : List Description)
    → IsValidStream (stream ++ Lost process ∷ []) → AreLate spec stream calls ones
    → AreLate spec (stream ++ Lost process ∷ []) calls ones
late_loss spec stream process calls ones valid late =
    let longer = stream ++ Lost process ∷ [] in
    record {
      reached = λ one has. sound_for _ (IsInResidue spec longer) calls one
          (λ at residue. (residues_step spec stream (Lost process) at valid).1
          (at, residue, alike_itself at)) (late.reached one has);
      whole = λ at residue agrees.
          let step = (residues_step spec stream (Lost process) at valid).0 residue in
          let before : AgreesWithKnown calls step.0 = λ place among.
          agrees place ((step.2.0 place).0 among) in
          let led = late.whole step.0 step.1 before in (
            led.0,
            led.1,
            (
              led.2.0 ++ [],
              placed_both spec.next longer led.0 step.0 at led.2.0 []
                  (placed_longer spec.next stream (Lost process ∷ [])
                  (no_return-lost stream process) led.0 step.0 led.2.0 led.2.1) step.2,
            ),
          );
    }

-- A late residue stays so for other open calls, where each place that agrees with what is known of
-- the ones agrees with what is known of the others, and the other way round in the residue.
pub late_derived : (spec : SeqSpec) (stream : List StreamEvent) (calls more : List OpenCall)
    (ones : List Description)
    → ((place : StreamPlace) → IsKnownPlace calls place → IsKnownPlace more place)
    → ((at : Configuration) → IsInResidue spec stream at → AgreesWithKnown more at
    → AgreesWithKnown calls at)
    → AreLate spec stream calls ones → AreLate spec stream more ones
late_derived spec stream calls more ones derives back late = record {
  reached = λ one has.
      let sound = late.reached one has in
      record {
        each = sound.each;
        agree = λ place is. derives place (sound.agree place is);
        once = sound.once;
      };
  whole = λ at residue agrees. late.whole at residue (back at residue agrees);
}

-- A call that has returned may be taken off the open ones.
pub late_removed : (spec : SeqSpec) (stream : List StreamEvent) (calls more : List OpenCall)
    (one : OpenCall) (ones : List Description) → HasReturned stream one.call
    → ((place : StreamPlace) → IsKnownPlace calls place → IsKnownPlace more place)
    → ((other : OpenCall) → Has calls other → (other ≡ one) ⊎ Has more other)
    → AreLate spec stream calls ones → AreLate spec stream more ones
late_removed spec stream calls more one ones returned derives stays late =
    late_derived spec stream calls more ones derives
    (λ at (order, reaches) agrees place among other has same. elim (stays other has) [
      | inl is ↦ absurd (((reaches.placed place).0 among).1
          (subst (λ (c : ℕ). HasReturned stream c)
          (sym (ap (λ (c : OpenCall). c.call) is) ∙ same) returned))
      | inr left ↦ agrees place among other left same
    ]) late

-- each description of a late residue shows a legal order
pub late_has : (spec : SeqSpec) (stream : List StreamEvent) (calls : List OpenCall)
    (ones : List Description) → AreLate spec stream calls ones → (one : Description) → Has ones one
    → HasLegalStreamOrder spec stream
late_has spec stream calls ones late one has =
    let sound = late.reached one has in
    let found = sound.each (least one) (means_least one sound.once) in (found.0, found.1.legal)

pub late_shows : (spec : SeqSpec) (stream : List StreamEvent) (calls : List OpenCall)
    (ones : List Description) → AreLate spec stream calls ones → (ones ≡ [] → ⊥)
    → HasLegalStreamOrder spec stream
late_shows spec stream calls [] late some = absurd (some refl)
late_shows spec stream calls (one ∷ rest) late some =
    late_has spec stream calls (one ∷ rest) late one (0, refl)
