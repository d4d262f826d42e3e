-- Placed calls, one after another.
use Rattle.std.proofs.Common.{◌≡◌, ℕ, ◌∙◌, List, [], ◌∷◌, ◌++◌, refl, sym, ap, subst, slice_get}
use Rattle.streams.specs.Stream.{StreamEvent, Called}
use Rattle.streams.specs.StreamOrder.{StreamPlace, word_of_event}
use Rattle.streams.proofs.Returning.{get-longer}
use Rattle.streams.proofs.Pushing.{NoneReturns}
use Rattle.residue_laws.specs.Residue.{Configuration}
use Rattle.residue_laws.specs.Step.{AreAlike, with_place, ArePlaced}
use Rattle.residue_laws.proofs.Appending.{word-longer}
use Rattle.late_residue.proofs.Alike.{alike-on, alike-cons}

module _ (next : List ℕ → ℕ → List ℕ × ℕ) (stream : List StreamEvent) where
  -- calls that are placed at a configuration may be placed at one that is alike
  pub placed-alike : (one other after : Configuration) (rest : List StreamPlace) → AreAlike one other
      → ArePlaced next stream other rest after → ArePlaced next stream one rest after
  placed-alike one other after [] alike same = alike-on one other after alike same
  placed-alike one other after (z ∷ rest) alike (may, later) = (
    record {
      call = may.call;
      pending = may.pending;
      unplaced = λ p among same. may.unplaced p ((alike.0 p).0 among) same;
      reply = ap (λ (l : List ℕ). (next l (word_of_event (slice_get stream z.call))).1) alike.1
          ∙ may.reply;
    },
    placed-alike (with_place next stream one z) (with_place next stream other z) after rest
        (alike-cons one other z z _ _ alike refl
        (ap (λ (l : List ℕ). (next l (word_of_event (slice_get stream z.call))).0) alike.1)) later,
  )

  -- calls are placed after others
  pub placed_both : (from middle at : Configuration) (rest more : List StreamPlace)
      → ArePlaced next stream from rest middle → ArePlaced next stream middle more at
      → ArePlaced next stream from (rest ++ more) at
  placed_both from middle at [] more alike later = placed-alike from middle at more alike later
  placed_both from middle at (z ∷ rest) more (may, placed) later =
      (may, placed_both (with_place next stream from z) middle at rest more placed later)

  -- what may be placed may be placed after events without a return
  pub placed_longer : (later : List StreamEvent) → NoneReturns stream later
      → (from at : Configuration) (rest : List StreamPlace) → ArePlaced next stream from rest at
      → ArePlaced next (stream ++ later) from rest at
  placed_longer later none from at [] alike = alike
  placed_longer later none from at (z ∷ rest) (may, placed) =
      let word = word-longer stream later z.call may.call in
      let same : with_place next stream from z ≡ with_place next (stream ++ later) from z =
      ap (λ (w : ℕ). record { placed = z ∷ from.placed; list = (next from.list w).0 }) (sym word) in (
        record {
          call = (
            may.call.0,
            may.call.1,
            get-longer stream later z.call (Called may.call.0 may.call.1) may.call.2,
          );
          pending = λ (end, reply, returns).
              may.pending (end, reply, none z.call end reply returns);
          unplaced = may.unplaced;
          reply = ap (λ (w : ℕ). (next from.list w).1) word ∙ may.reply;
        },
        subst (λ (c : Configuration). ArePlaced next (stream ++ later) c rest at) same
            (placed_longer later none (with_place next stream from z) at rest placed),
      )
