-- The run of two whole calls, judged.
use Rattle.std.proofs.Common.{◌≡◌, ℕ, zero, suc, ◌<◌, ◌≤◌, List, [], ◌∷◌, length, map, Some, slice_get, slice_index, refl, sym, ap, ◌∙◌, subst, arith}
use Rattle.std.proofs.lemmas.Option.{same_Some, none-some}
use Rattle.book_base.specs.declared.call.Place.{Place}
use Rattle.book_base.specs.Book.{Page}
use Rattle.book_base.specs.BookAt.{book_at}
use Rattle.book_base.specs.Sequential.{IsRunFrom}
use Rattle.book_base.specs.Order.{step_at, HasLegalOrder}
use Rattle.world_core.specs.Local.{Local}
use Rattle.world_core.specs.World.{end_of}
use Rattle.world_core.specs.History.{call_of}
use Rattle.world_examples.specs.Schedules.{pair, two_calls, tenfold, silent}
use Rattle.world_core.specs.Calls.{IsPublished, AreTogether, book_in, calls_in, local_at}
use Rattle.world_examples.proofs.Linear.{linearizable}
use Rattle.world_laws.specs.Verdicts.{HasSeenCut, AreDelivered}
use Rattle.world_examples.specs.JudgedRuns.{locals_after, answer, one_answered}
use Rattle.world_laws.proofs.NoFalseErrors.{no_false_error}

-- a cut of two callers' published calls
pub published_two : (locals : List Local) (a b : ℕ) → length locals ≡ 2
    → a ≤ (local_at locals 0).published → b ≤ (local_at locals 1).published
    → IsPublished locals (a ∷ b ∷ [])
published_two locals a b two first second = record { wide = sym two; within = each }
  where
    each : (i : ℕ) → i < length locals → slice_index (a ∷ b ∷ []) i ≤ (local_at locals i).published
    each zero low = first
    each (suc zero) low = second
    each (suc (suc i)) low = absurd (omega (arith, low, two))

pub both_together : AreTogether pair (locals_after two_calls)
both_together = (end_of pair two_calls, (two_calls, refl, refl), refl)

pub first_published : IsPublished (locals_after two_calls) (1 ∷ 0 ∷ [])
first_published = published_two (locals_after two_calls) 1 0 refl (omega arith) (omega arith)

pub all_published : IsPublished (locals_after two_calls) (1 ∷ 1 ∷ [])
all_published = published_two (locals_after two_calls) 1 1 refl (omega arith) (omega arith)

pub first_sees : HasSeenCut (map calls_in (locals_after two_calls)) (call_of 0 0) (1 ∷ 0 ∷ [])
first_sees = record { operation = 5; answer = answer 50 (1 ∷ 1 ∷ []); made = refl }

pub second_sees : HasSeenCut (map calls_in (locals_after two_calls)) (call_of 1 0) (1 ∷ 1 ∷ [])
second_sees = record { operation = 6; answer = answer 60 (1 ∷ 1 ∷ []); made = refl }

pub delivered : AreDelivered tenfold (locals_after two_calls) ((1 ∷ 0 ∷ []) ∷ (1 ∷ 1 ∷ []) ∷ [])
delivered zero cut e =
    let same = same_Some (1 ∷ 0 ∷ []) cut e in (
      call_of 0 0,
      subst (λ (c : List ℕ). HasSeenCut (map calls_in (locals_after two_calls)) (call_of 0 0) c)
          same first_sees,
      subst (λ (c : List ℕ).
          HasLegalOrder tenfold (book_at c (book_in (locals_after two_calls)))) same
          (no_false_error tenfold pair two_calls (1 ∷ 0 ∷ []) refl linearizable first_published),
    )
delivered (suc zero) cut e =
    let same = same_Some (1 ∷ 1 ∷ []) cut e in (
      call_of 1 0,
      subst (λ (c : List ℕ). HasSeenCut (map calls_in (locals_after two_calls)) (call_of 1 0) c)
          same second_sees,
      subst (λ (c : List ℕ).
          HasLegalOrder tenfold (book_at c (book_in (locals_after two_calls)))) same
          (no_false_error tenfold pair two_calls (1 ∷ 1 ∷ []) refl linearizable all_published),
    )
delivered (suc (suc k)) cut e = absurd (none-some cut e)

-- each reply of a run of the silent object is 0
silent_replies : (book : List Page) (list : List ℕ) (places : List Place) (k : ℕ) (place : Place)
    → IsRunFrom silent.next list (map (step_at book) places) → slice_get places k ≡ Some place
    → place.reply ≡ 0
silent_replies book list [] k place run e = absurd (none-some place e)
silent_replies book list (first ∷ rest) zero place run e =
    ap (λ (p : Place). p.reply) (sym (same_Some first place e)) ∙ sym run.0
silent_replies book list (first ∷ rest) (suc k) place run e =
    silent_replies book list rest k place run.1 e

pub silent_error : HasLegalOrder silent one_answered → ⊥
silent_error h =
    let found = h.1.answered (call_of 0 0) (answer 50 (1 ∷ 1 ∷ [])) refl in
    let wrong : 50 ≡ 0 = silent_replies one_answered [] h.0 found.0
    (record { caller = 0; number = 0; reply = 50 }) h.1.run found.1 in
    absurd (omega (arith, wrong))
