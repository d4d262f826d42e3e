-- The run in which a view misses an announcement that comes before its last look.
use Rattle.std.proofs.Common.{◌≡◌, ◌≢◌, ℕ, zero, suc, ◌+◌, ◌<◌, List, [], ◌∷◌, length, map, Some, slice_get, slice_index_or, refl, ap, ◌∙◌, arith}
use Rattle.std.specs.Prelude.{All, AllPairs, Contains}
use Rattle.std.proofs.lemmas.Option.{same_Some, none-some, slice_get-get_or, slice_get_within}
use Rattle.book_base.specs.declared.call.Call.{Call}
use Rattle.book_base.specs.declared.call.Place.{Place}
use Rattle.book_base.specs.Book.{Page, calls_of}
use Rattle.book_base.specs.Sequential.{IsRunFrom}
use Rattle.book_base.specs.Order.{call_at, step_at, HasLegalOrder}
use Rattle.world_examples.specs.Schedules.{pair}
use Rattle.world_examples.specs.Histories.{numbering}
use Rattle.world_core.specs.History.{Happening, Invoked, Returned, Done, ReturnsBefore, IsLinearizable, call_of, history_of}
use Rattle.world_core.specs.Calls.{IsPublished}
use Rattle.world_examples.specs.JudgedRuns.{locals_after, answer, late_history_of, missed, missed_part, ReturnsMayBeLate}
use Rattle.world_examples.proofs.JudgedRuns.{published_two}
use Rattle.world_laws.proofs.Judging.{no_run_has_this_error}

abbrev late : List Happening
late = Invoked (call_of 1 0) 6 ∷ Invoked (call_of 0 0) 5 ∷ Returned (call_of 1 0) 1 ∷ []

abbrev first : Done
first = record { call = call_of 0 0; operation = 5; reply = 0 }

abbrev second : Done
second = record { call = call_of 1 0; operation = 6; reply = 1 }

abbrev order : List Done
order = first ∷ second ∷ []

invoked : All (λ (d : Done). Contains late (Invoked d.call d.operation)) order
invoked zero d below = (1, omega arith, refl)
invoked (suc zero) d below = (0, omega arith, refl)
invoked (suc (suc k)) d below = absurd (omega (arith, below))

once : AllPairs (λ (d e : Done). d.call ≢ e.call) order
once zero (suc zero) d lt below =
    λ e. let callers : 0 ≡ 1 = ap (λ (c : Call). c.caller) e in omega (arith, callers)
once zero zero d lt below = absurd (omega (arith, lt))
once zero (suc (suc j)) d lt below = absurd (omega (arith, below))
once (suc i) zero d lt below = absurd (omega (arith, lt))
once (suc i) (suc zero) d lt below = absurd (omega (arith, lt))
once (suc i) (suc (suc j)) d lt below = absurd (omega (arith, below))

returned : (call : Call) (reply : ℕ) → Contains late (Returned call reply) → (operation : ℕ)
    × Contains order (record { call = call; operation = operation; reply = reply })
returned call reply (zero, below, is) = absurd cc
returned call reply (suc zero, below, is) = absurd cc
returned call reply (suc (suc zero), below, is) =
    let c : call_of 1 0 ≡ call = cc in
    let r : 1 ≡ reply = cc in
    (6, (1, omega arith, cc (c, r)))
returned call reply (suc (suc (suc k)), below, is) = absurd (omega (arith, below))

-- nothing is invoked after a return
nothing_before : (a b : Call) → ReturnsBefore late a b → ⊥
nothing_before a b (zero, j, reply, op, lt, r, v) = cc
nothing_before a b (suc zero, j, reply, op, lt, r, v) = cc
nothing_before a b (suc (suc i), zero, reply, op, lt, r, v) = omega (arith, lt)
nothing_before a b (suc (suc i), suc zero, reply, op, lt, r, v) = omega (arith, lt)
nothing_before a b (suc (suc i), suc (suc zero), reply, op, lt, r, v) = omega (arith, lt)
nothing_before a b (suc (suc i), suc (suc (suc j)), reply, op, lt, r, v) = cc

pub late_linearizable : IsLinearizable numbering (late_history_of pair missed)
late_linearizable = (
  order,
  record {
    invoked = invoked;
    once = once;
    returned = returned;
    legal = (refl, (refl, tt));
    ordered = λ p q d e at bt before. absurd (nothing_before d.call e.call before);
  },
)

pub missed_published : IsPublished (locals_after missed) (0 ∷ 1 ∷ [])
missed_published = published_two (locals_after missed) 0 1 refl (omega arith) (omega arith)

-- the replies of a run of the numbering object are the numbers of its places
numbered : (book : List Page) (list : List ℕ) (places : List Place) (k : ℕ) (place : Place)
    → IsRunFrom numbering.next list (map (step_at book) places) → slice_get places k ≡ Some place
    → place.reply ≡ length list + k
numbered book list [] k place run e = absurd (none-some place e)
numbered book list (one ∷ rest) zero place run e =
    omega (arith, ap (λ (p : Place). p.reply) (same_Some one place e), run.0)
numbered book list (one ∷ rest) (suc k) place run e =
    omega (arith, numbered book ((step_at book one).0 ∷ list) rest k place run.1 e)

-- the one call of the book is call 0 of caller 1
only_call : (i k : ℕ) → k < calls_of missed_part i → (i ≡ 1) × (k ≡ 0)
only_call zero k low = absurd (omega (arith, low))
only_call (suc zero) k low = (refl, omega (arith, low))
only_call (suc (suc i)) k low = absurd (omega (arith, low))

one_call : (call : Call) → (call.caller ≡ 1) × (call.number ≡ 0) → call ≡ call_of 1 0
one_call call (caller, number) =
    ap (λ (i : ℕ). call_of i call.number) caller ∙ ap (call_of 1) number

pub missed_error : HasLegalOrder numbering missed_part → ⊥
missed_error (places, h) =
    let found = h.answered (call_of 1 0) (answer 1 (0 ∷ 1 ∷ [])) refl in
    let mine : Place = record { caller = 1; number = 0; reply = 1 } in
    let at : 1 ≡ 0 + found.0 = numbered missed_part [] places found.0 mine h.run found.1 in
    let some : 0 < length places =
    omega (arith, at, slice_get_within places found.0 mine found.1) in
    let prefix : Place = slice_index_or places 0 mine in
    let there : slice_get places 0 ≡ Some prefix = slice_get-get_or places 0 mine some in
    let is : call_at prefix ≡ call_of 1 0 =
    one_call (call_at prefix)
    (only_call prefix.caller prefix.number (h.calls 0 (call_at prefix) (prefix, there, refl))) in
    let same : 0 ≡ found.0 =
    h.once 0 found.0 (call_of 1 0) (prefix, there, is) (mine, found.1, refl) in
    omega (arith, same, at)

pub missed_unlawful : IsLinearizable numbering (history_of pair missed) → ⊥
missed_unlawful h =
    no_run_has_this_error numbering pair missed (0 ∷ 1 ∷ []) refl missed_published missed_error h

pub returns_may_not_be_late : ReturnsMayBeLate → ⊥
returns_may_not_be_late law =
    missed_error (law numbering pair missed (0 ∷ 1 ∷ []) refl late_linearizable missed_published)
