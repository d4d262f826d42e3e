-- Which words worked locals have peeked, and which they haven't, by the part that differs.
use Rattle.std.proofs.Common.{◌≡◌, zero, suc, List, [], ◌∷◌, refl, ap, arith}
use Rattle.std.specs.Prelude.{Contains}
use Rattle.world_core.specs.declared.region.Region.TheVariants.{N, M}
use Rattle.world_core.specs.Local.{Peeked}
use Rattle.world_core.specs.History.{call_of}
use Rattle.world_core.specs.Calls.{HasPeeked}
use Rattle.world_examples.specs.Schedules.{local_at}
use Rattle.world_examples.specs.Refusals.{entry_peeked}
use Rattle.world_examples.specs.Parts.{peek_of, with_peeks}

-- each of these peeks differs from the peek q
abbrev pub AreOthers : List Peeked → Peeked → Type 0
AreOthers [] q = Unit {0}
AreOthers (p ∷ ps) q = (p ≡ q → ⊥) × AreOthers ps q

-- a peek from which each of some peeks differs isn't one of them
pub absent : (ps : List Peeked) (q : Peeked) → AreOthers ps q → Contains ps q → ⊥
absent [] q others (k, below, is) = absurd (omega (arith, below))
absent (p ∷ ps) q others (zero, below, is) = others.0 is
absent (p ∷ ps) q others (suc k, below, is) = absent ps q others.1 (k, omega (arith, below), is)

-- caller 1 has peeked 1 as the view's entry for caller 0 in the first row of M of caller 0
pub peeked : HasPeeked (local_at entry_peeked 1) M (call_of 0 0) 1 1
peeked = (0, omega arith, refl)

abbrev one : Peeked
one = peek_of M 1 2 3 4

-- a peek in M is no peek in N
pub other_region : HasPeeked (with_peeks (one ∷ [])) N (call_of 1 2) 3 4 → ⊥
other_region = absent (one ∷ []) (peek_of N 1 2 3 4)
    (λ e. let regions : M ≡ N = ap (λ (p : Peeked). p.region) e in absurd cc, tt)

-- a peek into a row of caller 1 is no peek into a row of caller 2
pub other_caller : HasPeeked (with_peeks (one ∷ [])) M (call_of 2 2) 3 4 → ⊥
other_caller = absent (one ∷ []) (peek_of M 2 2 3 4)
    (λ e. let callers : 1 ≡ 2 = ap (λ (p : Peeked). p.caller) e in omega (arith, callers), tt)

-- a peek into the row numbered 2 is no peek into the row numbered 1
pub other_row : HasPeeked (with_peeks (one ∷ [])) M (call_of 1 1) 3 4 → ⊥
other_row = absent (one ∷ []) (peek_of M 1 1 3 4)
    (λ e. let rows : 2 ≡ 1 = ap (λ (p : Peeked). p.row) e in omega (arith, rows), tt)

-- a peek at place 3 is no peek at place 4
pub other_place : HasPeeked (with_peeks (one ∷ [])) M (call_of 1 2) 4 4 → ⊥
other_place = absent (one ∷ []) (peek_of M 1 2 4 4)
    (λ e. let places : 3 ≡ 4 = ap (λ (p : Peeked). p.place) e in omega (arith, places), tt)

-- a peek that found the word 4 is no peek that found the word 3
pub other_word : HasPeeked (with_peeks (one ∷ [])) M (call_of 1 2) 3 3 → ⊥
other_word = absent (one ∷ []) (peek_of M 1 2 3 3)
    (λ e. let words : 4 ≡ 3 = ap (λ (p : Peeked). p.word) e in omega (arith, words), tt)
