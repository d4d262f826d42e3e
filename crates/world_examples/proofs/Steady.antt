-- Which worked words are steady, which were taken by scans that hadn't ended, and which are too
-- many.
use Rattle.std.proofs.Common.{◌≡◌, ℕ, zero, suc, ◌+◌, ◌*◌, ◌<◌, ◌≤◌, true, false, [], ◌∷◌, take, slice_index, refl, arith}
use Rattle.std.specs.Prelude.{IsTrue}
use Rattle.world_core.specs.Scan.{is_look, wanted, IsSteady, AreWanted, IsShort}
use Rattle.world_examples.specs.Parts.{lent_words}

fails : false ≡ true → ⊥
fails e = absurd cc

holds : true ≡ false → ⊥
holds e = absurd cc

lent_rises : (p : ℕ) → p + 2 < 8 → IsTrue (is_look (wanted 2 (take (p + 2) lent_words)))
    → slice_index lent_words p ≤ slice_index lent_words (p + 2)
lent_rises zero low look = omega arith
lent_rises (suc zero) low look = omega arith
lent_rises (suc (suc zero)) low look = omega arith
lent_rises (suc (suc (suc zero))) low look = omega arith
lent_rises (suc (suc (suc (suc zero)))) low look = absurd (fails look)
lent_rises (suc (suc (suc (suc (suc zero))))) low look = omega arith
lent_rises (suc (suc (suc (suc (suc (suc p)))))) low look = absurd (omega (arith, low))

lent_own : (p k : ℕ) → p ≡ k * 2 + 1 → p + 2 < 8
    → IsTrue (is_look (wanted 2 (take (p + 2) lent_words)))
    → slice_index lent_words (p + 2) ≡ slice_index lent_words p
lent_own zero k is low look = absurd (omega (arith, is))
lent_own (suc zero) k is low look = refl
lent_own (suc (suc zero)) k is low look = absurd (omega (arith, is))
lent_own (suc (suc (suc zero))) k is low look = refl
lent_own (suc (suc (suc (suc zero)))) k is low look = absurd (omega (arith, is))
lent_own (suc (suc (suc (suc (suc zero))))) k is low look = refl
lent_own (suc (suc (suc (suc (suc (suc p)))))) k is low look = absurd (omega (arith, low))

-- the words of a scan by caller 1 in which caller 0 moves twice and lends a cut are steady
pub steady : IsSteady 2 1 lent_words
steady = record { rises = lent_rises; own = lent_own }

-- words in which a count falls aren't steady
pub falls : IsSteady 2 0 (0 ∷ 1 ∷ 0 ∷ 0 ∷ []) → ⊥
falls s = let rises : 1 ≤ 0 = s.rises 1 (omega arith) refl in omega (arith, rises)

-- words in which the count of the scanning caller rises aren't steady
pub moves : IsSteady 2 0 (0 ∷ 0 ∷ 1 ∷ 0 ∷ []) → ⊥
moves s = let same : 1 ≡ 0 = s.own 0 0 refl (omega arith) refl in omega (arith, same)

moved_rises : (p : ℕ) → p + 2 < 4 → IsTrue (is_look (wanted 2 (take (p + 2) (0 ∷ 0 ∷ 1 ∷ 0 ∷ []))))
    → slice_index (0 ∷ 0 ∷ 1 ∷ 0 ∷ []) p ≤ slice_index (0 ∷ 0 ∷ 1 ∷ 0 ∷ []) (p + 2)
moved_rises zero low look = omega arith
moved_rises (suc zero) low look = omega arith
moved_rises (suc (suc p)) low look = absurd (omega (arith, low))

moved_own : (p k : ℕ) → p ≡ k * 2 + 1 → p + 2 < 4
    → IsTrue (is_look (wanted 2 (take (p + 2) (0 ∷ 0 ∷ 1 ∷ 0 ∷ []))))
    → slice_index (0 ∷ 0 ∷ 1 ∷ 0 ∷ []) (p + 2) ≡ slice_index (0 ∷ 0 ∷ 1 ∷ 0 ∷ []) p
moved_own zero k is low look = absurd (omega (arith, is))
moved_own (suc zero) k is low look = refl
moved_own (suc (suc p)) k is low look = absurd (omega (arith, low))

-- words in which the count of another caller rises are steady
pub others_move : IsSteady 2 1 (0 ∷ 0 ∷ 1 ∷ 0 ∷ [])
others_move = record { rises = moved_rises; own = moved_own }

-- each word of two equal collects was taken by a scan that hadn't ended
pub wanted_all : AreWanted 2 (0 ∷ 0 ∷ 0 ∷ 0 ∷ [])
wanted_all zero low = refl
wanted_all (suc zero) low = refl
wanted_all (suc (suc zero)) low = refl
wanted_all (suc (suc (suc zero))) low = refl
wanted_all (suc (suc (suc (suc p)))) low = absurd (omega (arith, low))

-- a word after two equal collects was taken by a scan that had ended
pub unwanted : AreWanted 2 (0 ∷ 0 ∷ 0 ∷ 0 ∷ 0 ∷ []) → ⊥
unwanted w = holds (w 4 (omega arith))

-- the words 0, 1 and 2 of a scan of one caller aren't few: they came of three looks, and few words
-- of at most two
pub long : IsShort 1 (0 ∷ 1 ∷ 2 ∷ []) → ⊥
long s = let looks : 3 ≤ 2 = s.looks in omega (arith, looks)
