-- Words that are numbers, as they are read one after another.
use Rattle.std.proofs.Common.{◌≡◌, ℕ, ◌<◌, ◌≤◌, ◌-◌, ◌^◌, List, [], ◌∷◌, ◌++◌, map, decimal, sym, ◌∙◌, arith}
use Rattle.text_fields.specs.Counts.{AreNumbers}
use Rattle.text_fields.proofs.NumberTexts.{same_first}

-- the words after some numbers are numbers where all words are
numbers_after : (xs ys : List ℕ) (words : List (List ℕ))
    → map decimal xs ++ words ≡ map decimal ys → AreNumbers ys
    → (zs : List ℕ) × AreNumbers zs × (words ≡ map decimal zs)
numbers_after [] ys words e h = (ys, h, e)
numbers_after (x ∷ xs) [] words e h = absurd cc
numbers_after (x ∷ xs) (y ∷ ys) words e h = numbers_after xs ys words
    (same_first (decimal x) (decimal y) (map decimal xs ++ words) (map decimal ys) e).1 h.1

begins_with_none : (zs : List ℕ) (words : List (List ℕ)) (word : List ℕ) (more : List (List ℕ))
    → words ≡ map decimal zs → AreNumbers zs → words ≡ word ∷ more
    → ((n : ℕ) (suffix : List (List ℕ)) → n ≤ 2 ^ 64 - 1 → words ≡ decimal n ∷ suffix → ⊥) → ⊥
begins_with_none [] words word more e h some none = absurd (cc (sym e ∙ some))
begins_with_none (z ∷ zs) words word more e h some none =
    none z (map decimal zs) (let lt : z < 2 ^ 64 = h.0 in omega arith) e

-- words that begin with numbers, and go on with a word that is none, aren't all numbers
pub not_all_numbers : (xs ys : List ℕ) (words more : List (List ℕ)) (word : List ℕ)
    → map decimal xs ++ words ≡ map decimal ys → AreNumbers ys → words ≡ word ∷ more
    → ((n : ℕ) (suffix : List (List ℕ)) → n ≤ 2 ^ 64 - 1 → words ≡ decimal n ∷ suffix → ⊥) → ⊥
not_all_numbers xs ys words more word e h some none =
    let after = numbers_after xs ys words e h in
    begins_with_none after.0 words word more after.2 after.1 some none
