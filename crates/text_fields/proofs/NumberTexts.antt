-- Numbers in a row, as they are read one after another.
use Rattle.std.proofs.Common.{◌≡◌, ℕ, zero, suc, ◌+◌, ◌<◌, ◌≤◌, ◌^◌, true, false, Option, None, List, [], ◌∷◌, ◌++◌, length, map, get_or, set, decimal, Some, refl, sym, ap, ◌∙◌, arith, inl, inr, eqb}
use Rattle.std.specs.Prelude.{not, is_some, MatchOption, ◌⊎◌}
use Rattle.std.proofs.lemmas.Option.{some_pair_parts}
use Rattle.std.proofs.lemmas.List.Sums.{list_all-from_AllPass}
use Rattle.std.proofs.lemmas.Fmt.{decimal_injective}
use Rattle.list_laws.proofs.FirstMarks.{decimal-Lacks}
use Rattle.seq_objects.specs.Words.{IsWord}
use Rattle.seq_objects.proofs.Texts.{IsWord-decimal}
use Rattle.text_fields.specs.Lines.{IsSolid, cut_at}
use Rattle.text_fields.specs.Counts.{AreAtMost, AreNumbers, AreParts, IsPair, IsNoPair, pair_word, pair_words, HasBadPair, NoPairFirst}
use Rattle.text_fields.proofs.LineTexts.{lacks, cut_prefix}

-- two equal lists of words have the same first word, and the same others
pub same_first : (v w : List ℕ) (x y : List (List ℕ)) → v ∷ x ≡ w ∷ y → (v ≡ w) × (x ≡ y)
same_first v w x y e = (cc, cc)

-- two numbers with the same digits are equal
pub same_number : (m n : ℕ) → m < 2 ^ 64 → n < 2 ^ 64 → decimal m ≡ decimal n → m ≡ n
same_number m n h k e = decimal_injective m n h k e

-- a word of printed characters can be in a line
pub solid_word : (word : List ℕ) → IsWord word → IsSolid word
solid_word word h = record { some = h.some; above = λ i d inside. (h.printed i d inside).0 }

-- a number's text can be in a line
pub solid_decimal : (n : ℕ) → n < 2 ^ 64 → IsSolid (decimal n)
solid_decimal n small = solid_word (decimal n) (IsWord-decimal n small)

-- a number's text has no colon
pub lacks-decimal : (n : ℕ) → n < 2 ^ 64 → lacks 58 (decimal n) ≡ true
lacks-decimal n small = list_all-from_AllPass (λ b. not (eqb b 58)) (decimal n)
    (λ i d inside. ap not (decimal-Lacks 58 n small (λ h. omega arith) i d inside))

-- the next word, where there is one, and where there is none
pub no_next : {X : Type 0} (o : Option X) (P : Type 0) (Q : X → Type 0) → is_some o ≡ false
    → MatchOption o P Q → P
no_next None P Q e h = h
no_next (Some x) P Q e h = absurd cc

pub some_next : {X : Type 0} (o : Option X) (P : Type 0) (Q : X → Type 0) → is_some o ≡ true
    → MatchOption o P Q → (x : X) × Q x
some_next None P Q e h = absurd cc
some_next (Some x) P Q e h = (x, h)

-- where fewer numbers were read than there are, the next word is the next number
pub number_after : (most : ℕ) (xs ys : List ℕ) (words : List (List ℕ))
    → map decimal xs ++ words ≡ map decimal ys → length xs < length ys → AreAtMost most ys
    → (n : ℕ) × (suffix : List (List ℕ)) × (n ≤ most) × (words ≡ decimal n ∷ suffix)
number_after most xs [] words e lt h = absurd (omega arith)
number_after most [] (y ∷ ys) words e lt h = (y, map decimal ys, h.0, e)
number_after most (x ∷ xs) (y ∷ ys) words e lt h = number_after most xs ys words
    (same_first (decimal x) (decimal y) (map decimal xs ++ words) (map decimal ys) e).1
    (omega arith) h.1

-- where all numbers were read, no word is left
pub nothing_after : (xs ys : List ℕ) (words : List (List ℕ))
    → map decimal xs ++ words ≡ map decimal ys → length xs ≡ length ys → words ≡ []
nothing_after [] [] words e same = e
nothing_after [] (y ∷ ys) words e same = absurd (omega arith)
nothing_after (x ∷ xs) [] words e same = absurd (omega arith)
nothing_after (x ∷ xs) (y ∷ ys) words e same = nothing_after xs ys words
    (same_first (decimal x) (decimal y) (map decimal xs ++ words) (map decimal ys) e).1
    (omega arith)

-- ---- pairs

-- the parts of a pair
pub pair_parts : (j count : ℕ) → j < 2 ^ 64
    → cut_at 58 (pair_word j count) ≡ Some (decimal j, decimal count)
pair_parts j count small = cut_prefix 58 (decimal j) (decimal count) (lacks-decimal j small)

-- a pair is cut at its colon into the caller and the count
pub pair_split : (n : ℕ) (prefix suffix : List ℕ) (j count : ℕ) → n ≤ 2 ^ 64
    → AreParts prefix suffix → IsPair n (prefix ++ 58 ∷ suffix) j count → (prefix ≡ decimal j)
    × (suffix ≡ decimal count)
pair_split n prefix suffix j count few parts h =
    let both : ◌≡◌ {A = Option (List ℕ × List ℕ)} (Some (prefix, suffix))
    (Some (decimal j, decimal count)) =
    sym parts ∙ ap (cut_at 58) h.text ∙ pair_parts j count (omega (arith, h.caller)) in
    some_pair_parts prefix (decimal j) suffix (decimal count) both

-- a cut of zeros has no pairs
pub pair_words-zeros : (b : ℕ) (cut : List ℕ) → ((k : ℕ) → get_or cut k 0 ≡ 0)
    → pair_words b cut ≡ []
pair_words-zeros b [] h = refl
pair_words-zeros b (zero ∷ cut) h = pair_words-zeros (b + 1) cut (λ k. h (suc k))
pair_words-zeros b (suc count ∷ cut) h = absurd (omega (arith, h 0))

-- a pair whose caller is above those of all others is the last one
pub pair_words-set : (b : ℕ) (cut : List ℕ) (j count : ℕ) → j < length cut → 0 < count
    → ((k : ℕ) → j ≤ k → get_or cut k 0 ≡ 0)
    → pair_words b (set cut j count) ≡ pair_words b cut ++ pair_word (b + j) count ∷ []
pair_words-set b [] j count lt some zeros = absurd (omega arith)
pair_words-set b (c ∷ cut) j zero lt some zeros = absurd (omega arith)
pair_words-set b (zero ∷ cut) zero (suc count) lt some zeros =
    let none : pair_words (b + 1) cut ≡ [] =
    pair_words-zeros (b + 1) cut (λ k. zeros (suc k) (omega arith)) in
    let here : b + 0 ≡ b = omega arith in
    rw (none, here) refl
pair_words-set b (suc c ∷ cut) zero (suc count) lt some zeros =
    absurd (omega (arith, zeros 0 (omega arith)))
pair_words-set b (zero ∷ cut) (suc j) (suc count) lt some zeros =
    let there : b + 1 + j ≡ b + suc j = omega arith in
    pair_words-set (b + 1) cut j (suc count) (omega arith) some
    (λ k le. zeros (suc k) (omega arith))
    ∙ ap (λ (i : ℕ). pair_words (b + 1) cut ++ pair_word i (suc count) ∷ []) there
pair_words-set b (suc c ∷ cut) (suc j) (suc count) lt some zeros =
    let there : b + 1 + j ≡ b + suc j = omega arith in
    ap (λ (ws : List (List ℕ)). pair_word b (suc c) ∷ ws) (pair_words-set (b + 1) cut j (suc count)
    (omega arith) some (λ k le. zeros (suc k) (omega arith))
    ∙ ap (λ (i : ℕ). pair_words (b + 1) cut ++ pair_word i (suc count) ∷ []) there)

-- counts that are numbers still are after one is set to a number
pub numbers-set : (cut : List ℕ) (j count : ℕ) → count < 2 ^ 64 → AreNumbers cut
    → AreNumbers (set cut j count)
numbers-set [] j count small h = tt
numbers-set (c ∷ cut) zero count small h = (small, h.1)
numbers-set (c ∷ cut) (suc j) count small h = (h.0, numbers-set cut j count small h.1)

pub numbers-zeros : (cut : List ℕ) → ((k : ℕ) → get_or cut k 0 ≡ 0) → AreNumbers cut
numbers-zeros [] h = tt
numbers-zeros (c ∷ cut) h = (omega (arith, h 0), numbers-zeros cut (λ k. h (suc k)))

-- words that begin with a word without a colon don't begin with a pair
pub lacks_pair : (word : List ℕ) (words all : List (List ℕ)) → all ≡ word ∷ words
    → cut_at 58 word ≡ None → NoPairFirst all
lacks_pair word words all e cut = rw e (ap is_some cut)

-- words that begin with a bad pair
pub bad_word : (n least : ℕ) (prefix suffix : List ℕ) (words all : List (List ℕ))
    → all ≡ (prefix ++ 58 ∷ suffix) ∷ words → AreParts prefix suffix
    → IsNoPair n (prefix ++ 58 ∷ suffix) → HasBadPair n least all
bad_word n least prefix suffix words all e parts h = rw e (ap is_some parts, inl h)

pub low_pair : (n least : ℕ) (prefix suffix : List ℕ) (j count : ℕ) (words all : List (List ℕ))
    → all ≡ (prefix ++ 58 ∷ suffix) ∷ words → AreParts prefix suffix
    → IsPair n (prefix ++ 58 ∷ suffix) j count
    → (j < least) ⊎ HasBadPair n (j + 1) words → HasBadPair n least all
low_pair n least prefix suffix j count words all e parts h k =
    rw e (ap is_some parts, inr (j, count, h, k))
