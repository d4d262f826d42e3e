-- Lists that are cut at each element that passes a test.
use Rattle.std.proofs.Common.{◌≡◌, ℕ, ◌+◌, Bool, true, false, eqb, List, [], ◌∷◌, ◌++◌, length, All, refl, ap, ◌∙◌, arith}
use Rattle.std.specs.List.{list_all, prefix_len, slice_split, join_with_byte}
use Rattle.std.proofs.lemmas.Bool.{and_parts, cond-true, cond-false, eq-eqb}
use Rattle.std.proofs.lemmas.List.Elements.{All-head, All-tail}
use Rattle.std.proofs.lemmas.List.Splits.{slice_split_at, slice_split_none}

-- a prefix whose elements all pass, followed by an element that doesn't, is the longest prefix
-- whose elements all pass
pub prefix_len-prefix : {X : Type 0} (q : X → Bool) (xs : List X) (y : X) (ys : List X)
    → list_all q xs ≡ true → q y ≡ false → prefix_len q (xs ++ y ∷ ys) ≡ length xs
prefix_len-prefix q [] y ys a stops = cond-false (q y) (1 + prefix_len q ys) 0 stops
prefix_len-prefix q (x ∷ xs) y ys a stops =
    let parts = and_parts (q x) (list_all q xs) a in
    cond-true (q x) (1 + prefix_len q (xs ++ y ∷ ys)) 0 parts.0
    ∙ ap (λ (n : ℕ). 1 + n) (prefix_len-prefix q xs y ys parts.1 stops) ∙ omega arith

-- a word lacks a byte
abbrev pub Lacks : ℕ → List ℕ → Type 0
Lacks byte word = All (λ b. eqb b byte ≡ false) word

-- words that lack a byte, with one such byte between two, are cut into these words there
pub slice_split-join_with_byte : (byte : ℕ) (word : List ℕ) (words : List (List ℕ))
    → All (Lacks byte) (word ∷ words)
    → slice_split (λ b. eqb b byte) (join_with_byte byte (word ∷ words)) ≡ word ∷ words
slice_split-join_with_byte byte word [] all =
    slice_split_none (λ b. eqb b byte) word (All-head (Lacks byte) word [] all)
slice_split-join_with_byte byte word (next ∷ words) all =
    slice_split_at (λ b. eqb b byte) word byte (join_with_byte byte (next ∷ words))
    (All-head (Lacks byte) word (next ∷ words) all) (eq-eqb byte byte refl)
    ∙ ap (λ ws. word ∷ ws)
    (slice_split-join_with_byte byte next words (All-tail (Lacks byte) word (next ∷ words) all))
