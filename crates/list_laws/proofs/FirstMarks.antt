-- Words that are cut at the first place of a byte: the parts before and after it are determined.
use Rattle.std.proofs.Common.{◌≡◌, ◌≢◌, ℕ, ◌^◌, ◌<◌, false, eqb, List, [], ◌∷◌, ◌++◌, get_or, decimal, sym, refl, ne_eqb}
use Rattle.std.specs.Int.{IsInRange}
use Rattle.std.proofs.lemmas.Bool.{both_ways, eq-eqb}
use Rattle.std.proofs.lemmas.List.{get_or_default}
use Rattle.std.proofs.lemmas.List.Elements.{All-head, All-tail}
use Rattle.list_laws.proofs.Decimals.{decimal_byte}
use Rattle.list_laws.proofs.Splits.{Lacks}

-- a word that lacks a byte doesn't begin with it
not-first : (mark : ℕ) (x : ℕ) (word : List ℕ) → Lacks mark (x ∷ word) → mark ≢ x
not-first mark x word lacks same =
    both_ways (eqb x mark) (All-head (λ b. eqb b mark ≡ false) x word lacks)
    (eq-eqb x mark (sym same))

-- two ways to cut a word at a byte, each with a first part that lacks it, are one
pub first_mark-once : (mark : ℕ) (before other suffix rest : List ℕ) → Lacks mark before
    → Lacks mark other
    → before ++ mark ∷ suffix ≡ other ++ mark ∷ rest → (before ≡ other) × (suffix ≡ rest)
first_mark-once mark [] [] suffix rest lacks other_lacks same = (refl, cc)
first_mark-once mark [] (y ∷ other) suffix rest lacks other_lacks same =
    absurd (not-first mark y other other_lacks cc)
first_mark-once mark (x ∷ before) [] suffix rest lacks other_lacks same =
    absurd (not-first mark x before lacks cc)
first_mark-once mark (x ∷ before) (y ∷ other) suffix rest lacks other_lacks same =
    let tails = first_mark-once mark before other suffix rest
    (All-tail (λ b. eqb b mark ≡ false) x before lacks)
    (All-tail (λ b. eqb b mark ≡ false) y other other_lacks) cc in
    (cc, tails.1)

-- a word with a byte in it doesn't lack this byte
pub not-Lacks-marked : (mark : ℕ) (before suffix : List ℕ)
    → Lacks mark (before ++ mark ∷ suffix) → ⊥
not-Lacks-marked mark [] suffix lacks = not-first mark mark suffix lacks refl
not-Lacks-marked mark (x ∷ before) suffix lacks =
    not-Lacks-marked mark before suffix
    (All-tail (λ b. eqb b mark ≡ false) x (before ++ mark ∷ suffix) lacks)

-- the text of a number lacks each byte that is no digit
pub decimal-Lacks : (mark n : ℕ) → n < 2 ^ 64 → (IsInRange 48 57 mark → ⊥) → Lacks mark (decimal n)
decimal-Lacks mark n small no_digit k d inside =
    let digit = decimal_byte n k small inside in
    let here : IsInRange 48 57 (get_or (decimal n) k d) =
    rw (get_or_default (decimal n) k d 0 inside) digit in
    ne_eqb (get_or (decimal n) k d) mark (λ same. no_digit (rw same at here))
