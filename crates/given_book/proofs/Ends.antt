-- Where bytes have the end of a line and the line `end` after it.
use Rattle.std.proofs.Common.{ℕ, List, ◌++◌, ◌+◌, ◌<◌, ◌≤◌, ◌≡◌, ◌⊎◌, inl, inr, [], length, drop, arith, sym, ap, subst, ◌∙◌, true, false}
use Rattle.std.specs.Prelude.{codes}
use Rattle.std.proofs.Math.ListN.{drop_of_length-le}
use Rattle.std.proofs.Math.Nat.{eq-or-lt_of_le}
use Rattle.std.proofs.lemmas.Bool.{cases_order}
use Rattle.std.proofs.lemmas.List.{drop-drop}
use Rattle.given_book.specs.Given.{HasEndAt}

-- no line `end` begins where the bytes are over
pub none_past : (bytes : List ℕ) (i : ℕ) (rest : List ℕ) → length bytes ≤ i
    → ¬ (HasEndAt bytes i rest)
none_past bytes i rest past has =
    let e : [] ≡ codes "\nend\n" ++ rest = sym (drop_of_length-le bytes past) ∙ has in
    cc

-- the text after a line `end` is the rest of the bytes
pub end_rest : (bytes : List ℕ) (at : ℕ) (rest : List ℕ) → HasEndAt bytes at rest
    → HasEndAt bytes at (drop (at + 5) bytes)
end_rest bytes at rest has =
    let left : drop (at + 5) bytes ≡ rest = sym (drop-drop 5 at bytes) ∙ ap (λ xs. drop 5 xs) has in
    has ∙ ap (λ xs. codes "\nend\n" ++ xs) (sym left)

-- no test has both answers
pub never_both : {A : Type 0} → false ≡ true → A
never_both e = absurd cc

-- where no line `end` comes before a place and none at it, none comes at or before it
none_up_to : (bytes : List ℕ) (at : ℕ)
    → ((i : ℕ) (rest : List ℕ) → i < at → ¬ (HasEndAt bytes i rest))
    → ((rest : List ℕ) → ¬ (HasEndAt bytes at rest)) → (i : ℕ) (rest : List ℕ) → (i ≡ at) ⊎ (i < at)
    → ¬ (HasEndAt bytes i rest)
none_up_to bytes at before here i rest (inl is) has =
    here rest (subst (λ k. HasEndAt bytes k rest) is has)
none_up_to bytes at before here i rest (inr lt) has = before i rest lt has

-- where no line `end` comes before a place and none at it, none comes before the next place
pub none_before : (bytes : List ℕ) (at : ℕ)
    → ((i : ℕ) (rest : List ℕ) → i < at → ¬ (HasEndAt bytes i rest))
    → ((rest : List ℕ) → ¬ (HasEndAt bytes at rest)) → (i : ℕ) (rest : List ℕ) → i < at + 1
    → ¬ (HasEndAt bytes i rest)
none_before bytes at before here i rest below has =
    let le : i ≤ at = omega arith in
    none_up_to bytes at before here i rest (eq-or-lt_of_le le) has

none_around : (bytes : List ℕ) (at : ℕ)
    → ((i : ℕ) (rest : List ℕ) → i < at → ¬ (HasEndAt bytes i rest))
    → length bytes ≤ at → (i : ℕ) (rest : List ℕ) → (i ≡ at) ⊎ ((i < at) ⊎ (at < i))
    → ¬ (HasEndAt bytes i rest)
none_around bytes at before over i rest (inl is) has = let past : length bytes ≤ i = omega arith in
    none_past bytes i rest past has
none_around bytes at before over i rest (inr (inl lt)) has = before i rest lt has
none_around bytes at before over i rest (inr (inr gt)) has = let past : length bytes ≤ i =
    omega arith in none_past bytes i rest past has

-- where no line `end` comes before the bytes are over, there is none
pub none_at_all : (bytes : List ℕ) (at : ℕ)
    → ((i : ℕ) (rest : List ℕ) → i < at → ¬ (HasEndAt bytes i rest))
    → length bytes ≤ at → (i : ℕ) (rest : List ℕ) → ¬ (HasEndAt bytes i rest)
none_at_all bytes at before over i rest has =
    none_around bytes at before over i rest (cases_order i at) has
