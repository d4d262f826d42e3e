-- Numbers of the calls that a table keeps.
use Rattle.std.proofs.Common.{◌≡◌, ℕ, ◌+◌, ◌<◌, ◌≤◌, ◌∙◌, Bool, true, false, List, [], ◌∷◌, ◌++◌, append-nil, length, get_or, if◌then◌else◌, refl, sym, ap, subst, inl, inr, arith}
use Rattle.std.specs.Prelude.{Vec}
use Rattle.std.proofs.lemmas.Bool.{cases_lt}
use Rattle.std.proofs.lemmas.List.{length_push, get_or_push, get_or_append_left, get_or_past, map-append}
use Rattle.book_base.specs.Book.{Page, calls_of}
use Rattle.smaller_book.specs.Part.{numbers_of}
use Rattle.smaller_book.specs.Numbers.{numbers_in, AreNumbersBelow, AreNumbersOf}

-- There are no numbers below a bound in the empty list.
pub none_below : (bound : ℕ) → AreNumbersBelow bound []
none_below bound = record {
  rising = λ j k less inside. absurd (omega arith);
  inside = λ k inside. absurd (omega arith);
}

-- Numbers below n, with n at their end, are numbers below n + 1.
push_below : (n : ℕ) (numbers : List ℕ) → AreNumbersBelow n numbers
    → AreNumbersBelow (n + 1) (numbers ++ n ∷ [])
push_below n numbers so_far =
    let more : List ℕ = numbers ++ n ∷ [] in
    let long : length more ≡ length numbers + 1 = length_push numbers n in
    let old : (k : ℕ) → k < length numbers → get_or more k 0 ≡ get_or numbers k 0 =
    λ k less. get_or_append_left numbers (n ∷ []) 0 k less in
    let last : get_or more (length numbers) 0 ≡ n = get_or_push numbers n 0 (length numbers) refl in
    record {
      rising = λ (j k : ℕ) (less : j < k) (inside : k < length more).
          elim (cases_lt k (length numbers)) [
            | inl before ↦ omega (
              arith,
              old k before,
              old j (omega (arith, less, before)),
              so_far.rising j k less before,
            )
            | inr most ↦
                let at : k ≡ length numbers = omega (arith, inside, long, most) in
                let first : j < length numbers = omega (arith, less, at) in
                omega (
                  arith,
                  ap (λ (i : ℕ). get_or more i 0) at,
                  last,
                  old j first,
                  so_far.inside j first,
                )
          ];
      inside = λ (k : ℕ) (less : k < length more). elim (cases_lt k (length numbers)) [
        | inl before ↦ omega (arith, old k before, so_far.inside k before)
        | inr most ↦
            let at : k ≡ length numbers = omega (arith, less, long, most) in
            omega (arith, ap (λ (j : ℕ). get_or more j 0) at, last)
      ];
    }

-- Numbers below n, with n at their end where it stays, are numbers below n + 1.
pub push_below_if : (n : ℕ) (numbers more : List ℕ) (stays : Bool) → AreNumbersBelow n numbers
    → more ≡ numbers ++ (if stays then n ∷ [] else []) → AreNumbersBelow (n + 1) more
push_below_if n numbers more true so_far same =
    subst (AreNumbersBelow (n + 1)) (sym same) (push_below n numbers so_far)
push_below_if n numbers more false so_far same =
    subst (AreNumbersBelow (n + 1)) (sym (same ∙ append-nil numbers))
    (record {
      rising = so_far.rising;
      inside = λ k inside. omega (arith, so_far.inside k inside);
    })

-- There are n rows, each of numbers of its caller's calls.
abbrev pub RowsAreNumbers : List Page → ℕ → List (List ℕ) → Type 0
RowsAreNumbers book n names =
    (length names ≡ n)
    × ((i : ℕ) → i < n → AreNumbersBelow (calls_of book i) (numbers_of names i))

-- Rows of numbers, one for each caller, are rising numbers of the book's calls.
pub rows_are_numbers : (book : List Page) (names : List (List ℕ))
    → RowsAreNumbers book (length book) names → AreNumbersOf book names
rows_are_numbers book names (wide, rows) =
    let none : (i : ℕ) → length book ≤ i → numbers_of names i ≡ [] =
    λ i past. get_or_past names i [] (omega (arith, past, wide)) in
    let each : (i : ℕ) → AreNumbersBelow (calls_of book i) (numbers_of names i) =
    λ i. elim (cases_lt i (length book)) [
      | inl inside ↦ rows i inside
      | inr past ↦ subst (AreNumbersBelow (calls_of book i)) (sym (none i past))
          (none_below (calls_of book i))
    ] in
    record { wide = wide; rising = λ i. (each i).rising; inside = λ i. (each i).inside }

rows_push : (book : List Page) (n : ℕ) (names : List (List ℕ)) (row : List ℕ)
    → RowsAreNumbers book n names → AreNumbersBelow (calls_of book n) row
    → RowsAreNumbers book (n + 1) (names ++ row ∷ [])
rows_push book n names row (long, rows) last = (
  omega (arith, length_push names row, long),
  λ (i : ℕ) (less : i < n + 1). elim (cases_lt i n) [
    | inl before ↦
        let P : List ℕ → Type 0 = λ xs. AreNumbersBelow (calls_of book i) xs in
        subst P (sym (get_or_append_left names (row ∷ []) [] i (omega (arith, before, long))))
        (rows i before)
    | inr most ↦
        let at : i ≡ n = omega arith in
        let P : ℕ → Type 0 =
        λ j. AreNumbersBelow (calls_of book j) (numbers_of (names ++ row ∷ []) j) in
        let here : P n = subst (λ (xs : List ℕ). AreNumbersBelow (calls_of book n) xs)
        (sym (get_or_push names row [] n long)) last in
        subst P (sym at) here
  ],
)

-- With one more row of numbers of the next caller's calls, n rows are n + 1 rows.
pub rows_more : {A : Type 0} (book : List Page) (n : ℕ) (rows new : List (Vec ℕ A))
    (row : Vec ℕ A) → RowsAreNumbers book n (numbers_in rows) → new ≡ rows ++ row ∷ []
    → AreNumbersBelow (calls_of book n) row.items
    → RowsAreNumbers book (n + 1) (numbers_in new)
rows_more {A} book n rows new row before same last =
    let items : Vec ℕ A → List ℕ = λ v. v.items in
    let whole : numbers_in new ≡ numbers_in rows ++ row.items ∷ [] =
    ap numbers_in same ∙ map-append items rows (row ∷ []) in
    subst (RowsAreNumbers book (n + 1)) (sym whole)
    (rows_push book n (numbers_in rows) row.items before last)
