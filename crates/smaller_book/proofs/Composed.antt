-- Numbers of calls through a part of a part.
use Rattle.std.proofs.Common.{◌≡◌, ℕ, ◌<◌, ◌∙◌, List, [], length, get_or, sym, ap, zero-add, arith}
use Rattle.std.specs.List.{range_with_len}
use Rattle.std.proofs.lemmas.List.{ext_get_or, length-map}
use Rattle.std.proofs.lemmas.List.FromFn.{get_or-range_with_len, length-range_with_len, length-map-range_with_len}
use Rattle.book_base.specs.Book.{Page, calls_of}
use Rattle.smaller_book.specs.Part.{numbers_of}
use Rattle.smaller_book.specs.Numbers.{picked, composed}
use Rattle.smaller_book.specs.Earliest.{all_numbers}
use Rattle.smaller_book.proofs.LeastCuts.{numbers_of-all}
use Rattle.smaller_book.proofs.PartsOfParts.{numbers_of-composed, get_or-picked}

length-picked : (numbers places : List ℕ) → length (picked numbers places) ≡ length places
length-picked numbers places = length-map places (λ (place : ℕ). get_or numbers place 0)

-- The numbers at all places of a list are the list.
picked-all : (numbers : List ℕ) → picked numbers (range_with_len 0 (length numbers)) ≡ numbers
picked-all numbers =
    let places : List ℕ = range_with_len 0 (length numbers) in
    let long : length (picked numbers places) ≡ length numbers =
    length-picked numbers places ∙ length-range_with_len 0 (length numbers) in
    ext_get_or 0 (picked numbers places) numbers long
    (λ (k : ℕ) (inside : k < length (picked numbers places)).
    let few : k < length numbers = omega (arith, inside, long) in
    get_or-picked numbers places k (omega (arith, inside, length-picked numbers places))
    ∙ ap (λ (place : ℕ). get_or numbers place 0)
    (get_or-range_with_len 0 (length numbers) k 0 few ∙ zero-add k))

-- Of the numbers below n, from 0 up, those at some places are the places.
picked-range : (n : ℕ) (places : List ℕ) → ((k : ℕ) → k < length places → get_or places k 0 < n)
    → picked (range_with_len 0 n) places ≡ places
picked-range n places inside =
    ext_get_or 0 (picked (range_with_len 0 n) places) places
    (length-picked (range_with_len 0 n) places)
    (λ (k : ℕ) (less : k < length (picked (range_with_len 0 n) places)).
    let few : k < length places =
    omega (arith, less, length-picked (range_with_len 0 n) places) in
    get_or-picked (range_with_len 0 n) places k few
    ∙ (get_or-range_with_len 0 n (get_or places k 0) 0 (inside k few)
    ∙ zero-add (get_or places k 0)))

picked-picked : (numbers places more : List ℕ)
    → ((k : ℕ) → k < length more → get_or more k 0 < length places)
    → picked numbers (picked places more) ≡ picked (picked numbers places) more
picked-picked numbers places more inside =
    ext_get_or 0 (picked numbers (picked places more)) (picked (picked numbers places) more)
    (length-picked numbers (picked places more)
    ∙ (length-picked places more ∙ sym (length-picked (picked numbers places) more)))
    (λ (k : ℕ) (less : k < length (picked numbers (picked places more))).
    let shorter : k < length (picked places more) =
    omega (arith, less, length-picked numbers (picked places more)) in
    let few : k < length more = omega (arith, shorter, length-picked places more) in
    get_or-picked numbers (picked places more) k shorter
    ∙ (ap (λ (place : ℕ). get_or numbers place 0) (get_or-picked places more k few)
    ∙ (sym (get_or-picked numbers places (get_or more k 0) (inside k few))
    ∙ sym (get_or-picked (picked numbers places) more k few))))

-- Lists of numbers are equal that are as many and have the same numbers for each caller.
same_rows : (a b : List (List ℕ)) → length a ≡ length b
    → ((i : ℕ) → numbers_of a i ≡ numbers_of b i) → a ≡ b
same_rows a b wide same = ext_get_or [] a b wide (λ (i : ℕ) (less : i < length a). same i)

length-composed : (first second : List (List ℕ)) → length (composed first second) ≡ length second
length-composed first second =
    let places : ℕ → List ℕ = λ i. picked (numbers_of first i) (numbers_of second i) in
    length-map-range_with_len places 0 (length second)

-- The numbers of a part are its numbers through the whole book.
pub composed-whole_first : (book : List Page) (names : List (List ℕ)) → length names ≡ length book
    → ((i k : ℕ) → k < length (numbers_of names i)
    → get_or (numbers_of names i) k 0 < calls_of book i)
    → composed (all_numbers book) names ≡ names
composed-whole_first book names wide inside =
    same_rows (composed (all_numbers book) names) names
    (length-composed (all_numbers book) names)
    (λ (i : ℕ).
    numbers_of-composed (all_numbers book) names i
    ∙ (ap (λ (xs : List ℕ). picked xs (numbers_of names i)) (numbers_of-all book i)
    ∙ picked-range (calls_of book i) (numbers_of names i) (inside i)))

-- The numbers of a part are the numbers of all its calls through it.
pub composed-whole_second : (names : List (List ℕ)) (part : List Page)
    → length names ≡ length part → ((i : ℕ) → calls_of part i ≡ length (numbers_of names i))
    → composed names (all_numbers part) ≡ names
composed-whole_second names part wide calls =
    let places : ℕ → List ℕ = λ i. range_with_len 0 (calls_of part i) in
    same_rows (composed names (all_numbers part)) names
    (length-composed names (all_numbers part)
    ∙ (length-map-range_with_len places 0 (length part) ∙ sym wide))
    (λ (i : ℕ).
    numbers_of-composed names (all_numbers part) i
    ∙ (ap (picked (numbers_of names i))
    (numbers_of-all part i ∙ ap (range_with_len 0) (calls i))
    ∙ picked-all (numbers_of names i)))

-- Numbers through two parts, and then through a third, are those through the first, and then
-- through the other two.
pub composed-composed : (first second third : List (List ℕ))
    → ((i k : ℕ) → k < length (numbers_of third i)
    → get_or (numbers_of third i) k 0 < length (numbers_of second i))
    → composed (composed first second) third ≡ composed first (composed second third)
composed-composed first second third inside =
    same_rows (composed (composed first second) third) (composed first (composed second third))
    (length-composed (composed first second) third
    ∙ (sym (length-composed second third) ∙ sym (length-composed first (composed second third))))
    (λ (i : ℕ).
    numbers_of-composed (composed first second) third i
    ∙ (ap (λ (xs : List ℕ). picked xs (numbers_of third i)) (numbers_of-composed first second i)
    ∙ (sym
    (picked-picked (numbers_of first i) (numbers_of second i) (numbers_of third i) (inside i))
    ∙ (sym (ap (picked (numbers_of first i)) (numbers_of-composed second third i))
    ∙ sym (numbers_of-composed first (composed second third) i)))))
