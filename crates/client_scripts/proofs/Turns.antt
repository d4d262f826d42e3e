-- The turns of a script, read one after another, and the fault of a line.
use Rattle.std.proofs.Common.{◌≡◌, ℕ, ◌<◌, ◌≤◌, ◌^◌, ◌⊎◌, List, [], ◌∷◌, ◌++◌, map, decimal, Ok, sym, arith, inl, inr}
use Rattle.std.specs.List.{AllByRecursion}
use Rattle.book_base.specs.declared.fault.What.{What}
use Rattle.book_base.specs.declared.fault.ReadFault.{ReadFault}
use Rattle.book_base.specs.declared.fault.ReadFault.TheVariants.{Text, NoMemory}
use Rattle.text_fields.specs.Counts.{AreNumbers}
use Rattle.text_fields.specs.Lines.{Unread, line_at, words_of}
use Rattle.text_fields.specs.Faults.{ALine, Rules, IsFirstTest, StopsFor}
use Rattle.text_fields.proofs.NumberTexts.{same_first}
use Rattle.text_fields.proofs.Sharp.{stops_line}

-- where there is a further word, it is the next turn's
pub turn_after : (n : ℕ) (xs ys : List ℕ) (word : List ℕ) (words : List (List ℕ))
    → map decimal ys ≡ map decimal xs ++ word ∷ words → AllByRecursion (λ caller. caller < n) ys
    → (caller : ℕ) × (caller < n) × (word ≡ decimal caller)
turn_after n [] [] word words e h = absurd cc
turn_after n [] (y ∷ ys) word words e h =
    (y, h.0, sym (same_first (decimal y) word (map decimal ys) words e).0)
turn_after n (x ∷ xs) [] word words e h = absurd cc
turn_after n (x ∷ xs) (y ∷ ys) word words e h = turn_after n xs ys word words
    (same_first (decimal y) (decimal x) (map decimal ys) (map decimal xs ++ word ∷ words) e).1 h.1

-- the numbers of callers can be written
pub numbers_below : (n : ℕ) (xs : List ℕ) → n ≤ 2 ^ 64 → AllByRecursion (λ caller. caller < n) xs
    → AreNumbers xs
numbers_below n [] few h = tt
numbers_below n (x ∷ xs) few h = (let lt : x < n = h.0 in omega arith, numbers_below n xs few h.1)

-- what a whole line is refused with
pub stops_here : {Due : Type 0} (rules : Rules Due) (due : Due) (text left : Unread) (line : List ℕ)
    (number : ℕ) (e : ReadFault) → number ≡ text.number → rules.wanted due ≡ ALine
    → line_at text ≡ Ok (line, left)
    → (e ≡ NoMemory) ⊎ ((what : What) × (e ≡ Text (record { line = number; what = what }))
    × IsFirstTest (rules.Fails due (words_of line)) what) → StopsFor rules due text e
stops_here rules due text left line number e n w is (inl none) = rw none tt
stops_here rules due text left line number e n w is (inr f) =
    rw (f.1, n) (stops_line rules due text left line f.0 w is f.2)
