-- What the transcripts of all callers of a tally, and of a cell, say together.
use Rattle.std.proofs.Common.{◌≡◌, ◌≢◌, ℕ, zero, suc, ◌+◌, ◌%◌, ◌^◌, ◌<◌, ◌≤◌, Bool, cond, ◌==◌, List, [], ◌∷◌, length, map, count_by, sum_by, refl, sym, ap, ◌∙◌, subst, inl, inr, arith, length-append, eq-eqb, ne_eqb}
use Rattle.std.specs.List.{All, range_with_len}
use Rattle.std.proofs.lemmas.Bool.{cases_Bool, cases_eq, cond-true, cond-false}
use Rattle.std.proofs.lemmas.List.Elements.{All-head, All-tail}
use Rattle.std.proofs.lemmas.List.Sums.{sum_by-cons}
use Rattle.shared_words.specs.Deeds.{Deed, Added, Loaded, place_of, HasFound, AreCalls}
use Rattle.shared_words.specs.Histories.{Access, access, deeds_by, word_at, IsLawfulHistory}
use Rattle.shared_words.specs.Transcripts.{Transcript, AreOfOneHistory}
use Rattle.shared_words.proofs.Histories.{deeds_by-append, lawful_prefix}
use Rattle.test_objects.specs.Forms.{increment, tally_may, cell_may, IsTallied, IsCellCall, IsLastStored}
use Rattle.test_objects.specs.Together.{increments_in, TellOneTally, TellOneCell, TalliesAreCounted, CellsAreRead}
use Rattle.test_objects.proofs.Counting.{tallies_count, cells_hold_the_last}

-- each increment found the number of those before it
pub tallies_are_counted : TalliesAreCounted
tallies_are_counted history lawful before rest a is =
    let right = lawful before rest a is in
    let deed = right.allowed.1 in
    let found : right.allowed.0 ≡ word_at 0 before =
    subst (λ (d : Deed). HasFound d (word_at (place_of d) before)) deed right.found in
    let first : IsLawfulHistory tally_may before = lawful_prefix tally_may before (a ∷ rest)
    (subst (λ (l : List Access). IsLawfulHistory tally_may l) is lawful) in
    deed ∙ ap (Added 0 1) (found ∙ tallies_count before first)

-- each load found the last word stored before it
pub cells_are_read : CellsAreRead
cells_are_read history lawful before rest who found is =
    let load = access who (Loaded 0 found) in
    let was : found ≡ word_at 0 before = (lawful before rest load is).found in
    let first : IsLawfulHistory cell_may before = lawful_prefix cell_may before (load ∷ rest)
    (subst (λ (l : List Access). IsLawfulHistory cell_may l) is lawful) in
    subst (λ (w : ℕ). IsLastStored w before) (sym was) (cells_hold_the_last before first)

-- ---- each access is one caller's

abbrev once_if : ℕ → ℕ → ℕ
once_if who i = cond (who == i) 1 0

once_own : (who i : ℕ) → who ≡ i → once_if who i ≡ 1
once_own who i is = ap (λ (b : Bool). cond b 1 0) (eq-eqb who i is)

once_other : (who i : ℕ) → who ≢ i → once_if who i ≡ 0
once_other who i isnt = ap (λ (b : Bool). cond b 1 0) (ne_eqb who i isnt)

-- a number below a range isn't in it, and one within is in it once
not_below : (who first n : ℕ) → who < first → sum_by (once_if who) (range_with_len first n) ≡ 0
not_below who first zero low = refl
not_below who first (suc n) low =
    let here = once_other who first (λ e. absurd (omega arith)) in
    let more = not_below who (first + 1) n (omega arith) in
    omega (arith, sum_by-cons (once_if who) first (range_with_len (first + 1) n), here, more)

once_within : (who first n : ℕ) → first ≤ who → who < first + n
    → sum_by (once_if who) (range_with_len first n) ≡ 1
once_within who first zero from to = absurd (omega arith)
once_within who first (suc n) from to = elim (cases_eq who first) [
  | inl is ↦
      let here = once_own who first is in
      let more = not_below who (first + 1) n (omega arith) in
      omega (arith, sum_by-cons (once_if who) first (range_with_len (first + 1) n), here, more)
  | inr isnt ↦
      let here = once_other who first isnt in
      let more = once_within who (first + 1) n (omega arith) (omega arith) in
      omega (arith, sum_by-cons (once_if who) first (range_with_len (first + 1) n), here, more)
]

sum_of_none : (xs : List ℕ) → sum_by (λ (i : ℕ). 0) xs ≡ 0
sum_of_none [] = refl
sum_of_none (x ∷ xs) = omega (arith, sum_by-cons (λ (i : ℕ). 0) x xs, sum_of_none xs)

sum_of_both : (f g : ℕ → ℕ) (xs : List ℕ)
    → sum_by (λ (i : ℕ). f i + g i) xs ≡ sum_by f xs + sum_by g xs
sum_of_both f g [] = refl
sum_of_both f g (x ∷ xs) =
    omega (
      arith,
      sum_by-cons (λ (i : ℕ). f i + g i) x xs,
      sum_by-cons f x xs,
      sum_by-cons g x xs,
      sum_of_both f g xs,
    )

-- The number of a caller's deeds in a history.
abbrev deeds_many : List Access → ℕ → ℕ
deeds_many history i = length (deeds_by i history)

many_of_one : (a : Access) (i : ℕ) → deeds_many (a ∷ []) i ≡ once_if a.caller i
many_of_one a i = elim (cases_Bool (a.caller == i)) [
  | inl own ↦
      ap (λ (l : List Access). length (map (λ (b : Access). b.deed) l))
      (cond-true (a.caller == i) (a ∷ []) [] own)
      ∙ sym (ap (λ (b : Bool). cond b 1 0) own)
  | inr other ↦
      ap (λ (l : List Access). length (map (λ (b : Access). b.deed) l))
      (cond-false (a.caller == i) (a ∷ []) [] other)
      ∙ sym (ap (λ (b : Bool). cond b 1 0) other)
]

many_more : (a : Access) (history : List Access) (i : ℕ)
    → deeds_many (a ∷ history) i ≡ once_if a.caller i + deeds_many history i
many_more a history i =
    ap (λ (l : List Deed). length l) (deeds_by-append i (a ∷ []) history)
    ∙ length-append (deeds_by i (a ∷ [])) (deeds_by i history)
    ∙ ap (λ (k : ℕ). k + deeds_many history i) (many_of_one a i)

-- the callers' deeds are as many as the accesses
each_is_one_callers : (n : ℕ) (history : List Access) → All (λ (a : Access). a.caller < n) history
    → sum_by (deeds_many history) (range_with_len 0 n) ≡ length history
each_is_one_callers n [] callers = sum_of_none (range_with_len 0 n)
each_is_one_callers n (a ∷ history) callers =
    let ids : List ℕ = range_with_len 0 n in
    let low = All-head (λ (b : Access). b.caller < n) a history callers in
    let split : sum_by (deeds_many (a ∷ history)) ids
    ≡ sum_by (λ (i : ℕ). once_if a.caller i + deeds_many history i) ids =
    ap (λ (f : ℕ → ℕ). sum_by f ids) (λ k i. many_more a history i k) in
    let both = sum_of_both (once_if a.caller) (deeds_many history) ids in
    let one = once_within a.caller 0 n (omega arith) (omega (arith, low)) in
    let more =
    each_is_one_callers n history (All-tail (λ (b : Access). b.caller < n) a history callers) in
    omega (arith, split, both, one, more)

-- ---- a caller has as many increments in its transcript as it made additions

abbrev is_increment : ℕ × ℕ → Bool
is_increment pair = pair.0 == increment

told_as_made : (pairs : List (ℕ × ℕ)) (before after : List Deed)
    → AreCalls IsTallied pairs before after
    → length after ≡ length before + count_by is_increment pairs
told_as_made [] before after calls = let same = ap (λ (l : List Deed). length l) calls in
    omega (arith, same)
told_as_made (pair ∷ pairs) before after calls =
    let more = told_as_made pairs calls.0 after calls.2 in
    let counts = sum_by-cons (λ (p : ℕ × ℕ). cond (is_increment p) 1 0) pair pairs in
    elim (cases_eq pair.0 increment) [
      | inl is ↦
          let c = calls.1.counts is in
          let here = once_own pair.0 increment is in
          let made = ap (λ (l : List Deed). length l) c.1 in
          omega (arith, more, counts, here, made, length-append before (Added 0 1 c.0 ∷ []))
      | inr isnt ↦
          let c = calls.1.other isnt in
          let here = once_other pair.0 increment isnt in
          let made = ap (λ (l : List Deed). length l) c.0 in
          omega (arith, more, counts, here, made)
    ]

all_told : (history : List Access) (transcripts : List Transcript)
    → All (λ (t : Transcript). AreCalls IsTallied t.pairs [] (deeds_by t.caller history))
    transcripts
    → sum_by increments_in transcripts
    ≡ sum_by (deeds_many history) (map (λ (t : Transcript). t.caller) transcripts)
all_told history [] calls = refl
all_told history (t ∷ transcripts) calls =
    let mine = λ (u : Transcript). AreCalls IsTallied u.pairs [] (deeds_by u.caller history) in
    let here =
    told_as_made t.pairs [] (deeds_by t.caller history) (All-head mine t transcripts calls) in
    let more = all_told history transcripts (All-tail mine t transcripts calls) in
    omega (
      arith,
      sum_by-cons increments_in t transcripts,
      sum_by-cons (deeds_many history) t.caller
          (map (λ (u : Transcript). u.caller) transcripts),
      here,
      more,
    )

-- transcripts that are of one history of a tally are together those of one tally
pub one_tally : (n : ℕ) (history : List Access) (transcripts : List Transcript)
    → AreOfOneHistory tally_may (λ _. IsTallied) n history transcripts
    → TellOneTally n history transcripts
one_tally n history transcripts one =
    let all : length history ≡ sum_by increments_in transcripts =
    sym (all_told history transcripts one.calls
    ∙ ap (λ (ids : List ℕ). sum_by (deeds_many history) ids) one.all
    ∙ each_is_one_callers n history one.callers) in
    record {
      told = one;
      counted = tallies_are_counted history one.lawful;
      all = all;
      word = tallies_count history one.lawful ∙ ap (λ (k : ℕ). k % 2 ^ 64) all;
    }

pub one_cell : (n : ℕ) (history : List Access) (transcripts : List Transcript)
    → AreOfOneHistory cell_may (λ _. IsCellCall) n history transcripts
    → TellOneCell n history transcripts
one_cell n history transcripts one =
    record {
      told = one;
      found = cells_are_read history one.lawful;
      word = cells_hold_the_last history one.lawful;
    }
