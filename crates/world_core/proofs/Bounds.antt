-- The words of a scan over counts that never fall, while its own caller's count stays as it is, are
-- few.
use Rattle.std.proofs.Common.{◌≡◌, ℕ, zero, suc, ◌+◌, ◌-◌, ◌*◌, ◌/◌, ◌<◌, ◌≤◌, Bool, true, false, if◌then◌else◌, nat_lt, List, [], ◌∷◌, ◌++◌, length, take, drop, slice_index, sum, Option, Some, None, refl, sym, ap, ◌∙◌, arith, inl, inr, length-drop}
use Rattle.std.proofs.lemmas.List.{drop-append-le, take-append-le, take-append-drop, length-take-le, get_or-take, get_or-drop}
use Rattle.std.proofs.lemmas.Nat.{div-mul-add, mul-le}
use Rattle.std.proofs.lemmas.Bool.{cases_Bool, cases_lt, cases_eq, lt-ltb}
use Rattle.list_laws.proofs.Counting.{count-below, count-close, sum-within_but, sum-rises_apart}
use Rattle.world_core.specs.declared.course.Course.{Course}
use Rattle.world_core.specs.declared.course.Course.TheVariants.{Collects, Borrows, Ends}
use Rattle.world_core.specs.Scan.{round, last_of, open_round, course, course_after, course_on, lent_by, mover, mover_from, is_same_cut, wanted, wanted_by, is_look, is_peek, looks, has_ended, IsSteady, IsShort, AreWanted}

-- Whole rounds of some words, and what a scan did after them, stay as they are where words are
-- added.
module _ (n : ℕ) (xs ys : List ℕ) where
  round_prefix : (k : ℕ) → k * n + n ≤ length xs → round n (xs ++ ys) k ≡ round n xs k
  round_prefix k fits =
      ap (take n) (drop-append-le (k * n) xs ys (omega arith))
      ∙ take-append-le n (drop (k * n) xs) ys (omega (arith, length-drop (k * n) xs))

  last_prefix : (k : ℕ) → k * n ≤ length xs → last_of n (xs ++ ys) k ≡ last_of n xs k
  last_prefix zero fits = refl
  last_prefix (suc k) fits = ap Some (round_prefix k (omega arith))

  course_prefix : (k : ℕ) → k * n ≤ length xs → course_after n (xs ++ ys) k ≡ course_after n xs k
  course_prefix zero fits = refl
  course_prefix (suc k) fits =
      let before : course_after n (xs ++ ys) k ≡ course_after n xs k =
      course_prefix k (omega arith) in
      let f : round n (xs ++ ys) 0 ≡ round n xs 0 = round_prefix 0 (omega (arith, fits)) in
      let l : last_of n (xs ++ ys) k ≡ last_of n xs k = last_prefix k (omega arith) in
      let r : round n (xs ++ ys) k ≡ round n xs k = round_prefix k (omega arith) in
      cc (before, f, l, r)

-- Whether a scan collects, and whether it borrows: it needs a look exactly where it collects, and a
-- peek exactly where it borrows.
abbrev is_collecting : Course → Bool
is_collecting Collects = true
is_collecting _ = false

abbrev is_borrowing : Course → Bool
is_borrowing (Borrows j row) = true
is_borrowing _ = false

look_by : (c : Course) (words : List ℕ) → is_look (wanted_by c words) ≡ is_collecting c
look_by Collects words = refl
look_by (Borrows j row) words = refl
look_by (Ends cut) words = refl

peek_by : (c : Course) (words : List ℕ) → is_peek (wanted_by c words) ≡ is_borrowing c
peek_by Collects words = refl
peek_by (Borrows j row) words = refl
peek_by (Ends cut) words = refl

collecting_is : (c : Course) → is_collecting c ≡ true → c ≡ Collects
collecting_is Collects h = refl
collecting_is (Borrows j row) h = absurd cc
collecting_is (Ends cut) h = absurd cc

-- a scan that collects or borrows after a round made a collect in that round
collects_before : (f : List ℕ) (l : Option (List ℕ)) (r : List ℕ) (c : Course)
    → course_on f l r c ≡ Collects → c ≡ Collects
collects_before f l r Collects h = refl
collects_before f l r (Borrows j row) h = absurd cc
collects_before f l r (Ends cut) h = absurd cc

borrows_before : (f : List ℕ) (l : Option (List ℕ)) (r : List ℕ) (c : Course)
    → is_borrowing (course_on f l r c) ≡ true → c ≡ Collects
borrows_before f l r Collects h = refl
borrows_before f l r (Borrows j row) h = absurd cc
borrows_before f l r (Ends cut) h = absurd cc

lent_none : (latest : List ℕ) (m : Option ℕ) → lent_by latest m ≡ Collects → m ≡ None
lent_none latest None h = refl
lent_none latest (Some j) h = absurd cc

-- what holds of a collect after which a scan makes another: it differs from the collect before it,
-- and no caller has moved twice since the first collect
record GoesOn (first before latest : List ℕ) : Type 0 where
  apart : is_same_cut before latest ≡ false
  nobody : mover first latest ≡ None

going_on : (b : Bool) (first before latest : List ℕ) → is_same_cut before latest ≡ b
    → (if b then Ends latest else lent_by latest (mover first latest)) ≡ Collects
    → GoesOn first before latest
going_on true first before latest e h = absurd cc
going_on false first before latest e h =
    record { apart = e; nobody = lent_none latest (mover first latest) h }

-- where no caller has moved twice, each count in the second collect is at most 1 more than in the
-- first
mover_none : (j : ℕ) (a b : List ℕ) → mover_from j a b ≡ None → (t : ℕ) → t < length a
    → t < length b → slice_index b t ≤ slice_index a t + 1
mover_none j [] b h t below low = absurd (omega arith)
mover_none j (x ∷ xs) [] h t below low = absurd (omega arith)
mover_none j (x ∷ xs) (y ∷ ys) h zero below low = elim (cases_lt (x + 1) y) [
  | inl moved ↦ let never : Some j ≡ None = sym
      (ap (λ (b : Bool). if b then Some j else mover_from (suc j) xs ys) (lt-ltb (x + 1) y moved))
      ∙ h in absurd cc
  | inr stays ↦ omega arith
]
mover_none j (x ∷ xs) (y ∷ ys) h (suc t) below low = elim (cases_Bool (nat_lt (x + 1) y)) [
  | inl moved ↦ let never : Some j ≡ None =
      sym (ap (λ (b : Bool). if b then Some j else mover_from (suc j) xs ys) moved) ∙ h in absurd cc
  | inr stays ↦ mover_none (suc j) xs ys
      (sym (ap (λ (b : Bool). if b then Some j else mover_from (suc j) xs ys) stays) ∙ h) t
      (omega arith) (omega arith)
]

-- The words of a scan, and the number of the caller that makes it.
module _ (n me : ℕ) (xs : List ℕ) (low : me < n) where
  some : 0 < n
  some = omega (arith, low)

  row_starts : (p : ℕ) → (p / n) * n ≤ p
  row_starts p = let h = some in omega arith

  row_ends : (p : ℕ) → p < (p / n) * n + n
  row_ends p = let h = some in omega arith

  -- what a scan does that has taken the first p of the words: what it does after the whole rounds
  -- among them
  course_at : (p : ℕ) → p ≤ length xs → course n (take p xs) ≡ course_after n xs (p / n)
  course_at p le =
      let prefix : length (take p xs) ≡ p = length-take-le p xs le in
      ap (λ (m : ℕ). course_after n (take p xs) (m / n)) prefix
      ∙ sym (course_prefix n (take p xs) (drop p xs) (p / n) (omega (arith, prefix, row_starts p)))
      ∙ ap (λ (ws : List ℕ). course_after n ws (p / n)) (take-append-drop p xs)

  look_at : (p : ℕ) → p ≤ length xs
      → is_look (wanted n (take p xs)) ≡ is_collecting (course_after n xs (p / n))
  look_at p le =
      look_by (course n (take p xs)) (open_round n (take p xs)) ∙ ap is_collecting (course_at p le)

  peek_at : (p : ℕ) → p ≤ length xs
      → is_peek (wanted n (take p xs)) ≡ is_borrowing (course_after n xs (p / n))
  peek_at p le =
      peek_by (course n (take p xs)) (open_round n (take p xs)) ∙ ap is_borrowing (course_at p le)

  -- word t of round k is word k * n + t of all words
  word_at : (k t : ℕ) → t < n → slice_index (round n xs k) t ≡ slice_index xs (k * n + t)
  word_at k t below = get_or-take n (drop (k * n) xs) t 0 below ∙ get_or-drop (k * n) xs t 0

  round_long : (k : ℕ) → k * n + n ≤ length xs → length (round n xs k) ≡ n
  round_long k fits = length-take-le n (drop (k * n) xs) (omega (arith, length-drop (k * n) xs))

  module _ (steady : IsSteady n me xs) where
    -- the words of a collect that isn't the first came of looks
    look_in : (k t : ℕ) → t < n → k * n + t + n < length xs → course_after n xs (suc k) ≡ Collects
        → is_look (wanted n (take (k * n + t + n) xs)) ≡ true
    look_in k t below fits going =
        look_at (k * n + t + n) (omega arith)
        ∙ ap (λ (m : ℕ). is_collecting (course_after n xs m))
        (ap (λ (m : ℕ). m / n) (let e : k * n + t + n ≡ suc k * n + t = omega arith in e)
        ∙ div-mul-add (suc k) n t below)
        ∙ ap is_collecting going

    round_rises : (k : ℕ) → suc (suc k) * n ≤ length xs → course_after n xs (suc k) ≡ Collects
        → (t : ℕ) → t < n → slice_index (round n xs k) t ≤ slice_index (round n xs (suc k)) t
    round_rises k fits going t below =
        let rises : slice_index xs (k * n + t) ≤ slice_index xs (k * n + t + n) =
        steady.rises (k * n + t) (omega arith) (look_in k t below (omega arith) going) in
        let there : k * n + t + n ≡ suc k * n + t = omega arith in
        omega (arith, rises, word_at k t below, word_at (suc k) t below, ap (slice_index xs) there)

    own_stays : (k : ℕ) → suc k * n ≤ length xs → course_after n xs k ≡ Collects
        → slice_index (round n xs k) me ≡ slice_index (round n xs 0) me
    own_stays zero fits going = refl
    own_stays (suc k) fits going =
        let before : course_after n xs k ≡ Collects = collects_before (round n xs 0)
        (last_of n xs k) (round n xs k) (course_after n xs k) going in
        let same : slice_index xs (k * n + me + n) ≡ slice_index xs (k * n + me) =
        steady.own (k * n + me) k refl (omega arith) (look_in k me low (omega arith) going) in
        let there : suc k * n + me ≡ k * n + me + n = omega arith in
        word_at (suc k) me low ∙ ap (slice_index xs) there ∙ same ∙ sym (word_at k me low)
        ∙ own_stays k (omega arith) before

    -- a collect that isn't the first, and after which the scan makes another, differs from the one
    -- before it, and by it no caller has moved twice since the first collect
    went_on : (k : ℕ) → course_after n xs (suc (suc k)) ≡ Collects
        → GoesOn (round n xs 0) (round n xs k) (round n xs (suc k))
    went_on k going =
        let before : course_after n xs (suc k) ≡ Collects = collects_before (round n xs 0)
        (Some (round n xs k)) (round n xs (suc k)) (course_after n xs (suc k)) going in
        going_on (is_same_cut (round n xs k) (round n xs (suc k))) (round n xs 0) (round n xs k)
        (round n xs (suc k)) refl
        (sym (ap (course_on (round n xs 0) (Some (round n xs k)) (round n xs (suc k))) before)
        ∙ going)

    sum_grows : (k : ℕ) → suc k * n ≤ length xs → course_after n xs (suc k) ≡ Collects
        → sum (round n xs 0) + k ≤ sum (round n xs k)
    sum_grows zero fits going = omega arith
    sum_grows (suc k) fits going =
        let before : course_after n xs (suc k) ≡ Collects = collects_before (round n xs 0)
        (Some (round n xs k)) (round n xs (suc k)) (course_after n xs (suc k)) going in
        let rest : sum (round n xs 0) + k ≤ sum (round n xs k) = sum_grows k (omega arith) before in
        let long : length (round n xs k) ≡ n = round_long k (omega arith) in
        let long' : length (round n xs (suc k)) ≡ n = round_long (suc k) (omega arith) in
        let more : sum (round n xs k) + 1 ≤ sum (round n xs (suc k)) =
        sum-rises_apart (round n xs k) (round n xs (suc k)) (long ∙ sym long')
        (λ t below. round_rises k fits before t (omega (arith, long))) (went_on k going).apart in
        omega (arith, rest, more)

    -- a scan that makes a collect has made at most n rounds before it
    pub collects_few : (k : ℕ) → k * n ≤ length xs → course_after n xs k ≡ Collects → k ≤ n
    collects_few zero fits going = omega arith
    collects_few (suc zero) fits going = omega (arith, low)
    collects_few (suc (suc k)) fits going =
        let before : course_after n xs (suc k) ≡ Collects = collects_before (round n xs 0)
        (Some (round n xs k)) (round n xs (suc k)) (course_after n xs (suc k)) going in
        let grown : sum (round n xs 0) + suc k ≤ sum (round n xs (suc k)) =
        sum_grows (suc k) (omega arith) going in
        let long : length (round n xs 0) ≡ n = round_long 0 (omega arith) in
        let long' : length (round n xs (suc k)) ≡ n = round_long (suc k) (omega arith) in
        let bound : sum (round n xs (suc k)) + 1 ≤ sum (round n xs 0) + length (round n xs 0) =
        sum-within_but (round n xs 0) (round n xs (suc k)) me (long ∙ sym long')
        (λ t below. mover_none 0 (round n xs 0) (round n xs (suc k))
        (went_on k going).nobody t below (omega (arith, long, long')))
        (omega (arith, long, low)) (own_stays (suc k) (omega arith) before) in
        omega (arith, grown, bound, long)

    looks_few : (p : ℕ) → p < length xs → is_look (wanted n (take p xs)) ≡ true → p < n * (n + 1)
    looks_few p below look =
        let going : course_after n xs (p / n) ≡ Collects =
        collecting_is (course_after n xs (p / n)) (sym (look_at p (omega arith)) ∙ look) in
        let few : p / n ≤ n = collects_few (p / n) (omega (arith, row_starts p)) going in
        omega (arith, row_ends p, mul-le (p / n) n n n few (omega arith))

    -- a scan that makes a collect made collects in all rounds before
    collects_down : (m k : ℕ) → k ≤ m → course_after n xs m ≡ Collects
        → course_after n xs k ≡ Collects
    collects_down zero k le going =
        ap (course_after n xs) (let e : k ≡ zero = omega arith in e) ∙ going
    collects_down (suc m) k le going = elim (cases_eq k (suc m)) [
      | inl here ↦ ap (course_after n xs) here ∙ going
      | inr away ↦
          collects_down m k (omega arith) (collects_before (round n xs 0) (last_of n xs m)
          (round n xs m) (course_after n xs m) going)
    ]

    -- a scan doesn't borrow in two rounds, since before it borrows it makes collects alone
    borrows_once : (k m : ℕ) → k < m → is_borrowing (course_after n xs k) ≡ true
        → is_borrowing (course_after n xs m) ≡ true → ⊥
    borrows_once k zero less first second = omega arith
    borrows_once k (suc m) less first second =
        let going : course_after n xs m ≡ Collects = borrows_before (round n xs 0) (last_of n xs m)
        (round n xs m) (course_after n xs m) second in
        let early : course_after n xs k ≡ Collects = collects_down m k (omega arith) going in
        let never : false ≡ true = sym (ap is_borrowing early) ∙ first in cc

    peeks_close : (p q : ℕ) → p < length xs → q < length xs → is_peek (wanted n (take p xs)) ≡ true
        → is_peek (wanted n (take q xs)) ≡ true → q < p + n
    peeks_close p q a b first second =
        let at_p : is_borrowing (course_after n xs (p / n)) ≡ true =
        sym (peek_at p (omega arith)) ∙ first in
        let at_q : is_borrowing (course_after n xs (q / n)) ≡ true =
        sym (peek_at q (omega arith)) ∙ second in
        elim (cases_lt (p / n) (q / n)) [
          | inl less ↦ absurd (borrows_once (p / n) (q / n) less at_p at_q)
          | inr not_less ↦ omega
              (arith, row_starts p, row_ends q, mul-le (q / n) n (p / n) n not_less (omega arith))
        ]

    -- a scan that borrows has made at most n + 1 collects before
    borrows_few : (k : ℕ) → k * n ≤ length xs
        → is_borrowing (course_after n xs k) ≡ true → k ≤ n + 1
    borrows_few zero fits borrows = omega arith
    borrows_few (suc k) fits borrows =
        let going : course_after n xs k ≡ Collects = borrows_before (round n xs 0) (last_of n xs k)
        (round n xs k) (course_after n xs k) borrows in
        omega (arith, collects_few k (omega arith) going)

    word_few : (k : ℕ) (c : Course) → course_after n xs k ≡ c → has_ended c ≡ false
        → k * n ≤ length xs → k ≤ n + 1
    word_few k Collects is going fits = omega (arith, collects_few k fits is)
    word_few k (Borrows j row) is going fits = borrows_few k fits (ap is_borrowing is)
    word_few k (Ends cut) is going fits = absurd cc

    words_few : (m : ℕ) → length xs ≡ m → AreWanted n xs → length xs ≤ n * (n + 1) + n
    words_few zero none wants = omega (arith, none)
    words_few (suc p) long wants =
        let going : has_ended (course_after n xs (p / n)) ≡ false =
        sym (ap has_ended (course_at p (omega (arith, long)))) ∙ wants p (omega (arith, long)) in
        let few : p / n ≤ n + 1 = word_few (p / n) (course_after n xs (p / n)) refl going
        (omega (arith, row_starts p, long)) in
        omega (arith, long, row_ends p, mul-le (p / n) n (n + 1) n few (omega arith))

    -- the words of a scan are few where they are steady
    pub scan_is_short : IsShort n xs
    scan_is_short =
        record {
          looks =
              let few : looks n xs ≤ n * (n + 1) - 0 =
              count-below (λ k. is_look (wanted n (take k xs))) (n * (n + 1)) 0 (length xs)
              (λ p a b look. looks_few p (omega arith) look) in
              omega (arith, few);
          peeks = count-close (λ k. is_peek (wanted n (take k xs))) n 0 (length xs)
              (λ p q a b first second. peeks_close p q (omega arith) (omega arith) first second);
          words = λ wants. words_few (length xs) refl wants;
        }
