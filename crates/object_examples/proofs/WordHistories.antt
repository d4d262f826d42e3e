-- Which of the worked histories are lawful, and whose transcripts are of them.
use Rattle.std.proofs.Common.{◌≡◌, ℕ, ◌<◌, List, [], ◌∷◌, ◌++◌, length, get_or, refl, sym, ap, ◌∙◌, subst, arith, append_assoc}
use Rattle.std.specs.List.{All}
use Rattle.std.proofs.lemmas.List.{append-nil}
use Rattle.std.proofs.lemmas.List.Elements.{All-nil, All-cons, All-head}
use Rattle.shared_words.specs.Deeds.{Deed, Added, Stored, Loaded, Swapped, AreCalls}
use Rattle.shared_words.specs.Histories.{Access, access, deeds_by, IsRightAccess, IsLawfulHistory}
use Rattle.shared_words.specs.Transcripts.{Transcript, AreOfOneHistory}
use Rattle.object_examples.specs.WordHistories.{on_two_words, all_may, additions_may, adds_1, adds, three_additions, transcript, told_by_0, told_by_1}
use Rattle.shared_words.proofs.Histories.{lawful_none, lawful_push}

-- Each of these accesses is right after those before it.
abbrev pub AllRight : (ℕ → Deed → Type 0) → List Access → List Access → Type 0
AllRight may before [] = Unit {0}
AllRight may before (a ∷ rest) = IsRightAccess may before a × AllRight may (before ++ a ∷ []) rest

right_from : (may : ℕ → Deed → Type 0) (before rest : List Access) → IsLawfulHistory may before
    → AllRight may before rest → IsLawfulHistory may (before ++ rest)
right_from may before [] lawful right =
    subst (λ (l : List Access). IsLawfulHistory may l) (sym (append-nil before)) lawful
right_from may before (a ∷ rest) lawful right =
    subst (λ (l : List Access). IsLawfulHistory may l) (append_assoc before (a ∷ []) rest)
    (right_from may (before ++ a ∷ []) rest (lawful_push may before a lawful right.0) right.1)

-- accesses that are right after those before them are a lawful history
pub lawful_by_steps : (may : ℕ → Deed → Type 0) (history : List Access) → AllRight may [] history
    → IsLawfulHistory may history
lawful_by_steps may history right = right_from may [] history (lawful_none may [] refl) right

-- The kind of a deed, as a number.
abbrev pub kind_of : Deed → ℕ
kind_of (Added place amount found) = 0
kind_of (Stored place word) = 1
kind_of (Loaded place found) = 2
kind_of (Swapped place word found) = 3

-- the word that a deed found, or stored
abbrev pub told_word : Deed → ℕ
told_word (Added place amount found) = found
told_word (Stored place word) = word
told_word (Loaded place found) = found
told_word (Swapped place word found) = found

abbrev pub first_word : List Deed → ℕ
first_word [] = 0
first_word (d ∷ deeds) = told_word d

-- The word that the last of these deeds found, 0 where there is none.
abbrev pub last_word : List Deed → ℕ
last_word [] = 0
last_word (d ∷ []) = told_word d
last_word (d ∷ e ∷ deeds) = last_word (e ∷ deeds)

pub last_of : (deeds : List Deed) (d : Deed) → last_word (deeds ++ d ∷ []) ≡ told_word d
last_of [] d = refl
last_of (e ∷ []) d = refl
last_of (e ∷ f ∷ deeds) d = last_of (f ∷ deeds) d

-- ---- lawful histories

pub two_words_lawful : IsLawfulHistory all_may on_two_words
two_words_lawful =
    lawful_by_steps all_may on_two_words (
      record { allowed = tt; found = refl },
      (
        record { allowed = tt; found = tt },
        (
          record { allowed = tt; found = refl },
          (
            record { allowed = tt; found = refl },
            (
              record { allowed = tt; found = refl },
              tt,
            ),
          ),
        ),
      ),
    )

pub store_forbidden : IsLawfulHistory additions_may on_two_words → ⊥
store_forbidden lawful =
    let stored : Access = access 1 (Stored 1 7) in
    let rest : List Access =
    access 0 (Loaded 1 7) ∷ access 1 (Swapped 0 9 5) ∷ access 0 (Loaded 0 9) ∷ [] in
    let right : IsRightAccess additions_may (access 0 (Added 0 5 0) ∷ []) stored =
    lawful (access 0 (Added 0 5 0) ∷ []) rest stored refl in
    let n : 1 ≡ 0 = ap kind_of right.allowed.3 in
    omega (arith, n)

-- the second of two accesses finds what the first left
second_right : (may : ℕ → Deed → Type 0) (a b : Access) → IsLawfulHistory may (a ∷ b ∷ [])
    → IsRightAccess may (a ∷ []) b
second_right may a b lawful = lawful (a ∷ []) [] b refl

pub addition_of_what_was : IsLawfulHistory all_may (adds 0 0 ∷ adds 1 0 ∷ []) → ⊥
addition_of_what_was lawful =
    let n : 0 ≡ 1 = (second_right all_may (adds 0 0) (adds 1 0) lawful).found in omega (arith, n)

pub load_of_what_was :
    IsLawfulHistory all_may (access 0 (Stored 0 7) ∷ access 1 (Loaded 0 0) ∷ []) → ⊥
load_of_what_was lawful =
    let n : 0 ≡ 7 =
    (second_right all_may (access 0 (Stored 0 7)) (access 1 (Loaded 0 0)) lawful).found in
    omega (arith, n)

pub swap_of_what_was :
    IsLawfulHistory all_may (access 0 (Stored 0 7) ∷ access 1 (Swapped 0 9 0) ∷ []) → ⊥
swap_of_what_was lawful =
    let n : 0 ≡ 7 =
    (second_right all_may (access 0 (Stored 0 7)) (access 1 (Swapped 0 9 0)) lawful).found in
    omega (arith, n)

pub load_of_1_at_first : IsLawfulHistory all_may (access 0 (Loaded 0 1) ∷ []) → ⊥
load_of_1_at_first lawful =
    let right : IsRightAccess all_may [] (access 0 (Loaded 0 1)) =
    lawful [] [] (access 0 (Loaded 0 1)) refl in
    let n : 1 ≡ 0 = right.found in
    omega (arith, n)

pub load_of_another_word :
    IsLawfulHistory all_may (access 0 (Stored 1 7) ∷ access 1 (Loaded 0 7) ∷ []) → ⊥
load_of_another_word lawful =
    let n : 7 ≡ 0 =
    (second_right all_may (access 0 (Stored 1 7)) (access 1 (Loaded 0 7)) lawful).found in
    omega (arith, n)

-- ---- the transcripts of histories

abbrev Told : List Access → Transcript → Type 0
Told history t = AreCalls (adds_1 t.caller) t.pairs [] (deeds_by t.caller history)

three_lawful : IsLawfulHistory all_may three_additions
three_lawful =
    lawful_by_steps all_may three_additions (
      record { allowed = tt; found = refl },
      (
        record { allowed = tt; found = refl },
        (
          record { allowed = tt; found = refl },
          tt,
        ),
      ),
    )

pub zero_of_2 : 0 < 2
zero_of_2 = omega arith

pub one_of_2 : 1 < 2
one_of_2 = omega arith

pub three_are_of_2 : All (λ (a : Access). a.caller < 2) three_additions
three_are_of_2 =
    let of_2 = λ (a : Access). a.caller < 2 in
    All-cons of_2 (adds 0 0) (adds 1 1 ∷ adds 0 2 ∷ []) zero_of_2
    (All-cons of_2 (adds 1 1) (adds 0 2 ∷ []) one_of_2
    (All-cons of_2 (adds 0 2) [] zero_of_2 (All-nil of_2)))

told_0 : Told three_additions told_by_0
told_0 = (Added 0 1 0 ∷ [], refl, (Added 0 1 0 ∷ Added 0 1 2 ∷ [], refl, refl))

told_1 : Told three_additions told_by_1
told_1 = (Added 0 1 1 ∷ [], refl, refl)

pub both_told : AreOfOneHistory all_may adds_1 2 three_additions (told_by_0 ∷ told_by_1 ∷ [])
both_told =
    record {
      all = refl;
      callers = three_are_of_2;
      lawful = three_lawful;
      calls =
          All-cons (Told three_additions) told_by_0 (told_by_1 ∷ []) told_0
          (All-cons (Told three_additions) told_by_1 [] told_1 (All-nil (Told three_additions)));
    }

pub caller_lacking :
    AreOfOneHistory all_may adds_1 2 (adds 0 0 ∷ []) (transcript 0 ((0, 0) ∷ []) ∷ []) → ⊥
caller_lacking one =
    let n : 1 ≡ 2 = ap (λ (l : List ℕ). length l) one.all in omega (arith, n)

pub callers_out_of_order :
    AreOfOneHistory all_may adds_1 2 three_additions (told_by_1 ∷ told_by_0 ∷ []) → ⊥
callers_out_of_order one =
    let n : 1 ≡ 0 = ap (λ (l : List ℕ). get_or l 0 0) one.all in omega (arith, n)

pub stranger :
    AreOfOneHistory all_may adds_1 2 (three_additions ++ adds 2 3 ∷ []) (told_by_0 ∷ told_by_1 ∷ [])
    → ⊥
stranger one =
    let n : 2 < 2 = one.callers 3 (adds 2 3) (omega arith) in omega (arith, n)

pub call_untold :
    AreOfOneHistory all_may adds_1 2 three_additions
    (transcript 0 ((0, 0) ∷ []) ∷ told_by_1 ∷ []) → ⊥
call_untold one =
    let t : Transcript = transcript 0 ((0, 0) ∷ []) in
    let c : Told three_additions t =
    All-head (Told three_additions) t (told_by_1 ∷ []) one.calls in
    let n : 1 ≡ 2 = ap (λ (l : List Deed). length l) (sym c.1 ∙ c.2) in
    omega (arith, n)

pub replies_exchanged :
    AreOfOneHistory all_may adds_1 2 three_additions
    (transcript 0 ((0, 2) ∷ (0, 0) ∷ []) ∷ told_by_1 ∷ []) → ⊥
replies_exchanged one =
    let t : Transcript = transcript 0 ((0, 2) ∷ (0, 0) ∷ []) in
    let c : Told three_additions t =
    All-head (Told three_additions) t (told_by_1 ∷ []) one.calls in
    let made : Added 0 1 2 ∷ Added 0 1 0 ∷ [] ≡ deeds_by 0 three_additions =
    ap (λ (l : List Deed). l ++ Added 0 1 0 ∷ []) (sym c.1) ∙ sym c.2.1 ∙ c.2.2 in
    let n : 2 ≡ 0 = ap first_word made in
    omega (arith, n)

pub both_found_0 :
    AreOfOneHistory all_may adds_1 2 (adds 0 0 ∷ adds 1 0 ∷ [])
    (transcript 0 ((0, 0) ∷ []) ∷ transcript 1 ((0, 0) ∷ []) ∷ []) → ⊥
both_found_0 one = addition_of_what_was one.lawful
