-- Which transcripts callers may have of the worked histories of a tally and of a cell.
use Rattle.std.proofs.Common.{◌≡◌, ℕ, ◌^◌, ◌<◌, List, [], ◌∷◌, ◌++◌, length, refl, sym, ap, ◌∙◌, inl, inr, arith}
use Rattle.std.specs.List.{All}
use Rattle.std.proofs.lemmas.Bool.{cases_eq}
use Rattle.std.proofs.lemmas.List.Elements.{All-nil, All-cons, All-head, All-tail}
use Rattle.book_base.specs.declared.TheConstants.{BAD}
use Rattle.seq_objects.specs.Replies.{reply_done, reply_value}
use Rattle.shared_words.specs.Deeds.{Deed, Added, Stored, Loaded, Swapped, AreCalls}
use Rattle.shared_words.specs.Histories.{Access, access, deeds_by, IsRightAccess}
use Rattle.shared_words.specs.Transcripts.{Transcript, AreOfOneHistory}
use Rattle.object_examples.specs.WordHistories.{adds, three_additions}
use Rattle.object_examples.proofs.WordHistories.{kind_of, told_word, first_word, last_word, last_of, lawful_by_steps, zero_of_2, one_of_2, three_are_of_2}
use Rattle.shared_words.proofs.Histories.{deeds_by-own}
use Rattle.test_objects.specs.Forms.{increment, write, read, tally_may, cell_may, IsTallied, IsCellCall}
use Rattle.test_objects.specs.Together.{TellOneTally, TellOneCell}
use Rattle.object_examples.specs.Transcripts.{counts_0_and_2, counts_once, writes_7, reads_value, stored_then_loaded, loaded_then_stored}
use Rattle.test_objects.proofs.Together.{one_tally, one_cell}

-- ---- a tally

abbrev Tallied : List Access → Transcript → Type 0
Tallied history t = AreCalls IsTallied t.pairs [] (deeds_by t.caller history)

-- an increment that found a word, and an operation that a tally doesn't know
tallied : (before : List Deed) (found : ℕ)
    → IsTallied increment (reply_value found) before (before ++ Added 0 1 found ∷ [])
tallied before found =
    record { counts = λ is. (found, refl, refl); other = λ isnt. absurd (isnt refl) }

not_7 : 7 ≡ increment → ⊥
not_7 is = omega (arith, is)

passed_over : (before : List Deed) → IsTallied 7 BAD before before
passed_over before =
    record { counts = λ is. absurd (not_7 is); other = λ isnt. (refl, refl) }

by_0 : Tallied three_additions counts_0_and_2
by_0 = (
  Added 0 1 0 ∷ [],
  tallied [] 0,
  (
    Added 0 1 0 ∷ [],
    passed_over (Added 0 1 0 ∷ []),
    (Added 0 1 0 ∷ Added 0 1 2 ∷ [], tallied (Added 0 1 0 ∷ []) 2, refl),
  ),
)

by_1 : Tallied three_additions (counts_once 1 (reply_value 1))
by_1 = (Added 0 1 1 ∷ [], tallied [] 1, refl)

pub tally_told : TellOneTally 2 three_additions
    (counts_0_and_2 ∷ counts_once 1 (reply_value 1) ∷ [])
tally_told =
    one_tally 2 three_additions (counts_0_and_2 ∷ counts_once 1 (reply_value 1) ∷ []) (record {
      all = refl;
      callers = three_are_of_2;
      lawful =
          lawful_by_steps tally_may three_additions (
            record { allowed = (0, refl); found = refl },
            (
              record { allowed = (1, refl); found = refl },
              (
                record { allowed = (2, refl); found = refl },
                tt,
              ),
            ),
          );
      calls =
          All-cons (Tallied three_additions) counts_0_and_2 (counts_once 1 (reply_value 1) ∷ [])
          by_0
          (All-cons (Tallied three_additions) (counts_once 1 (reply_value 1)) [] by_1
          (All-nil (Tallied three_additions)));
    })

-- the reply to an increment gives the word that it found
tells_found : (caller reply found : ℕ) (history : List Access)
    → Tallied history (counts_once caller reply)
    → deeds_by caller history ≡ Added 0 1 found ∷ [] → reply ≡ reply_value found
tells_found caller reply found history told deeds =
    let c = told.1.counts refl in
    let f : c.0 ≡ found = ap first_word (sym c.1 ∙ told.2 ∙ deeds) in
    c.2 ∙ ap reply_value f

pub earlier_count : TellOneTally 2 three_additions
    (counts_0_and_2 ∷ counts_once 1 (reply_value 0) ∷ []) → ⊥
earlier_count one =
    let t : Transcript = counts_once 1 (reply_value 0) in
    let mine : Tallied three_additions t =
    All-head (Tallied three_additions) t []
    (All-tail (Tallied three_additions) counts_0_and_2 (t ∷ []) one.told.calls) in
    let n : reply_value 0 ≡ reply_value 1 =
    tells_found 1 (reply_value 0) 1 three_additions mine refl in
    omega (arith, n)

pub both_count_0 : TellOneTally 2 (adds 0 0 ∷ adds 1 0 ∷ [])
    (counts_once 0 (reply_value 0) ∷ counts_once 1 (reply_value 0) ∷ []) → ⊥
both_count_0 one =
    let right : IsRightAccess tally_may (adds 0 0 ∷ []) (adds 1 0) =
    one.told.lawful (adds 0 0 ∷ []) [] (adds 1 0) refl in
    let n : 0 ≡ 1 = right.found in
    omega (arith, n)

-- of two accesses the second one's caller replies with the word that this access found
tells_last : (caller reply : ℕ) (a b : Access) → Tallied (a ∷ b ∷ []) (counts_once caller reply)
    → b.caller ≡ caller → b.deed ≡ Added 0 1 1 → reply ≡ reply_value 1
tells_last caller reply a b told own deed =
    let c = told.1.counts refl in
    let f : c.0 ≡ 1 =
    ap last_word (sym c.1 ∙ told.2 ∙ deeds_by-own caller (a ∷ []) b own)
    ∙ last_of (deeds_by caller (a ∷ [])) b.deed
    ∙ ap told_word deed in
    c.2 ∙ ap reply_value f

no_0_after_one : reply_value 0 ≡ reply_value 1 → ⊥
no_0_after_one is = omega (arith, is)

pub both_reply_0 : (history : List Access) → TellOneTally 2 history
    (counts_once 0 (reply_value 0) ∷ counts_once 1 (reply_value 0) ∷ []) → ⊥
both_reply_0 [] one = let n : 0 ≡ 2 = one.all in omega (arith, n)
both_reply_0 (a ∷ []) one = let n : 1 ≡ 2 = one.all in omega (arith, n)
both_reply_0 (a ∷ b ∷ []) one =
    let told = Tallied (a ∷ b ∷ []) in
    let t : Transcript = counts_once 0 (reply_value 0) in
    let u : Transcript = counts_once 1 (reply_value 0) in
    let low : b.caller < 2 = one.told.callers 1 a (omega arith) in
    let deed : b.deed ≡ Added 0 1 1 = one.counted (a ∷ []) [] b refl in
    elim (cases_eq b.caller 0) [
      | inl is ↦ no_0_after_one
          (tells_last 0 (reply_value 0) a b (All-head told t (u ∷ []) one.told.calls) is deed)
      | inr isnt ↦
          let is : b.caller ≡ 1 = omega (arith, low, isnt) in
          no_0_after_one
          (tells_last 1 (reply_value 0) a b
          (All-head told u [] (All-tail told t (u ∷ []) one.told.calls)) is deed)
    ]
both_reply_0 (a ∷ b ∷ c ∷ history) one =
    let n : length (a ∷ b ∷ c ∷ history) ≡ 2 = one.all in omega (arith, n)

pub increment_untold : TellOneTally 2 three_additions
    (counts_once 0 (reply_value 0) ∷ counts_once 1 (reply_value 1) ∷ []) → ⊥
increment_untold one = let n : 3 ≡ 2 = one.all in omega (arith, n)

pub increment_not_made : TellOneTally 2 (adds 0 0 ∷ [])
    (counts_once 0 (reply_value 0) ∷ counts_once 1 (reply_value 1) ∷ []) → ⊥
increment_not_made one = let n : 1 ≡ 2 = one.all in omega (arith, n)

abbrev amount_of : Deed → ℕ
amount_of (Added place amount found) = amount
amount_of (Stored place word) = 0
amount_of (Loaded place found) = 0
amount_of (Swapped place word found) = 0

pub adds_2 : TellOneTally 1 (access 0 (Added 0 2 0) ∷ []) (counts_once 0 (reply_value 0) ∷ []) → ⊥
adds_2 one =
    let right : IsRightAccess tally_may [] (access 0 (Added 0 2 0)) =
    one.told.lawful [] [] (access 0 (Added 0 2 0)) refl in
    let n : 2 ≡ 1 = ap amount_of right.allowed.1 in
    omega (arith, n)

-- ---- a cell

abbrev Kept : List Access → Transcript → Type 0
Kept history t = AreCalls IsCellCall t.pairs [] (deeds_by t.caller history)

same_7 : (value : ℕ) → write 7 ≡ write value → 7 ≡ value
same_7 value is = omega (arith, is)

write_7_is_no_read : write 7 ≡ read → ⊥
write_7_is_no_read is = omega (arith, is)

read_is_no_write : (value : ℕ) → value < 2 ^ 32 → read ≡ write value → ⊥
read_is_no_write value low is = omega (arith, is, low)

written : IsCellCall (write 7) reply_done [] (Stored 0 7 ∷ [])
written =
    record {
      writes = λ value low is. (ap (λ (k : ℕ). Stored 0 k ∷ []) (same_7 value is), refl);
      reads = λ is. absurd (write_7_is_no_read is);
      other = λ none isnt. absurd (none 7 (omega arith) refl);
    }

read_as : (found : ℕ) → IsCellCall read (reply_value found) [] (Loaded 0 found ∷ [])
read_as found =
    record {
      writes = λ value low is. absurd (read_is_no_write value low is);
      reads = λ is. (found, refl, refl);
      other = λ none isnt. absurd (isnt refl);
    }

both_kept : (history : List Access) (found : ℕ) → deeds_by 0 history ≡ Stored 0 7 ∷ []
    → deeds_by 1 history ≡ Loaded 0 found ∷ []
    → All (Kept history) (writes_7 ∷ reads_value found ∷ [])
both_kept history found stored loaded =
    All-cons (Kept history) writes_7 (reads_value found ∷ []) (Stored 0 7 ∷ [], written, sym stored)
    (All-cons (Kept history) (reads_value found) [] (Loaded 0 found ∷ [], read_as found, sym loaded)
    (All-nil (Kept history)))

two_of_2 : (a b : Access) → a.caller < 2 → b.caller < 2
    → All (λ (c : Access). c.caller < 2) (a ∷ b ∷ [])
two_of_2 a b low under =
    All-cons (λ (c : Access). c.caller < 2) a (b ∷ []) low
    (All-cons (λ (c : Access). c.caller < 2) b [] under
    (All-nil (λ (c : Access). c.caller < 2)))

pub cell_told : TellOneCell 2 (stored_then_loaded 7 7) (writes_7 ∷ reads_value 7 ∷ [])
cell_told =
    one_cell 2 (stored_then_loaded 7 7) (writes_7 ∷ reads_value 7 ∷ []) (record {
      all = refl;
      callers = two_of_2 (access 0 (Stored 0 7)) (access 1 (Loaded 0 7)) zero_of_2 one_of_2;
      lawful =
          lawful_by_steps cell_may (stored_then_loaded 7 7) (
            record { allowed = inl (7, refl); found = tt },
            (
              record { allowed = inr (7, refl); found = refl },
              tt,
            ),
          );
      calls = both_kept (stored_then_loaded 7 7) 7 refl refl;
    })

pub cell_told_before : TellOneCell 2 loaded_then_stored (writes_7 ∷ reads_value 0 ∷ [])
cell_told_before =
    one_cell 2 loaded_then_stored (writes_7 ∷ reads_value 0 ∷ []) (record {
      all = refl;
      callers = two_of_2 (access 1 (Loaded 0 0)) (access 0 (Stored 0 7)) one_of_2 zero_of_2;
      lawful =
          lawful_by_steps cell_may loaded_then_stored (
            record { allowed = inr (0, refl); found = refl },
            (
              record { allowed = inl (7, refl); found = tt },
              tt,
            ),
          );
      calls = both_kept loaded_then_stored 0 refl refl;
    })

pub write_missed : TellOneCell 2 (stored_then_loaded 7 0) (writes_7 ∷ reads_value 0 ∷ []) → ⊥
write_missed one =
    let right : IsRightAccess cell_may (access 0 (Stored 0 7) ∷ []) (access 1 (Loaded 0 0)) =
    one.told.lawful (access 0 (Stored 0 7) ∷ []) [] (access 1 (Loaded 0 0)) refl in
    let n : 0 ≡ 7 = right.found in
    omega (arith, n)

pub another_reply : TellOneCell 2 (stored_then_loaded 7 7) (writes_7 ∷ reads_value 0 ∷ []) → ⊥
another_reply one =
    let mine : Kept (stored_then_loaded 7 7) (reads_value 0) =
    All-head (Kept (stored_then_loaded 7 7)) (reads_value 0) []
    (All-tail (Kept (stored_then_loaded 7 7)) writes_7 (reads_value 0 ∷ []) one.told.calls) in
    let c = mine.1.reads refl in
    let f : c.0 ≡ 7 = ap first_word (sym c.1 ∙ mine.2) in
    let n : reply_value 0 ≡ reply_value 7 = c.2 ∙ ap reply_value f in
    omega (arith, n)

pub another_word : TellOneCell 2 (stored_then_loaded 8 8) (writes_7 ∷ reads_value 8 ∷ []) → ⊥
another_word one =
    let mine : Kept (stored_then_loaded 8 8) writes_7 =
    All-head (Kept (stored_then_loaded 8 8)) writes_7 (reads_value 8 ∷ []) one.told.calls in
    let c = mine.1.writes 7 (omega arith) refl in
    let n : 7 ≡ 8 = ap first_word (sym c.0 ∙ mine.2) in
    omega (arith, n)

pub read_by_a_swap : TellOneCell 2 (access 0 (Stored 0 7) ∷ access 1 (Swapped 0 0 7) ∷ [])
    (writes_7 ∷ reads_value 7 ∷ []) → ⊥
read_by_a_swap one =
    let right : IsRightAccess cell_may (access 0 (Stored 0 7) ∷ []) (access 1 (Swapped 0 0 7)) =
    one.told.lawful (access 0 (Stored 0 7) ∷ []) [] (access 1 (Swapped 0 0 7)) refl in
    elim right.allowed [
      | inl stored ↦ let n : 3 ≡ 1 = ap kind_of stored.1 in omega (arith, n)
      | inr loaded ↦ let n : 3 ≡ 2 = ap kind_of loaded.1 in omega (arith, n)
    ]
