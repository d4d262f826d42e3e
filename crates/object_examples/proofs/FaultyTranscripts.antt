-- Which transcripts callers may have of the worked histories of a split tally, a one-pass queue and
-- a meeting.
use Rattle.std.proofs.Common.{◌≡◌, ◌≢◌, ℕ, zero, suc, ◌+◌, ◌-◌, ◌%◌, ◌^◌, ◌<◌, ◌≤◌, List, [], ◌∷◌, ◌++◌, refl, sym, ap, ◌∙◌, subst, inl, inr, arith}
use Rattle.std.specs.List.{All}
use Rattle.std.proofs.lemmas.Bool.{cases_eq}
use Rattle.std.proofs.lemmas.List.Elements.{All-nil, All-cons, All-head, All-tail}
use Rattle.seq_objects.specs.Replies.{reply_done, reply_none, reply_value}
use Rattle.shared_words.specs.Deeds.{Deed, Added, Stored, Loaded, Swapped, place_of, AreCalls}
use Rattle.shared_words.specs.Histories.{Access, access, deeds_by, IsRightAccess}
use Rattle.shared_words.specs.Transcripts.{Transcript, AreOfOneHistory}
use Rattle.object_examples.specs.WordHistories.{adds}
use Rattle.object_examples.proofs.WordHistories.{kind_of, told_word, first_word, last_word, last_of, lawful_by_steps, zero_of_2, one_of_2}
use Rattle.test_objects.specs.Forms.{increment, cell_may}
use Rattle.object_examples.specs.Transcripts.{counts_once}
use Rattle.test_objects.specs.FaultyForms.{IsSplit, enqueue, dequeue, item_index, queue_may, empty_places, IsDequeued, IsOnePass, up, meeting_may, other_caller, IsMeeting}
use Rattle.test_objects.specs.FaultyTogether.{TellOneSplit, TellOneQueue, TellOneMeeting}
use Rattle.object_examples.specs.FaultyTranscripts.{both_load_first, one_by_one, enqueues_5, dequeues, put_5, finds_at_0, both_raise_first, found_too_early, raises_the_other, meets}
use Rattle.test_objects.proofs.FaultyTogether.{one_split, one_queue, one_meeting}

-- four accesses of callers below 2 are a history of callers below 2
four_of_2 : (a b c d : Access) → a.caller < 2 → b.caller < 2 → c.caller < 2 → d.caller < 2
    → All (λ (e : Access). e.caller < 2) (a ∷ b ∷ c ∷ d ∷ [])
four_of_2 a b c d la lb lc ld =
    let of_2 = λ (e : Access). e.caller < 2 in
    All-cons of_2 a (b ∷ c ∷ d ∷ []) la
    (All-cons of_2 b (c ∷ d ∷ []) lb (All-cons of_2 c (d ∷ []) lc
    (All-cons of_2 d [] ld (All-nil of_2))))

-- The word of the second of these deeds, 0 where there is none.
abbrev second_word : List Deed → ℕ
second_word [] = 0
second_word (d ∷ deeds) = first_word deeds

-- ---- a split tally

abbrev Split : List Access → Transcript → Type 0
Split history t = AreCalls IsSplit t.pairs [] (deeds_by t.caller history)

split : (found next : ℕ) → next ≡ (found + 1) % 2 ^ 64
    → IsSplit increment (reply_value found) [] (Loaded 0 found ∷ Stored 0 next ∷ [])
split found next is =
    record {
      counts = λ same. (found, ap (λ (k : ℕ). Loaded 0 found ∷ Stored 0 k ∷ []) is, refl);
      other = λ isnt. absurd (isnt refl);
    }

both_split : (history : List Access) (a b c d : ℕ)
    → deeds_by 0 history ≡ Loaded 0 a ∷ Stored 0 b ∷ []
    → deeds_by 1 history ≡ Loaded 0 c ∷ Stored 0 d ∷ []
    → b ≡ (a + 1) % 2 ^ 64 → d ≡ (c + 1) % 2 ^ 64
    → All (Split history)
    (counts_once 0 (reply_value a) ∷ counts_once 1 (reply_value c) ∷ [])
both_split history a b c d mine others next more =
    let t : Transcript = counts_once 0 (reply_value a) in
    let u : Transcript = counts_once 1 (reply_value c) in
    All-cons (Split history) t (u ∷ [])
    (Loaded 0 a ∷ Stored 0 b ∷ [], split a b next, sym mine)
    (All-cons (Split history) u []
    (Loaded 0 c ∷ Stored 0 d ∷ [], split c d more, sym others)
    (All-nil (Split history)))

pub split_told : TellOneSplit 2 (both_load_first 1)
    (counts_once 0 (reply_value 0) ∷ counts_once 1 (reply_value 0) ∷ [])
split_told =
    one_split 2 (both_load_first 1)
    (counts_once 0 (reply_value 0) ∷ counts_once 1 (reply_value 0) ∷ []) (record {
      all = refl;
      callers =
          four_of_2 (access 0 (Loaded 0 0)) (access 1 (Loaded 0 0)) (access 0 (Stored 0 1))
          (access 1 (Stored 0 1)) zero_of_2 one_of_2 zero_of_2 one_of_2;
      lawful =
          lawful_by_steps cell_may (both_load_first 1) (
            record { allowed = inr (0, refl); found = refl },
            (
              record { allowed = inr (0, refl); found = refl },
              (
                record { allowed = inl (1, refl); found = tt },
                (
                  record { allowed = inl (1, refl); found = tt },
                  tt,
                ),
              ),
            ),
          );
      calls = both_split (both_load_first 1) 0 1 0 1 refl refl refl refl;
    })

pub split_apart_told : TellOneSplit 2 (one_by_one 1 2)
    (counts_once 0 (reply_value 0) ∷ counts_once 1 (reply_value 1) ∷ [])
split_apart_told =
    one_split 2 (one_by_one 1 2)
    (counts_once 0 (reply_value 0) ∷ counts_once 1 (reply_value 1) ∷ []) (record {
      all = refl;
      callers =
          four_of_2 (access 0 (Loaded 0 0)) (access 0 (Stored 0 1)) (access 1 (Loaded 0 1))
          (access 1 (Stored 0 2)) zero_of_2 zero_of_2 one_of_2 one_of_2;
      lawful =
          lawful_by_steps cell_may (one_by_one 1 2) (
            record { allowed = inr (0, refl); found = refl },
            (
              record { allowed = inl (1, refl); found = tt },
              (
                record { allowed = inr (1, refl); found = refl },
                (
                  record { allowed = inl (2, refl); found = tt },
                  tt,
                ),
              ),
            ),
          );
      calls = both_split (one_by_one 1 2) 0 1 1 2 refl refl refl refl;
    })

pub store_missed : TellOneSplit 2 (one_by_one 0 1)
    (counts_once 0 (reply_value 0) ∷ counts_once 1 (reply_value 0) ∷ []) → ⊥
store_missed one =
    let before : List Access = access 0 (Loaded 0 0) ∷ access 0 (Stored 0 1) ∷ [] in
    let right : IsRightAccess cell_may (access 0 (Loaded 0 0) ∷ access 0 (Stored 0 1) ∷ [])
    (access 1 (Loaded 0 0)) =
    one.told.lawful before (access 1 (Stored 0 1) ∷ []) (access 1 (Loaded 0 0)) refl in
    let n : 0 ≡ 1 = right.found in
    omega (arith, n)

-- the first caller loads a word, stores the word after it, and replies the value of the word that
-- it loaded
first_split : (history : List Access) (reply : ℕ) (u : Transcript)
    → All (Split history) (counts_once 0 reply ∷ u ∷ [])
    → (found : ℕ)
    × (Loaded 0 found ∷ Stored 0 ((found + 1) % 2 ^ 64) ∷ [] ≡ deeds_by 0 history)
    × (reply ≡ reply_value found)
first_split history reply u told =
    let mine = All-head (Split history) (counts_once 0 reply) (u ∷ []) told in
    let c = mine.1.counts refl in
    (c.0, sym c.1 ∙ mine.2, c.2)

pub stores_another : TellOneSplit 2 (both_load_first 2)
    (counts_once 0 (reply_value 0) ∷ counts_once 1 (reply_value 0) ∷ []) → ⊥
stores_another one =
    let c = first_split (both_load_first 2) (reply_value 0) (counts_once 1 (reply_value 0))
    one.told.calls in
    let f : c.0 ≡ 0 = ap first_word c.1 in
    let s : (c.0 + 1) % 2 ^ 64 ≡ 2 = ap second_word c.1 in
    let n : 1 ≡ 2 = ap (λ (k : ℕ). (k + 1) % 2 ^ 64) (sym f) ∙ s in
    omega (arith, n)

pub tells_another : TellOneSplit 2 (both_load_first 1)
    (counts_once 0 (reply_value 1) ∷ counts_once 1 (reply_value 0) ∷ []) → ⊥
tells_another one =
    let c = first_split (both_load_first 1) (reply_value 1) (counts_once 1 (reply_value 0))
    one.told.calls in
    let f : c.0 ≡ 0 = ap first_word c.1 in
    let n : reply_value 1 ≡ reply_value 0 = c.2 ∙ ap reply_value f in
    omega (arith, n)

-- ---- a one-pass queue with two places

abbrev Passed : List Access → Transcript → Type 0
Passed history t = AreCalls (IsOnePass 2) t.pairs [] (deeds_by t.caller history)

same_5 : (value : ℕ) → enqueue 5 ≡ enqueue value → 6 ≡ value + 1
same_5 value is = omega (arith, is)

enqueue_5_is_no_dequeue : enqueue 5 ≡ dequeue → ⊥
enqueue_5_is_no_dequeue is = omega (arith, is)

dequeue_is_no_enqueue : (value : ℕ) → value < 2 ^ 32 → dequeue ≡ enqueue value → ⊥
dequeue_is_no_enqueue value low is = omega (arith, is, low)

no_beyond : 2 ≤ 0 → ⊥
no_beyond past = omega (arith, past)

enqueued : IsOnePass 2 (enqueue 5) reply_done []
    (Added 0 1 0 ∷ Stored (item_index 0) 6 ∷ [])
enqueued =
    record {
      puts = λ value low is. (
        record {
          place = 0;
          stored = λ below.
              ap (λ (k : ℕ). Added 0 1 0 ∷ Stored (item_index 0) k ∷ []) (same_5 value is);
          beyond = λ past. absurd (no_beyond past);
        },
        refl,
      );
      takes = λ is. absurd (enqueue_5_is_no_dequeue is);
      other = λ none isnt. absurd (none 5 (omega arith) refl);
    }

not_none : ◌≡◌ {A = ℕ} 6 0 → ⊥
not_none is = omega (arith, is)

below_1 : 0 < 1
below_1 = omega arith

dequeued : IsDequeued 2 (reply_value 5) []
    (Loaded 0 1 ∷ Swapped (item_index 0) 0 6 ∷ [])
dequeued =
    record {
      counter = 1;
      count = 0;
      found = 6;
      within = omega arith;
      all_empty = λ is. absurd (not_none is);
      item = λ some. (below_1, refl, refl);
    }

gives_5 : IsOnePass 2 dequeue (reply_value 5) []
    (Loaded 0 1 ∷ Swapped (item_index 0) 0 6 ∷ [])
gives_5 =
    record {
      puts = λ value low is. absurd (dequeue_is_no_enqueue value low is);
      takes = λ is. dequeued;
      other = λ none isnt. absurd (isnt refl);
    }

pub queue_told : TellOneQueue 2 2 (put_5 ++ finds_at_0 1 6)
    (enqueues_5 ∷ dequeues 1 (reply_value 5) ∷ [])
queue_told =
    one_queue 2 2 (put_5 ++ finds_at_0 1 6) (enqueues_5 ∷ dequeues 1 (reply_value 5) ∷ []) (record {
      all = refl;
      callers =
          four_of_2 (adds 0 0) (access 0 (Stored (item_index 0) 6)) (access 1 (Loaded 0 1))
          (access 1 (Swapped (item_index 0) 0 6)) zero_of_2 zero_of_2 one_of_2 one_of_2;
      lawful =
          lawful_by_steps queue_may (put_5 ++ finds_at_0 1 6) (
            record { allowed = inl (0, refl); found = refl },
            (
              record { allowed = inr (inr (inl (0, 5, refl))); found = tt },
              (
                record { allowed = inr (inl (1, refl)); found = refl },
                (
                  record { allowed = inr (inr (inr (0, 6, refl))); found = refl },
                  tt,
                ),
              ),
            ),
          );
      calls =
          All-cons (Passed (put_5 ++ finds_at_0 1 6)) enqueues_5 (dequeues 1 (reply_value 5) ∷ [])
          (Added 0 1 0 ∷ Stored (item_index 0) 6 ∷ [], enqueued, refl)
          (All-cons (Passed (put_5 ++ finds_at_0 1 6)) (dequeues 1 (reply_value 5)) []
          (Loaded 0 1 ∷ Swapped (item_index 0) 0 6 ∷ [], gives_5, refl)
          (All-nil (Passed (put_5 ++ finds_at_0 1 6))));
    })

pub taken_twice : TellOneQueue 2 3 (put_5 ++ finds_at_0 1 6 ++ finds_at_0 2 6)
    (enqueues_5 ∷ dequeues 1 (reply_value 5) ∷ dequeues 2 (reply_value 5) ∷ []) → ⊥
taken_twice one =
    let right : IsRightAccess queue_may (put_5 ++ finds_at_0 1 6 ++ access 2 (Loaded 0 1) ∷ [])
    (access 2 (Swapped (item_index 0) 0 6)) =
    one.told.lawful (put_5 ++ finds_at_0 1 6 ++ access 2 (Loaded 0 1) ∷ []) []
    (access 2 (Swapped (item_index 0) 0 6)) refl in
    let n : 6 ≡ 0 = right.found in
    omega (arith, n)

pub item_missed : TellOneQueue 2 2 (put_5 ++ finds_at_0 1 0)
    (enqueues_5 ∷ dequeues 1 reply_none ∷ []) → ⊥
item_missed one =
    let right : IsRightAccess queue_may (put_5 ++ access 1 (Loaded 0 1) ∷ [])
    (access 1 (Swapped (item_index 0) 0 0)) =
    one.told.lawful (put_5 ++ access 1 (Loaded 0 1) ∷ []) []
    (access 1 (Swapped (item_index 0) 0 0)) refl in
    let n : 0 ≡ 6 = right.found in
    omega (arith, n)

-- the first of the empty places is found empty
first_more : (deeds : List Deed) (d : Deed) → told_word d ≡ 0 → first_word deeds ≡ 0
    → first_word (deeds ++ d ∷ []) ≡ 0
first_more [] d found none = found
first_more (e ∷ deeds) d found none = none

first_empty : (count : ℕ) → first_word (empty_places count) ≡ 0
first_empty zero = refl
first_empty (suc count) =
    first_more (empty_places count) (Swapped (item_index count) 0 0) refl (first_empty count)

-- the dequeue of the second caller, which found 6 in place 0
took_6 : (reply : ℕ)
    → TellOneQueue 2 2 (put_5 ++ finds_at_0 1 6) (enqueues_5 ∷ dequeues 1 reply ∷ [])
    → IsDequeued 2 reply [] (Loaded 0 1 ∷ Swapped (item_index 0) 0 6 ∷ [])
took_6 reply one =
    let told = Passed (put_5 ++ finds_at_0 1 6) in
    let mine : Passed (put_5 ++ finds_at_0 1 6) (dequeues 1 reply) =
    All-head told (dequeues 1 reply) []
    (All-tail told enqueues_5 (dequeues 1 reply ∷ []) one.told.calls) in
    subst (λ (l : List Deed). IsDequeued 2 reply [] l) mine.2 (mine.1.takes refl)

value_is_not_none : (item : ℕ) → reply_value item ≡ reply_none → ⊥
value_is_not_none item is = omega (arith, is)

pub word_told : TellOneQueue 2 2 (put_5 ++ finds_at_0 1 6)
    (enqueues_5 ∷ dequeues 1 (reply_value 6) ∷ []) → ⊥
word_told one =
    let d = took_6 (reply_value 6) one in
    elim (cases_eq d.found 0) [
      | inl none ↦ value_is_not_none 6 (d.all_empty none).2
      | inr some ↦
          let found : 6 ≡ d.found =
          ap last_word (d.item some).1 ∙ last_of (Loaded 0 d.counter ∷ empty_places d.count)
          (Swapped (item_index d.count) 0 d.found) in
          let n : reply_value 6 ≡ reply_value 5 =
          (d.item some).2 ∙ ap (λ (k : ℕ). reply_value (k - 1)) (sym found) in
          omega (arith, n)
    ]

pub not_taken : TellOneQueue 2 2 (put_5 ++ finds_at_0 1 6)
    (enqueues_5 ∷ dequeues 1 reply_none ∷ []) → ⊥
not_taken one =
    let d = took_6 reply_none one in
    elim (cases_eq d.found 0) [
      | inl none ↦
          let n : 6 ≡ 0 = ap second_word (d.all_empty none).1 ∙ first_empty d.count in
          omega (arith, n)
      | inr some ↦ value_is_not_none (d.found - 1) (sym (d.item some).2)
    ]

-- ---- a meeting

abbrev Met : List Access → Transcript → Type 0
Met history t = AreCalls (λ _. IsMeeting t.caller) t.pairs [] (deeds_by t.caller history)

-- a call that finds the other flag up at its first load
met : (caller : ℕ) → IsMeeting caller reply_done []
    (Stored caller up ∷ Loaded (other_caller caller) up ∷ [])
met caller =
    record {
      between = Stored caller up ∷ [];
      raised = refl;
      waited =
          inl (
            record {
              misses = 0;
              few = omega arith;
              between = Stored caller up ∷ [];
              missed =
                  record {
                    found = [];
                    many = refl;
                    each = All-nil (λ (word : ℕ). word ≢ up);
                    loaded = refl;
                  };
              seen = refl;
            },
            refl,
          );
    }

pub meeting_told : TellOneMeeting 2 both_raise_first (meets 0 ∷ meets 1 ∷ [])
meeting_told =
    one_meeting 2 both_raise_first (meets 0 ∷ meets 1 ∷ []) (record {
      all = refl;
      callers =
          four_of_2 (access 0 (Stored 0 up)) (access 1 (Stored 1 up)) (access 0 (Loaded 1 up))
          (access 1 (Loaded 0 up)) zero_of_2 one_of_2 zero_of_2 one_of_2;
      lawful =
          lawful_by_steps meeting_may both_raise_first (
            record { allowed = inl refl; found = tt },
            (
              record { allowed = inl refl; found = tt },
              (
                record { allowed = inr (1, up, refl); found = refl },
                (
                  record { allowed = inr (0, up, refl); found = refl },
                  tt,
                ),
              ),
            ),
          );
      calls =
          All-cons (Met both_raise_first) (meets 0) (meets 1 ∷ [])
          (Stored 0 up ∷ Loaded 1 up ∷ [], met 0, refl)
          (All-cons (Met both_raise_first) (meets 1) []
          (Stored 1 up ∷ Loaded 0 up ∷ [], met 1, refl)
          (All-nil (Met both_raise_first)));
    })

pub flag_too_early : TellOneMeeting 2 found_too_early (meets 0 ∷ meets 1 ∷ []) → ⊥
flag_too_early one =
    let right : IsRightAccess meeting_may (access 0 (Stored 0 up) ∷ []) (access 0 (Loaded 1 up)) =
    one.told.lawful (access 0 (Stored 0 up) ∷ [])
    (access 1 (Stored 1 up) ∷ access 1 (Loaded 0 up) ∷ []) (access 0 (Loaded 1 up)) refl in
    let n : 1 ≡ 0 = right.found in
    omega (arith, n)

pub other_flag_raised : TellOneMeeting 2 raises_the_other (meets 0 ∷ meets 1 ∷ []) → ⊥
other_flag_raised one =
    let right : IsRightAccess meeting_may [] (access 0 (Stored 1 up)) =
    one.told.lawful []
    (access 0 (Loaded 1 up) ∷ access 1 (Stored 1 up) ∷ access 1 (Loaded 0 up) ∷ [])
    (access 0 (Stored 1 up)) refl in
    elim right.allowed [
      | inl raised ↦ let n : 1 ≡ 0 = ap place_of raised in omega (arith, n)
      | inr loaded ↦ let n : 1 ≡ 2 = ap kind_of loaded.2 in omega (arith, n)
    ]
