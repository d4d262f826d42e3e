-- The steps of a seat that has one caller, under the numbers that its kind of step was given.
use Rattle.std.proofs.Common.{◌≡◌, ℕ, ◌+◌, ◌*◌, ◌<◌, ◌==◌, [], ◌∷◌, length, slice_set, Some, sym, ap, ◌∙◌, subst}
use prog.Atomic.{either}
use Rattle.atomic_table.specs.Table.{Me, Allows}
use Rattle.book_base.specs.OperationWord.{low_of, high_of}
use Rattle.shared_words.specs.Entries.{calls_by}
use Rattle.shared_words.specs.Words.{operation_index, ticket_index}
use Rattle.row_table.specs.Holders.{has, only}
use Rattle.shared_words.specs.Hands.{Hand, View, the, empty, next_number}
use Rattle.shared_words.specs.LogRule.{Ruled, Turns, Stages, Looks, Places, Reads}
use Rattle.row_table.proofs.Holders.{alone_here, changed_alone}
use Rattle.shared_words.proofs.LogStepping as steps

-- after a step the seat has that caller alone, whose hand is as the kind of step says
pub record HasTurned (who : ℕ) (after : Me (Unit {0}) View) (tells : Hand → Type 0) : Type 0 where
  pub alone : after ≡ (only who (the (has after.0 who)), [])
  pub told : tells (the (has after.0 who))

pub turned : (who jw : ℕ) (me after : Me (Unit {0}) View) (h : Hand) (tells : Hand → Hand → Type 0)
    → jw ≡ who → me ≡ (only who h, []) → Turns jw me after tells → HasTurned who after (tells h)
turned who jw me after h tells is alone t =
    let one = changed_alone empty who me after h t.next alone
    (t.moved ∙ (λ i. (slice_set me.0 (is i) (Some t.next), me.1))) in
    let before : the (has me.0 jw) ≡ h =
    (λ i. the (has me.0 (is i))) ∙ ap the (alone_here me who h alone) in
    record {
      alone = one.alone;
      told = subst (λ (y : Hand × Hand). tells y.0 y.1) (λ i. (before i, sym one.here i)) t.told;
    }

module _ (n cap who key_callers key_cap callers jc jw : ℕ) (key_n : key_callers ≡ n)
    (key_c : key_cap ≡ cap) (is_n : callers ≡ n) (is_cap : jc ≡ cap) (is_who : jw ≡ who)
    (slots id : ℕ) (me : Me (Unit {0}) View) (h : Hand) (alone : me ≡ (only who h, [])) where
  abbrev Numbers : Type 0
  Numbers = ℕ × ℕ × ℕ × ℕ × ℕ

  told : ◌≡◌ {A = Numbers} (n, cap, n, cap, who) (key_callers, key_cap, callers, jc, jw)
  told = λ i. (sym key_n i, sym key_c i, sym is_n i, sym is_cap i, sym is_who i)

  pub stage_asks : (word x : ℕ) → length (calls_by who h.log) < cap → length h.staged < 2
      → word ≡ operation_index (next_number cap who h) + length h.staged
      → Allows (Ruled key_callers key_cap) slots id me word (λ _. x)
      (λ _ after. Turns jw me after (Stages x))
  stage_asks word x left few is =
      subst (λ (y : Numbers). Allows (Ruled y.0 y.1) slots id me word (λ _. x)
      (λ _ after. Turns y.4 me after (Stages x))) told
      (steps.stages n cap slots id who me h (alone_here me who h alone) word x left few is)

  pub look_asks : (word : ℕ) → length h.log < n * cap → word ≡ ticket_index n cap (length h.log)
      → Allows (Ruled key_callers key_cap) slots id me word (λ x. x)
      (λ found after. Turns jw me after (Looks callers jc jw found))
  look_asks word room is =
      subst (λ (y : Numbers). Allows (Ruled y.0 y.1) slots id me word (λ x. x)
      (λ found after. Turns y.4 me after (Looks y.2 y.3 y.4 found))) told
      (steps.looks n cap slots id who me h (alone_here me who h alone) word room is)

  pub place_asks : (word op ticket : ℕ) → length (calls_by who h.log) < cap
      → h.staged ≡ low_of op ∷ high_of op ∷ [] → length h.log < n * cap
      → word ≡ ticket_index n cap (length h.log) → ticket ≡ next_number cap who h + 1
      → Allows (Ruled key_callers key_cap) slots id me word (λ x. either (x == 0) ticket x)
      (λ found after. Turns jw me after (Places callers jc jw word found))
  place_asks word op ticket left staged room is own =
      subst
      (λ (y : Numbers). Allows (Ruled y.0 y.1) slots id me word (λ x. either (x == 0) ticket x)
      (λ found after. Turns y.4 me after (Places y.2 y.3 y.4 word found))) told
      (steps.places n cap slots id who me h
      (alone_here me who h alone) word op ticket left staged room is own)

  pub read_asks : (word : ℕ) → Allows (Ruled key_callers key_cap) slots id me word (λ x. x)
      (λ found after. Turns jw me after (Reads jc word found))
  read_asks word =
      subst (λ (y : Numbers). Allows (Ruled y.0 y.1) slots id me word (λ x. x)
      (λ found after. Turns y.4 me after (Reads y.3 word found))) told
      (steps.reads n cap slots id who me h (alone_here me who h alone) word)
