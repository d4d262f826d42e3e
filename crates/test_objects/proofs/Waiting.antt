-- A late machine after one more call.
use Rattle.std.proofs.Common.{◌≡◌, ◌≢◌, ℕ, ◌+◌, ◌-◌, ◌<◌, ◌⊎◌, inl, inr, eqb, true, false, List, [], ◌∷◌, ◌++◌, length, take, get_or, set, Option, None, sym, ap, ◌∙◌, arith}
use Rattle.std.proofs.lemmas.List.{take_more, append_assoc, get_or_default, get_or-set_same, get_or-set_other}
use Rattle.std.proofs.lemmas.Bool.Decides.{eqb_tells}
use Rattle.book_base.specs.SeqSpec.{SeqSpec}
use Rattle.shared_words.specs.declared.entry.Entry.{Entry}
use Rattle.shared_words.specs.Entries.{entry}
use Rattle.test_objects.specs.Replays.{list_after}
use Rattle.test_objects.proofs.Replaying.{list_after-append}
use Rattle.test_objects.specs.Calls.{is_put, unless, last_call, reply_after}
use Rattle.test_objects.specs.Late.{waits_after, waiting_of, waiting_call, late_changes, late_reply}
use Rattle.test_objects.proofs.Answering.{changes_more, waiting_own, waiting_other}

module _ (next : List ℕ → ℕ → List ℕ × ℕ) (old : List ℕ) (waiting : List (Option ℕ)) where
  -- the list after the changes of some calls, and then what waits of a caller
  pub list_waited : (calls : List Entry) (i : ℕ) (words : List ℕ) → words
      ≡ list_after next old (late_changes [] calls) → get_or waiting i None ≡ waiting_of i calls
      → list_after next words (waiting_call i (get_or waiting i None))
      ≡ list_after next old (late_changes [] calls ++ waiting_call i (waiting_of i calls))
  list_waited calls i words list own =
      ap (λ (l : List ℕ). list_after next l (waiting_call i (get_or waiting i None))) list
      ∙ ap (λ (o : Option ℕ).
      list_after next (list_after next old (late_changes [] calls)) (waiting_call i o)) own
      ∙ sym
      (list_after-append next old (late_changes [] calls) (waiting_call i (waiting_of i calls)))

  module _ (log : List Entry) (k : ℕ) (d : Entry) (low : k < length log) where
    pub list_more : (words after : List ℕ)
        → words ≡ list_after next old (late_changes [] (take k log))
        → get_or waiting (get_or log k d).caller None
        ≡ waiting_of (get_or log k d).caller (take k log)
        → after ≡ list_after next (list_after next words
        (waiting_call (get_or log k d).caller (get_or waiting (get_or log k d).caller None)))
        (unless (is_put (get_or log k d).op) (get_or log k d))
        → after ≡ list_after next old (late_changes [] (take (k + 1) log))
    list_more words after list own is =
        let e = get_or log k d in
        let calls = take k log in
        is
        ∙ ap (λ (l : List ℕ). list_after next l (unless (is_put e.op) e))
        (list_waited calls e.caller words list own)
        ∙ sym (list_after-append next old (late_changes [] calls
        ++ waiting_call e.caller (waiting_of e.caller calls)) (unless (is_put e.op) e))
        ∙ ap (list_after next old) (append_assoc (late_changes [] calls)
        (waiting_call e.caller (waiting_of e.caller calls)) (unless (is_put e.op) e))
        ∙ ap (list_after next old) (sym (changes_more calls e))
        ∙ ap (λ (l : List Entry). list_after next old (late_changes [] l))
        (sym (take_more log k d low))

    waiting_by : (after : List (Option ℕ)) (i : ℕ)
        → after ≡ set waiting (get_or log k d).caller (waits_after (get_or log k d).op)
        → (get_or log k d).caller < length waiting
        → get_or waiting i None ≡ waiting_of i (take k log)
        → ((eqb (get_or log k d).caller i ≡ true) × ((get_or log k d).caller ≡ i))
        ⊎ ((eqb (get_or log k d).caller i ≡ false) × ((get_or log k d).caller ≢ i))
        → get_or after i None ≡ waiting_of i (take k log ++ get_or log k d ∷ [])
    waiting_by after i is wide old (inl h) =
        let e = get_or log k d in
        ap (λ (l : List (Option ℕ)). get_or l i None) is
        ∙ ap (λ (j : ℕ). get_or (set waiting e.caller (waits_after e.op)) j None) (sym h.1)
        ∙ get_or-set_same waiting e.caller (waits_after e.op) None wide
        ∙ sym (waiting_own (take k log) e)
        ∙ ap (λ (j : ℕ). waiting_of j (take k log ++ e ∷ [])) h.1
    waiting_by after i is wide old (inr h) =
        let e = get_or log k d in
        ap (λ (l : List (Option ℕ)). get_or l i None) is
        ∙ get_or-set_other waiting e.caller i (waits_after e.op) None (λ same. h.1 (sym same))
        ∙ old
        ∙ sym (waiting_other i (take k log) e h.1)

    pub waiting_more : (after : List (Option ℕ)) (i : ℕ)
        → after ≡ set waiting (get_or log k d).caller (waits_after (get_or log k d).op)
        → (get_or log k d).caller < length waiting
        → get_or waiting i None ≡ waiting_of i (take k log)
        → get_or after i None ≡ waiting_of i (take (k + 1) log)
    waiting_more after i is wide old =
        waiting_by after i is wide old (eqb_tells (get_or log k d).caller i)
        ∙ ap (waiting_of i) (sym (take_more log k d low))

-- the last call of a log is answered after the changes of the others and its caller's waiting one
pub late_answered : (spec : SeqSpec) (log : List Entry) (d : Entry) (waiting : List (Option ℕ))
    (begun words made : List ℕ) (reply : ℕ) → 0 < length log → begun ≡ spec.init
    → words ≡ list_after spec.next begun (late_changes [] (take (length log - 1) log))
    → get_or waiting (get_or log (length log - 1) d).caller None
    ≡ waiting_of (get_or log (length log - 1) d).caller (take (length log - 1) log)
    → made ≡ list_after spec.next words (waiting_call (get_or log (length log - 1) d).caller
    (get_or waiting (get_or log (length log - 1) d).caller None))
    → reply ≡ (spec.next made (get_or log (length log - 1) d).op).1 → reply ≡ late_reply spec log
late_answered spec log d waiting begun words made reply some from list own is replied =
    let calls = take (length log - 1) log in
    let e = get_or log (length log - 1) d in
    let same : e ≡ last_call log =
    get_or_default log (length log - 1) d (entry 0 0) (omega arith) in
    replied
    ∙ ap (λ (l : List ℕ). (spec.next l e.op).1)
    (is ∙ list_waited spec.next begun waiting calls e.caller words
    list own ∙ ap (λ (l : List ℕ). list_after spec.next l
    (late_changes [] calls ++ waiting_call e.caller (waiting_of e.caller calls))) from)
    ∙ ap (λ (c : Entry). reply_after spec
    (late_changes [] calls ++ waiting_call c.caller (waiting_of c.caller calls)) c.op) same
