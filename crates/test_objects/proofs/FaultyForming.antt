-- Calls one after the other, and the forms of their replies.
use Rattle.std.proofs.Common.{◌≡◌, ◌≢◌, ℕ, suc, ◌+◌, ◌-◌, ◌%◌, ◌^◌, ◌<◌, ◌≤◌, ◌⊎◌, inl, inr, eqb, true, false, min, List, [], ◌∷◌, ◌++◌, length, map, Some, refl, sym, ap, ◌∙◌, subst, arith}
use Rattle.std.specs.List.{All}
use Rattle.std.proofs.lemmas.List.{append_assoc, append-nil, length-append, map-append}
use Rattle.std.proofs.lemmas.List.Elements.{All-nil, All-cons, All-push, All-pop}
use Rattle.std.proofs.lemmas.Bool.Decides.{eqb_tells}
use Rattle.book_base.specs.declared.TheConstants.{BAD}
use Rattle.seq_objects.specs.Replies.{reply_done, reply_none, reply_value}
use Rattle.test_objects.specs.Forms.{increment, cell_may, IsTallyReply}
use Rattle.test_objects.proofs.Counting.{found_last}
use Rattle.shared_words.specs.Deeds.{Deed, Added, Stored, Loaded, Swapped, AreCalls}
use Rattle.shared_words.specs.Histories.{Access, access, IsLawfulHistory, IsAfterAccess}
use Rattle.test_objects.specs.FaultyForms.{IsSplit, IsTorn, SplitsAreFormed, dequeue, item_index, empty_places, IsEnqueued, IsDequeued, IsOnePass, IsQueueReply, OnePassesAreFormed, up, IsMissed, IsMeeting, IsMeetingReply, MeetingsAreFormed, other_caller, LastLoadsTellReplies}

-- what follows of each call holds of each pair
formed : (call : ℕ → ℕ → List Deed → List Deed → Type 0) (form : ℕ → ℕ → Type 0)
    → ((op reply : ℕ) (before after : List Deed) → call op reply before after → form op reply)
    → (pairs : List (ℕ × ℕ)) (before after : List Deed) → AreCalls call pairs before after
    → All (λ (pair : ℕ × ℕ). form pair.0 pair.1) pairs
formed call form gives [] before after calls = All-nil (λ (pair : ℕ × ℕ). form pair.0 pair.1)
formed call form gives (pair ∷ pairs) before after calls =
    All-cons (λ (p : ℕ × ℕ). form p.0 p.1) pair pairs (gives pair.0 pair.1 before calls.0 calls.1)
    (formed call form gives pairs calls.0 after calls.2)

-- a load, and then a store of one more, are a split increment
pub loaded_and_stored : (op reply found word : ℕ) (before between after : List Deed)
    → op ≡ increment → between ≡ before ++ Loaded 0 found ∷ [] → after
    ≡ between ++ Stored 0 word ∷ [] → word ≡ (found + 1) % 2 ^ 64 → reply ≡ reply_value found
    → IsSplit op reply before after
loaded_and_stored op reply found word before between after is loaded stored more replied =
    record {
      counts = λ _. (
        found,
        stored
            ∙ ap (λ (d : List Deed). d ++ Stored 0 word ∷ []) loaded
            ∙ append_assoc before (Loaded 0 found ∷ []) (Stored 0 word ∷ [])
            ∙ ap (λ (w : ℕ). before ++ Loaded 0 found ∷ Stored 0 w ∷ []) more,
        replied,
      );
      other = λ isnt. absurd (isnt is);
    }

-- the reply to a split increment
pub torn_reply : (who who' found word reply : ℕ) (before between after : List Access)
    → IsLawfulHistory cell_may between → IsAfterAccess who (Loaded 0 found) before between
    → who' ≡ who
    → IsAfterAccess who' (Stored 0 word) between after → word ≡ (found + 1) % 2 ^ 64
    → reply ≡ reply_value found → IsTorn who reply after
torn_reply who who' found word reply before between after lawful loaded same stored more told =
    let all = before ++ loaded.between in
    record {
      before = all;
      between = stored.between;
      word = found;
      last = found_last who found before between lawful loaded;
      ends =
          stored.history
          ∙ (λ i. (loaded.history i ++ stored.between) ++ access (same i) (Stored 0 (more i)) ∷ [])
          ∙ ap (λ (l : List Access). l ++ access who (Stored 0 ((found + 1) % 2 ^ 64)) ∷ [])
          (append_assoc all (access who (Loaded 0 found) ∷ []) stored.between);
      told = told;
    }

-- the reply to a split call has the form of a tally's reply
pub split_form : (op reply : ℕ) (before after : List Deed) → IsSplit op reply before after
    → IsTallyReply op reply
split_form op reply before after call =
    record {
      counts = λ is. let c = call.counts is in (c.0, c.2);
      other = λ isnt. (call.other isnt).1;
    }

pub splits_are_formed : SplitsAreFormed
splits_are_formed = formed IsSplit IsTallyReply split_form

-- a one-pass queue replies to a dequeue that there is none, or a value
took : (places reply : ℕ) (before after : List Deed) (call : IsDequeued places reply before after)
    → ((eqb call.found 0 ≡ true) × (call.found ≡ 0))
    ⊎ ((eqb call.found 0 ≡ false) × (call.found ≢ 0))
    → (reply ≡ reply_none) ⊎ ((value : ℕ) × (reply ≡ reply_value value))
took places reply before after call (inl h) = inl (call.all_empty h.1).2
took places reply before after call (inr h) = inr (call.found - 1, (call.item h.1).2)

pub one_pass_form : (places op reply : ℕ) (before after : List Deed)
    → IsOnePass places op reply before after → IsQueueReply op reply
one_pass_form places op reply before after call =
    record {
      puts = λ value low is. (call.puts value low is).1;
      takes = λ is. let t = call.takes is in took places reply before after t (eqb_tells t.found 0);
      other = λ no_put no_take. (call.other no_put no_take).1;
    }

pub one_passes_are_formed : OnePassesAreFormed
one_passes_are_formed places = formed (IsOnePass places) IsQueueReply (one_pass_form places)

-- an enqueue of the value in its operation word, which replies `done`, is a call of a one-pass
-- queue
pub enqueued_is_made : (places op value : ℕ) (before after : List Deed) → 2 ^ 32 ≤ op → op ≢ dequeue
    → op ≤ 2 ^ 33 → value ≡ op - 2 ^ 32 → IsEnqueued places value before after
    → IsOnePass places op reply_done before after
enqueued_is_made places op value before after from no_take to is call =
    record {
      puts = λ v low same. let value_is : value ≡ v = omega arith in
          (subst (λ (k : ℕ). IsEnqueued places k before after) value_is call, refl);
      takes = λ same. absurd (no_take same);
      other = λ no_put no_take'. absurd (no_put (op - 2 ^ 32) (omega arith) (omega arith));
    }

pub dequeued_is_made : (places op reply : ℕ) (before after : List Deed) → op ≡ dequeue
    → IsDequeued places reply before after → IsOnePass places op reply before after
dequeued_is_made places op reply before after is call =
    record {
      puts = λ v low same. absurd (omega arith);
      takes = λ _. call;
      other = λ no_put no_take. absurd (no_take is);
    }

-- a place that was found empty, and one that had an item
pub place_passed : (count place : ℕ) (before begun between after : List Deed) (counter found : ℕ)
    → begun ≡ before ++ Loaded 0 counter ∷ [] → between ≡ begun ++ empty_places count
    → place ≡ item_index count
    → after ≡ between ++ Swapped place 0 found ∷ [] → found ≡ 0
    → after ≡ begun ++ empty_places (count + 1)
place_passed count place before begun between after counter found loaded so_far at swapped none =
    let up : suc count ≡ count + 1 = omega arith in
    swapped
    ∙ (λ i. so_far i ++ Swapped (at i) 0 (none i) ∷ [])
    ∙ append_assoc begun (empty_places count) (Swapped (item_index count) 0 0 ∷ [])
    ∙ ap (λ (k : ℕ). begun ++ empty_places k) up

pub all_passed : (places counter count : ℕ) (before begun after : List Deed)
    → begun ≡ before ++ Loaded 0 counter ∷ [] → after ≡ begun ++ empty_places count
    → count ≡ min counter places → IsDequeued places reply_none before after
all_passed places counter count before begun after loaded so_far all =
    record {
      counter = counter;
      count = count;
      found = 0;
      within = omega arith;
      all_empty = λ _. (
        all,
        so_far ∙ ap (λ (d : List Deed). d ++ empty_places count) loaded
            ∙ append_assoc before (Loaded 0 counter ∷ []) (empty_places count),
        refl,
      );
      item = λ some. absurd (some refl);
    }

pub item_found : (places counter count place found reply : ℕ)
    (before begun between after : List Deed) → begun ≡ before ++ Loaded 0 counter ∷ [] → between
    ≡ begun ++ empty_places count → place ≡ item_index count
    → after ≡ between ++ Swapped place 0 found ∷ [] → found ≢ 0 → count < min counter places
    → reply ≡ reply_value (found - 1) → IsDequeued places reply before after
item_found places counter count place found reply before begun between after loaded so_far at
    swapped some low replied =
    record {
      counter = counter;
      count = count;
      found = found;
      within = omega arith;
      all_empty = λ none. absurd (some none);
      item = λ _. (
        low,
        swapped
            ∙ (λ i. (so_far ∙ ap (λ (d : List Deed). d ++ empty_places count) loaded) i
            ++ Swapped (at i) 0 found ∷ [])
            ∙ append_assoc (before ++ Loaded 0 counter ∷ []) (empty_places count)
            (Swapped (item_index count) 0 found ∷ [])
            ∙ append_assoc before (Loaded 0 counter ∷ [])
            (empty_places count ++ Swapped (item_index count) 0 found ∷ []),
        replied,
      );
    }

-- an addition to the counter, and then a store, or none where there is no place
pub enqueued : (places place index word value : ℕ) (before between after : List Deed)
    → place < places → between ≡ before ++ Added 0 1 place ∷ [] → index ≡ item_index place
    → word ≡ value + 1 → after ≡ between ++ Stored index word ∷ []
    → IsEnqueued places value before after
enqueued places place index word value before between after low added at is stored =
    record {
      place = place;
      stored = λ _. stored ∙ (λ i. added i ++ Stored (at i) (is i) ∷ [])
          ∙ append_assoc before (Added 0 1 place ∷ []) (Stored (item_index place) (value + 1) ∷ []);
      beyond = λ past. absurd (omega arith);
    }

-- no load, and one more that missed the flag
pub none_missed : (flag : ℕ) (deeds : List Deed) → IsMissed flag 0 deeds deeds
none_missed flag deeds = record {
  found = [];
  many = refl;
  each = All-nil (λ (word : ℕ). word ≢ up);
  loaded = sym (append-nil deeds);
}

pub one_missed : (flag count found : ℕ) (before between after : List Deed)
    → IsMissed flag count before between → after ≡ between ++ Loaded flag found ∷ [] → found ≢ up
    → IsMissed flag (count + 1) before after
one_missed flag count found before between after so_far loaded isnt =
    record {
      found = so_far.found ++ found ∷ [];
      many = omega (arith, length-append so_far.found (found ∷ []), so_far.many);
      each = All-push (λ (word : ℕ). word ≢ up) so_far.found found so_far.each isnt;
      loaded =
          loaded
          ∙ ap (λ (d : List Deed). d ++ Loaded flag found ∷ []) so_far.loaded
          ∙ append_assoc before (map (Loaded flag) so_far.found) (Loaded flag found ∷ [])
          ∙ ap (λ (d : List Deed). before ++ d)
          (sym (map-append (Loaded flag) so_far.found (found ∷ [])));
    }

-- the reply to a meeting has the form of a meeting's reply
pub meeting_form : (caller reply : ℕ) (before after : List Deed)
    → IsMeeting caller reply before after → IsMeetingReply reply
meeting_form caller reply before after call = elim call.waited [
  | inl seen ↦ inl seen.1
  | inr missed ↦ inr missed.1
]

pub meetings_are_formed : MeetingsAreFormed
meetings_are_formed caller =
    formed (λ _. IsMeeting caller) (λ _. IsMeetingReply) (λ _. meeting_form caller)

-- the last of a list that has one
last_of : (x : ℕ) (xs : List ℕ) → (prefix : List ℕ) × (last : ℕ) × (x ∷ xs ≡ prefix ++ last ∷ [])
last_of x [] = ([], x, refl)
last_of x (y ∷ ys) = let h = last_of y ys in (x ∷ h.0, h.1, ap (λ (l : List ℕ). x ∷ l) h.2)

-- where loads of a flag all missed it, the last deed is a load that missed it
last_missed : (flag : ℕ) (words : List ℕ) (before after : List Deed) → 0 < length words
    → All (λ (word : ℕ). word ≢ up) words → after ≡ before ++ map (Loaded flag) words
    → (between : List Deed) × (found : ℕ) × (found ≢ up)
    × (after ≡ between ++ Loaded flag found ∷ [])
last_missed flag [] before after some each loaded = absurd (omega arith)
last_missed flag (x ∷ xs) before after some each loaded =
    let l = last_of x xs in (
      before ++ map (Loaded flag) l.0,
      l.1,
      (All-pop (λ (word : ℕ). word ≢ up) (x ∷ xs) l.0 (Some l.1) l.2 each).1,
      loaded
          ∙ ap (λ (ws : List ℕ). before ++ map (Loaded flag) ws) l.2
          ∙ ap (λ (d : List Deed). before ++ d) (map-append (Loaded flag) l.0 (l.1 ∷ []))
          ∙ sym (append_assoc before (map (Loaded flag) l.0) (Loaded flag l.1 ∷ [])),
    )

done_is_not_bad : (reply : ℕ) → reply ≡ BAD → reply ≢ reply_done
done_is_not_bad reply bad done = absurd (omega arith)

pub last_loads_tell_replies : LastLoadsTellReplies
last_loads_tell_replies caller reply before after call =
    elim call.waited [
      | inl seen ↦ (seen.0.between, up, seen.0.seen, (λ _. refl, λ _. seen.1))
      | inr missed ↦
          let m = last_missed (other_caller caller) missed.0.found call.between after
          (omega (arith, missed.0.many)) missed.0.each missed.0.loaded in (
            m.0,
            m.1,
            m.3,
            (λ done. absurd (done_is_not_bad reply missed.1 done), λ is. absurd (m.2 is)),
          )
    ]
