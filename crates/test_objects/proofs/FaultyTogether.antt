-- What the histories of a one-pass queue and of a meeting say of what was found.
use Rattle.std.proofs.Common.{◌≡◌, ◌≢◌, ◌⊎◌, ℕ, ◌+◌, ◌-◌, ◌%◌, ◌^◌, Bool, cond, ◌==◌, if◌then◌else◌, List, [], ◌∷◌, ◌++◌, count_by, refl, sym, ap, ◌∙◌, subst, inl, inr, arith, eq-eqb, ne_eqb}
use Rattle.std.specs.List.{All}
use Rattle.std.proofs.Math.Nat.{mod-add-mod}
use Rattle.std.proofs.lemmas.Bool.{cases_eq}
use Rattle.std.proofs.lemmas.List.Elements.{All-nil, All-cons, All-head, All-tail}
use Rattle.std.proofs.lemmas.List.Sums.{sum_by-cons}
use Rattle.seq_objects.specs.Replies.{reply_value}
use Rattle.test_objects.specs.Forms.{cell_may}
use Rattle.test_objects.proofs.Together.{cells_are_read}
use Rattle.shared_words.specs.Deeds.{Deed, Added, Stored, Loaded, Swapped, place_of, leaves}
use Rattle.shared_words.specs.Histories.{Access, access, word_from, word_at, IsLawfulHistory, IsAfterAccess}
use Rattle.shared_words.specs.Transcripts.{Transcript, AreOfOneHistory}
use Rattle.shared_words.proofs.Histories.{lawful_allowed, lawful_prefix}
use Rattle.test_objects.specs.FaultyForms.{IsSplit, queue_may, item_index, IsOnePass, up, meeting_may, IsMeeting}
use Rattle.test_objects.specs.FaultyTogether.{TellOneSplit, is_addition, IsPutAt, IsGiven, TellOneQueue, TellOneMeeting, QueuesGivePlacesInOrder, QueuesGiveWhatWasPut, MeetingsFindRaisedFlags}
use Rattle.test_objects.proofs.Raising.{flags_are_raised}

-- each access is one that its caller may make
abbrev AllMay : List Access → Type 0
AllMay history = All (λ (a : Access). queue_may a.caller a.deed) history

first_lawful : (may : ℕ → Deed → Type 0) (history before rest : List Access) (a : Access)
    → IsLawfulHistory may history → history ≡ before ++ a ∷ rest → IsLawfulHistory may before
first_lawful may history before rest a lawful is =
    lawful_prefix may before (a ∷ rest)
    (subst (λ (l : List Access). IsLawfulHistory may l) is lawful)

-- ---- the counter

abbrev additions : List Access → ℕ
additions history = count_by (λ (a : Access). is_addition a.deed) history

abbrev counted : Deed → ℕ
counted d = cond (is_addition d) 1 0

added_yes : (a : Access) (history : List Access) (deed : Deed) → a.deed ≡ deed → counted deed ≡ 1
    → additions (a ∷ history) ≡ 1 + additions history
added_yes a history deed is one =
    omega (arith, sum_by-cons (λ (b : Access). counted b.deed) a history, ap counted is ∙ one)

added_no : (a : Access) (history : List Access) (deed : Deed) → a.deed ≡ deed → counted deed ≡ 0
    → additions (a ∷ history) ≡ additions history
added_no a history deed is none =
    omega (arith, sum_by-cons (λ (b : Access). counted b.deed) a history, ap counted is ∙ none)

-- The word of the counter after a deed.
abbrev turn : ℕ → Deed → ℕ
turn word d = if place_of d == 0 then leaves d word else word

no_counter : (place : ℕ) → item_index place ≢ 0
no_counter place e = absurd (omega arith)

elsewhere : (place word left : ℕ) → (if item_index place == 0 then left else word) ≡ word
elsewhere place word left =
    ap (λ (b : Bool). if b then left else word) (ne_eqb (item_index place) 0 (no_counter place))

counts_from : (word : ℕ) (history : List Access) → AllMay history
    → word_from 0 (word % 2 ^ 64) history ≡ (word + additions history) % 2 ^ 64
counts_from word [] all =
    ap (λ (k : ℕ). k % 2 ^ 64) (let none : word ≡ word + 0 = omega arith in none)
counts_from word (a ∷ history) all =
    let may = λ (b : Access). queue_may b.caller b.deed in
    let all' = All-tail may a history all in
    let same : turn (word % 2 ^ 64) a.deed ≡ word % 2 ^ 64
    → additions (a ∷ history) ≡ additions history
    → word_from 0 (word % 2 ^ 64) (a ∷ history) ≡ (word + additions (a ∷ history)) % 2 ^ 64 =
    (λ stays none. ap (λ (k : ℕ). word_from 0 k history) stays ∙ counts_from word history all'
    ∙ ap (λ (k : ℕ). (word + k) % 2 ^ 64) (sym none)) in
    elim (All-head may a history all) [
      | inl added ↦
          let one = added_yes a history (Added 0 1 added.0) added.1 refl in
          let up : word + 1 + additions history ≡ word + additions (a ∷ history) =
          omega (arith, one) in
          ap (λ (d : Deed). word_from 0 (turn (word % 2 ^ 64) d) history) added.1
          ∙ ap (λ (k : ℕ). word_from 0 k history) (mod-add-mod word (2 ^ 64) 1)
          ∙ counts_from (word + 1) history all'
          ∙ ap (λ (k : ℕ). k % 2 ^ 64) up
      | inr (inl loaded) ↦ same (ap (turn (word % 2 ^ 64)) loaded.1)
          (added_no a history (Loaded 0 loaded.0) loaded.1 refl)
      | inr (inr (inl stored)) ↦
          same
          (ap (turn (word % 2 ^ 64)) stored.2 ∙ elsewhere stored.0 (word % 2 ^ 64) (stored.1 + 1))
          (added_no a history (Stored (item_index stored.0) (stored.1 + 1)) stored.2 refl)
      | inr (inr (inr swapped)) ↦
          same (ap (turn (word % 2 ^ 64)) swapped.2 ∙ elsewhere swapped.0 (word % 2 ^ 64) 0)
          (added_no a history (Swapped (item_index swapped.0) 0 swapped.1) swapped.2 refl)
    ]

pub queues_give_places_in_order : QueuesGivePlacesInOrder
queues_give_places_in_order history lawful before rest who found is =
    let a = access who (Added 0 1 found) in
    let was : found ≡ word_at 0 before = (lawful before rest a is).found in
    let first = first_lawful queue_may history before rest a lawful is in
    let none : 0 + additions before ≡ additions before = omega arith in
    was ∙ counts_from 0 before (lawful_allowed queue_may [] before first)
    ∙ ap (λ (k : ℕ). k % 2 ^ 64) none

-- ---- the places of items

-- A place has the word that it had first, untouched, or one that was put there, or none.
abbrev Holds : (place first word : ℕ) → List Access → Type 0
Holds place first word history =
    (All (λ (a : Access). place_of a.deed ≢ item_index place) history × (word ≡ first))
    ⊎ IsPutAt place word history ⊎ (word ≡ 0)

put_later : (place word : ℕ) (a : Access) (history : List Access) → IsPutAt place word history
    → IsPutAt place word (a ∷ history)
put_later place word a history h =
    record {
      before = a ∷ h.before;
      who = h.who;
      later = h.later;
      put = ap (λ (l : List Access). a ∷ l) h.put;
      left = h.left;
    }

-- where the access is to this place, and puts a word there or takes what is there
holds_put : (place word first next : ℕ) (a : Access) (history : List Access)
    → a.deed ≡ Stored (item_index place) first → Holds place first next history
    → Holds place word next (a ∷ history)
holds_put place word first next a history is (inl none) =
    inr (inl (record {
      before = [];
      who = a.caller;
      later = history;
      put = λ i. access a.caller ((is ∙ ap (Stored (item_index place)) (sym none.1)) i) ∷ history;
      left = none.0;
    }))
holds_put place word first next a history is (inr (inl put)) =
    inr (inl (put_later place next a history put))
holds_put place word first next a history is (inr (inr zero)) = inr (inr zero)

holds_taken : (place word next : ℕ) (a : Access) (history : List Access)
    → Holds place 0 next history → Holds place word next (a ∷ history)
holds_taken place word next a history (inl none) = inr (inr none.1)
holds_taken place word next a history (inr (inl put)) =
    inr (inl (put_later place next a history put))
holds_taken place word next a history (inr (inr zero)) = inr (inr zero)

holds_else : (place word next : ℕ) (a : Access) (history : List Access) → place_of a.deed
    ≢ item_index place → Holds place word next history → Holds place word next (a ∷ history)
holds_else place word next a history other (inl none) =
    inl
    (All-cons (λ (b : Access). place_of b.deed ≢ item_index place) a history other none.0, none.1)
holds_else place word next a history other (inr (inl put)) =
    inr (inl (put_later place next a history put))
holds_else place word next a history other (inr (inr zero)) = inr (inr zero)

-- an access to an item's place changes the item's word as its deed does, and one to another place
-- doesn't
word_here : (place word : ℕ) (a : Access) (history : List Access)
    → place_of a.deed ≡ item_index place → word_from (item_index place) word (a ∷ history)
    ≡ word_from (item_index place) (leaves a.deed word) history
word_here place word a history is =
    ap (λ (b : Bool). word_from (item_index place) (if b then leaves a.deed word else word) history)
    (eq-eqb (place_of a.deed) (item_index place) is)

word_else : (place word : ℕ) (a : Access) (history : List Access)
    → place_of a.deed ≢ item_index place
    → word_from (item_index place) word (a ∷ history) ≡ word_from (item_index place) word history
word_else place word a history isnt =
    ap (λ (b : Bool). word_from (item_index place) (if b then leaves a.deed word else word) history)
    (ne_eqb (place_of a.deed) (item_index place) isnt)

holds_from : (place word : ℕ) (history : List Access) → AllMay history
    → Holds place word (word_from (item_index place) word history) history
holds_from place word [] all =
    inl (All-nil (λ (a : Access). place_of a.deed ≢ item_index place), refl)
holds_from place word (a ∷ history) all =
    let may = λ (b : Access). queue_may b.caller b.deed in
    let all' = All-tail may a history all in
    let index : ℕ = item_index place in
    elim (cases_eq (place_of a.deed) index) [
      | inr other ↦
          subst (λ (w : ℕ). Holds place word w (a ∷ history))
          (sym (word_else place word a history other))
          (holds_else place word (word_from index word history) a history other
          (holds_from place word history all'))
      | inl here ↦ elim (All-head may a history all) [
        | inl added ↦ absurd (no_counter place (sym here ∙ ap place_of added.1))
        | inr (inl loaded) ↦ absurd (no_counter place (sym here ∙ ap place_of loaded.1))
        | inr (inr (inl stored)) ↦
            let put : ℕ = stored.1 + 1 in
            let deed : a.deed ≡ Stored index put =
            stored.2 ∙ ap (λ (k : ℕ). Stored k put) (sym (ap place_of stored.2) ∙ here) in
            let left : word_from index word (a ∷ history) ≡ word_from index put history =
            word_here place word a history here
            ∙ ap (λ (d : Deed). word_from index (leaves d word) history) deed in
            subst (λ (w : ℕ). Holds place word w (a ∷ history)) (sym left)
            (holds_put place word put (word_from index put history) a history deed
            (holds_from place put history all'))
        | inr (inr (inr swapped)) ↦
            let left : word_from index word (a ∷ history) ≡ word_from index 0 history =
            word_here place word a history here
            ∙ ap (λ (d : Deed). word_from index (leaves d word) history) swapped.2 in
            subst (λ (w : ℕ). Holds place word w (a ∷ history)) (sym left)
            (holds_taken place word (word_from index 0 history) a history
            (holds_from place 0 history all'))
      ]
    ]

pub queues_give_what_was_put : QueuesGiveWhatWasPut
queues_give_what_was_put history lawful before rest who place found is some =
    let a = access who (Swapped (item_index place) 0 found) in
    let was : found ≡ word_at (item_index place) before = (lawful before rest a is).found in
    let first = first_lawful queue_may history before rest a lawful is in
    elim (holds_from place 0 before (lawful_allowed queue_may [] before first)) [
      | inl none ↦ absurd (some (was ∙ none.1))
      | inr (inl put) ↦ subst (λ (w : ℕ). IsPutAt place w before) (sym was) put
      | inr (inr zero) ↦ absurd (some (was ∙ zero))
    ]

-- the reply to a dequeue that took an item
pub given : (who who' found place index reply : ℕ) (before after : List Access)
    → IsLawfulHistory queue_may after → IsAfterAccess who' (Swapped index 0 found) before after
    → who' ≡ who → index ≡ item_index place
    → found ≢ 0 → reply ≡ reply_value (found - 1) → IsGiven who reply after
given who who' found place index reply before after lawful made same at some told =
    let all = before ++ made.between in
    let ends : after ≡ all ++ access who (Swapped (item_index place) 0 found) ∷ [] =
    made.history ∙ (λ i. all ++ access (same i) (Swapped (at i) 0 found) ∷ []) in
    record {
      before = all;
      place = place;
      word = found;
      put = queues_give_what_was_put after lawful all [] who place found ends some;
      ends = ends;
      told = told;
    }

-- ---- flags

pub meetings_find_raised_flags : MeetingsFindRaisedFlags
meetings_find_raised_flags history lawful before rest who flag is =
    let a = access who (Loaded flag up) in
    let was : up ≡ word_at flag before = (lawful before rest a is).found in
    flags_are_raised flag before
    (first_lawful meeting_may history before rest a lawful is) (sym was)

-- ---- what the transcripts say together

pub one_split : (n : ℕ) (history : List Access) (transcripts : List Transcript)
    → AreOfOneHistory cell_may (λ _. IsSplit) n history transcripts
    → TellOneSplit n history transcripts
one_split n history transcripts one =
    record { told = one; found = cells_are_read history one.lawful }

pub one_queue : (places n : ℕ) (history : List Access) (transcripts : List Transcript)
    → AreOfOneHistory queue_may (λ _. IsOnePass places) n history transcripts
    → TellOneQueue places n history transcripts
one_queue places n history transcripts one =
    record {
      told = one;
      in_order = queues_give_places_in_order history one.lawful;
      taken = queues_give_what_was_put history one.lawful;
    }

pub one_meeting : (n : ℕ) (history : List Access) (transcripts : List Transcript)
    → AreOfOneHistory meeting_may (λ caller _. IsMeeting caller) n history transcripts
    → TellOneMeeting n history transcripts
one_meeting n history transcripts one =
    record { told = one; raised = meetings_find_raised_flags history one.lawful }
