-- Each step of a caller keeps the rule of the table, and changes the hand as its kind says.
use Rattle.std.proofs.Common.{◌≡◌, ◌≢◌, ℕ, ◌+◌, ◌*◌, ◌<◌, List, [], ◌∷◌, ◌++◌, length, slice_index, slice_set, refl, sym, ap, ◌∙◌, subst, inl, inr, arith, append_assoc, length-append, length-set}
use Rattle.std.proofs.lemmas.Bool.{cases_lt}
use Rattle.std.proofs.lemmas.List.{append-nil, get_or-set_other, get_or-set_same, get_or_append_left, get_or-append-add}
use Rattle.book_base.specs.OperationWord.{low_of, high_of}
use Rattle.shared_words.specs.declared.entry.Entry.{Entry}
use Rattle.shared_words.specs.Entries.{calls_by, IsWithinCap, entry}
use Rattle.shared_words.specs.Words.{number_of, number_after, operation_index, ticket_index, IsStored, AreWordsOf}
use Rattle.shared_words.specs.Hands.{Hand, hand, next_number, HandFits}
use Rattle.shared_words.specs.LogRule.{Learns}
use Rattle.shared_words.proofs.Logs.{ends_at, calls_by-at, calls_by-push_other, within_prefix, within_at, within_push, begins_more}
use Rattle.shared_words.proofs.Numbers.{number_low, not_ticket, not_other, not_stored, not_others}

-- a word that isn't written stays
stays : (words : List ℕ) (at other x : ℕ) → other ≢ at
    → slice_index (slice_set words at x) other ≡ slice_index words other
stays words at other x ne = get_or-set_other words at other x 0 ne

-- a store of a word of the next operation of a caller
module _ (n cap who : ℕ) (words : List ℕ) (log : List Entry) (h : Hand) (word x : ℕ)
    (stand : AreWordsOf n cap words log) (fits : HandFits n cap words log who h)
    (left : length (calls_by who h.log) < cap) (few : length h.staged < 2)
    (at : word ≡ operation_index (next_number cap who h) + length h.staged) where
  abbrev pub staged_words : List ℕ
  staged_words = slice_set words word x

  next_low : next_number cap who h < n * cap
  next_low = number_low n cap who (length (calls_by who h.log)) fits.caller left

  ticket_stays : (place : ℕ) → slice_index staged_words (ticket_index n cap place)
      ≡ slice_index words (ticket_index n cap place)
  ticket_stays place = stays words word (ticket_index n cap place) x (λ e. not_ticket n cap
      (next_number cap who h) (length h.staged) place next_low few (sym at ∙ sym e))

  operation_stays : (number half : ℕ) → number ≢ next_number cap who h → half < 2
      → slice_index staged_words (operation_index number + half)
      ≡ slice_index words (operation_index number + half)
  operation_stays number half ne low = stays words word (operation_index number + half) x
      (λ e. not_other number (next_number cap who h) half (length h.staged) ne low few (e ∙ at))

  stored_stays : (before rest : List Entry) (e : Entry) → log ≡ before ++ e ∷ rest
      → IsStored n cap staged_words before e
  stored_stays before rest e is =
      let was = stand.stored before rest e is in
      let apart = not_stored n cap who log before rest e h stand.within is fits.own left in
      let at_low : operation_index (number_after cap before e) + 0
      ≡ operation_index (number_after cap before e) = omega arith in
      record {
        ticket = ticket_stays (length before) ∙ was.ticket;
        low = ap (slice_index staged_words) (sym at_low)
            ∙ operation_stays (number_after cap before e) 0 apart (omega arith)
            ∙ ap (slice_index words) at_low ∙ was.low;
        high = operation_stays (number_after cap before e) 1 apart (omega arith) ∙ was.high;
      }

  pub stage_stands : AreWordsOf n cap staged_words log
  stage_stands =
      record {
        count = length-set words word x ∙ stand.count;
        within = stand.within;
        stored = stored_stays;
        free = λ place suffix low. ticket_stays place ∙ stand.free place suffix low;
      }

  staged_at : (half : ℕ) → half < length (h.staged ++ x ∷ []) → slice_index staged_words
      (operation_index (next_number cap who h) + half) ≡ slice_index (h.staged ++ x ∷ []) half
  staged_at half low = elim (cases_lt half (length h.staged)) [
    | inl old ↦
        stays words word (operation_index (next_number cap who h) + half) x
        (λ e. absurd (omega arith))
        ∙ fits.staged half old
        ∙ sym (get_or_append_left h.staged (x ∷ []) 0 half old)
    | inr new ↦
        let long = length-append h.staged (x ∷ []) in
        let last : half ≡ length h.staged = omega arith in
        let zero_more : length h.staged + 0 ≡ length h.staged = omega arith in
        let here : operation_index (next_number cap who h) + half ≡ word = omega arith in
        let inside : word < length words =
        (let low = next_low in let all = stand.count in omega arith) in
        ap (slice_index staged_words) here
        ∙ get_or-set_same words word x 0 inside
        ∙ sym (ap (slice_index (h.staged ++ x ∷ [])) (last ∙ sym zero_more)
        ∙ get_or-append-add h.staged (x ∷ []) 0 0)
  ]

  pub stage_fits : HandFits n cap staged_words log who (hand h.log (h.staged ++ x ∷ []) h.tried)
  stage_fits =
      record {
        caller = fits.caller;
        prefix = fits.prefix;
        own = fits.own;
        room = λ some. left;
        few = omega (arith, length-append h.staged (x ∷ []));
        staged = staged_at;
      }

  pub stage_others : (i : ℕ) (m : Hand) → i ≢ who → HandFits n cap words log i m
      → HandFits n cap staged_words log i m
  stage_others i m ne was =
      record {
        caller = was.caller;
        prefix = was.prefix;
        own = was.own;
        room = was.room;
        few = was.few;
        staged = λ half low.
            operation_stays (next_number cap i m) half
            (not_others cap i who m h ne (was.room (omega arith)) left)
            (let few = was.few in omega arith)
            ∙ was.staged half low;
      }

-- the first place that a caller doesn't know
module _ (n cap who : ℕ) (words : List ℕ) (log : List Entry) (h : Hand)
    (stand : AreWordsOf n cap words log) (fits : HandFits n cap words log who h)
    (here : length h.log < n * cap) where
  abbrev pub ticket_there : ℕ
  ticket_there = slice_index words (ticket_index n cap (length h.log))

  -- a free ticket: the caller knows the whole log
  pub known_whole : ticket_there ≡ 0 → log ≡ h.log
  known_whole free = elim fits.prefix.0 as (λ rest. log ≡ h.log ++ rest → log ≡ h.log) [
    | [] ↦ λ is. is ∙ append-nil h.log
    | (e ∷ rest) ↦ λ is. absurd (let ticket = (stand.stored h.log rest e is).ticket in omega arith)
  ] fits.prefix.1

  -- a filled ticket: the entry there is the next of the log
  pub next_entry : ticket_there ≢ 0 → (e : Entry) × (rest : List Entry) × (log ≡ h.log ++ e ∷ rest)
  next_entry filled = elim fits.prefix.0 as (λ rest. log ≡ h.log ++ rest → (e : Entry)
      × (rest' : List Entry) × (log ≡ h.log ++ e ∷ rest')) [
        | [] ↦ λ is. absurd (let long = ap length (is ∙ append-nil h.log) in
            filled (stand.free (length h.log) (omega arith) here))
        | (e ∷ rest) ↦ λ is. (e, rest, is)
      ] fits.prefix.1

  module _ (e : Entry) (rest : List Entry) (is : log ≡ h.log ++ e ∷ rest) (tried : List ℕ) where
    abbrev pub learnt : Hand
    learnt = hand (h.log ++ e ∷ []) h.staged tried

    prefix_is : log ≡ (h.log ++ e ∷ []) ++ rest
    prefix_is = is ∙ sym (append_assoc h.log (e ∷ []) rest)

    other : e.caller ≢ who
    other mine =
        let here = calls_by-at h.log rest e in
        let all : length (calls_by e.caller log) ≡ length (calls_by e.caller (h.log ++ e ∷ rest)) =
        ap (λ (l : List Entry). length (calls_by e.caller l)) is in
        let by_who : length (calls_by e.caller log) ≡ length (calls_by who log) =
        ap (λ (i : ℕ). length (calls_by i log)) mine in
        let known : length (calls_by who log) ≡ length (calls_by who h.log) = ap length fits.own in
        let by_who' : length (calls_by e.caller h.log) ≡ length (calls_by who h.log) =
        ap (λ (i : ℕ). length (calls_by i h.log)) mine in
        omega arith

    same_calls : calls_by who (h.log ++ e ∷ []) ≡ calls_by who h.log
    same_calls = calls_by-push_other who h.log e other

    pub learn_fits : HandFits n cap words log who learnt
    learn_fits =
        let count : length (calls_by who (h.log ++ e ∷ [])) ≡ length (calls_by who h.log) =
        ap length same_calls in
        record {
          caller = fits.caller;
          prefix = (rest, prefix_is);
          own = fits.own ∙ sym same_calls;
          room = λ some. let was = fits.room some in omega arith;
          few = fits.few;
          staged = λ half low.
              ap (λ (k : ℕ). slice_index words (operation_index (number_of cap who k) + half)) count
              ∙ fits.staged half low;
        }

    pub learn_tells : Learns n cap who ticket_there tried h learnt
    learn_tells =
        record {
          entry = e;
          log = refl;
          ticket = (stand.stored h.log rest e is).ticket;
          other = same_calls;
          within = within_prefix n cap (h.log ++ e ∷ []) rest
              (subst (λ (l : List Entry). IsWithinCap n cap l) prefix_is stand.within);
        }

  -- the caller's own ticket is placed at the first place that it doesn't know
  module _ (op : ℕ) (left : length (calls_by who h.log) < cap)
      (staged : h.staged ≡ low_of op ∷ high_of op ∷ []) (free : ticket_there ≡ 0) (ticket : ℕ)
      (own_ticket : ticket ≡ next_number cap who h + 1) where
    abbrev pub mine : Entry
    mine = entry who op

    abbrev pub placed_log : List Entry
    placed_log = log ++ mine ∷ []

    abbrev pub placed_words : List ℕ
    placed_words = slice_set words (ticket_index n cap (length h.log)) ticket

    whole : log ≡ h.log
    whole = known_whole free

    same_number : number_after cap log mine ≡ next_number cap who h
    same_number = ap (λ (l : List Entry). number_of cap who (length (calls_by who l))) whole

    left_in_log : length (calls_by who log) < cap
    left_in_log = let known = ap length fits.own in omega arith

    operation_kept : (number half : ℕ) → number < n * cap → half < 2 → slice_index placed_words
        (operation_index number + half) ≡ slice_index words (operation_index number + half)
    operation_kept number half low one =
        stays words (ticket_index n cap (length h.log)) (operation_index number + half) ticket
        (not_ticket n cap number half (length h.log) low one)

    ticket_kept : (place : ℕ) → place ≢ length h.log → slice_index placed_words
        (ticket_index n cap place) ≡ slice_index words (ticket_index n cap place)
    ticket_kept place ne = stays words (ticket_index n cap (length h.log))
        (ticket_index n cap place) ticket (λ e. ne (omega arith))

    stored_kept : (before rest : List Entry) (e : Entry) → log ≡ before ++ e ∷ rest
        → IsStored n cap placed_words before e
    stored_kept before rest e is =
        let was = stand.stored before rest e is in
        let at = within_at n cap before rest e
        (subst (λ (l : List Entry). IsWithinCap n cap l) is stand.within) in
        let low : number_after cap before e < n * cap =
        number_low n cap e.caller (length (calls_by e.caller before)) at.0 at.1 in
        let all = ap length is in
        let known = ap length whole in
        let parts = length-append before (e ∷ rest) in
        let at_low : operation_index (number_after cap before e) + 0
        ≡ operation_index (number_after cap before e) = omega arith in
        record {
          ticket = ticket_kept (length before) (λ same. absurd (omega arith)) ∙ was.ticket;
          low = ap (slice_index placed_words) (sym at_low)
              ∙ operation_kept (number_after cap before e) 0 low (omega arith)
              ∙ ap (slice_index words) at_low ∙ was.low;
          high = operation_kept (number_after cap before e) 1 low (omega arith) ∙ was.high;
        }

    stored_mine : IsStored n cap placed_words log mine
    stored_mine =
        let next : next_number cap who h < n * cap =
        number_low n cap who (length (calls_by who h.log)) fits.caller left in
        let known : length log ≡ length h.log = ap length whole in
        let two : length h.staged ≡ 2 = ap length staged in
        let at_low : operation_index (next_number cap who h) + 0
        ≡ operation_index (next_number cap who h) = omega arith in
        let inside : ticket_index n cap (length h.log) < length words =
        (let all = stand.count in omega arith) in
        record {
          ticket =
              ap (λ (k : ℕ). slice_index placed_words (ticket_index n cap k)) known
              ∙ get_or-set_same words (ticket_index n cap (length h.log)) ticket 0 inside
              ∙ own_ticket
              ∙ ap (λ (k : ℕ). k + 1) (sym same_number);
          low =
              ap (λ (k : ℕ). slice_index placed_words (operation_index k)) same_number
              ∙ ap (slice_index placed_words) (sym at_low)
              ∙ operation_kept (next_number cap who h) 0 next (omega arith)
              ∙ fits.staged 0 (omega arith)
              ∙ ap (λ (l : List ℕ). slice_index l 0) staged;
          high =
              ap (λ (k : ℕ). slice_index placed_words (operation_index k + 1)) same_number
              ∙ operation_kept (next_number cap who h) 1 next (omega arith)
              ∙ fits.staged 1 (omega arith)
              ∙ ap (λ (l : List ℕ). slice_index l 1) staged;
        }

    stored_placed : (before rest : List Entry) (e : Entry) → placed_log ≡ before ++ e ∷ rest
        → IsStored n cap placed_words before e
    stored_placed before rest e is = elim (ends_at log before rest mine e is) [
      | inl last ↦ subst (λ (y : List Entry × Entry). IsStored n cap placed_words y.0 y.1)
          (λ i. (last.0 i, last.1 i)) stored_mine
      | inr old ↦ stored_kept before old.0 e old.1
    ]

    pub place_within : IsWithinCap n cap placed_log
    place_within = within_push n cap log mine stand.within fits.caller left_in_log

    pub place_stands : AreWordsOf n cap placed_words placed_log
    place_stands =
        record {
          count = length-set words (ticket_index n cap (length h.log)) ticket ∙ stand.count;
          within = place_within;
          stored = stored_placed;
          free = λ place suffix low.
              let long = length-append log (mine ∷ []) in
              let known = ap length whole in
              ticket_kept place (λ same. absurd (omega arith)) ∙ stand.free place (omega arith) low;
        }

    pub placed_is : placed_log ≡ h.log ++ mine ∷ []
    placed_is = ap (λ (l : List Entry). l ++ mine ∷ []) whole

    pub place_fits : (tried : List ℕ)
        → HandFits n cap placed_words placed_log who (hand (h.log ++ mine ∷ []) [] tried)
    place_fits tried =
        record {
          caller = fits.caller;
          prefix = ([], placed_is ∙ sym (append-nil (h.log ++ mine ∷ [])));
          own = ap (calls_by who) placed_is;
          room = λ some. absurd (omega arith);
          few = omega arith;
          staged = λ half low. absurd (omega arith);
        }

    pub place_others : (i : ℕ) (m : Hand) → i ≢ who → HandFits n cap words log i m
        → HandFits n cap placed_words placed_log i m
    place_others i m ne was =
        record {
          caller = was.caller;
          prefix = begins_more log m.log mine was.prefix;
          own = calls_by-push_other i log mine (λ e. ne (sym e)) ∙ was.own;
          room = was.room;
          few = was.few;
          staged = λ half low.
              operation_kept (next_number cap i m) half
              (number_low n cap i (length (calls_by i m.log)) was.caller (was.room (omega arith)))
              (let few = was.few in omega arith)
              ∙ was.staged half low;
        }
