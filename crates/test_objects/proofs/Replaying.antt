-- A replay of a log takes one step for each entry.
use Rattle.std.proofs.Common.{◌≡◌, ℕ, ◌+◌, ◌-◌, ◌<◌, ◌≤◌, List, [], ◌∷◌, ◌++◌, length, take, drop, get_or, refl, sym, ap, ◌∙◌, arith}
use Rattle.std.proofs.lemmas.List.{take_more, take_all, length-take, length-drop, take-append-drop}
use Rattle.book_base.specs.SeqSpec.{SeqSpec}
use Rattle.shared_words.specs.declared.entry.Entry.{Entry}
use Rattle.test_objects.specs.Replays.{list_after, last_reply, LastReplyIsNext}

module _ (next : List ℕ → ℕ → List ℕ × ℕ) where
  pub list_after-append : (list : List ℕ) (xs ys : List Entry)
      → list_after next list (xs ++ ys) ≡ list_after next (list_after next list xs) ys
  list_after-append list [] ys = refl
  list_after-append list (e ∷ xs) ys = list_after-append (next list e.op).0 xs ys

  pub last_reply-append : (list : List ℕ) (xs : List Entry) (e : Entry) (ys : List Entry)
      → last_reply next list (xs ++ e ∷ ys) ≡ last_reply next (list_after next list xs) (e ∷ ys)
  last_reply-append list [] e ys = refl
  last_reply-append list (d ∷ []) e ys = refl
  last_reply-append list (d ∷ c ∷ xs) e ys = last_reply-append (next list d.op).0 (c ∷ xs) e ys

  -- where each operation makes the list at most one word longer, the list is at most longer by the
  -- number of operations
  pub length-list_after : ((list : List ℕ) (op : ℕ) → length (next list op).0 ≤ length list + 1)
      → (list : List ℕ) (log : List Entry)
      → length (list_after next list log) ≤ length list + length log
  length-list_after grows list [] = omega arith
  length-list_after grows list (e ∷ log) = let one = grows list e.op in
      let rest = length-list_after grows (next list e.op).0 log in omega arith

-- Where each operation makes the list at most one word longer, the next list fits a room with one
-- word more than this list.
pub fits_longer : (next : List ℕ → ℕ → List ℕ × ℕ)
    → ((list : List ℕ) (op : ℕ) → length (next list op).0 ≤ length list + 1)
    → (list : List ℕ) (op room : ℕ) → length list + 1 ≤ room → length (next list op).0 ≤ room
fits_longer next grows list op room few = omega (arith, few, grows list op)

pub last_reply_is_next : LastReplyIsNext
last_reply_is_next next list before e = last_reply-append next list before e []

-- a replay that has reached entry i, and its next step
module _ (next : List ℕ → ℕ → List ℕ × ℕ) (list : List ℕ) (log : List Entry) (i : ℕ) (d : Entry)
    (words : List ℕ)
    (at : words ≡ list_after next list (take i log)) (low : i < length log) where
  pub list_more : list_after next list (take (i + 1) log) ≡ (next words (get_or log i d).op).0
  list_more =
      ap (list_after next list) (take_more log i d low)
      ∙ list_after-append next list (take i log) (get_or log i d ∷ [])
      ∙ ap (λ (l : List ℕ). (next l (get_or log i d).op).0) (sym at)

  pub reply_more : last_reply next list (take (i + 1) log) ≡ (next words (get_or log i d).op).1
  reply_more =
      ap (last_reply next list) (take_more log i d low)
      ∙ last_reply-append next list (take i log) (get_or log i d) []
      ∙ ap (λ (l : List ℕ). (next l (get_or log i d).op).1) (sym at)

  pub length-replayed : ((l : List ℕ) (op : ℕ) → length (next l op).0 ≤ length l + 1)
      → length words ≤ length list + i
  length-replayed grows =
      let most = length-list_after next grows list (take i log) in
      let same = ap length at in
      omega (arith, length-take i log)

-- a replay that begins after the entries that it has seen
module _ (spec : SeqSpec) (log : List Entry) (known : ℕ) (words : List ℕ)
    (seen : words ≡ list_after spec.next spec.init (take known log)) where
  pub list_beyond : list_after spec.next words (drop known log) ≡ list_after spec.next spec.init log
  list_beyond =
      ap (λ (l : List ℕ). list_after spec.next l (drop known log)) seen
      ∙ sym (list_after-append spec.next spec.init (take known log) (drop known log))
      ∙ ap (list_after spec.next spec.init) (take-append-drop known log)

  reply_of_more : (rest : List Entry) → drop known log ≡ rest → 0 < length rest
      → last_reply spec.next words rest ≡ last_reply spec.next spec.init log
  reply_of_more [] is some = absurd (omega arith)
  reply_of_more (e ∷ rest) is some =
      ap (λ (l : List ℕ). last_reply spec.next l (e ∷ rest)) seen
      ∙ sym (last_reply-append spec.next spec.init (take known log) e rest)
      ∙ ap (λ (l : List Entry). last_reply spec.next spec.init (take known log ++ l)) (sym is)
      ∙ ap (last_reply spec.next spec.init) (take-append-drop known log)

  pub reply_beyond : known < length log
      → last_reply spec.next words (drop known log) ≡ last_reply spec.next spec.init log
  reply_beyond more = reply_of_more (drop known log) refl (omega (arith, length-drop known log))

  -- there is capacity for the words that the remaining entries add
  pub capacity_beyond : (room : ℕ) → length spec.init ≤ 1
      → ((l : List ℕ) (op : ℕ) → length (spec.next l op).0 ≤ length l + 1) → known < length log
      → length log < room → length words + length (drop known log) ≤ room
  capacity_beyond room small grows more low =
      let most = length-list_after spec.next grows spec.init (take known log) in
      let same = ap length seen in
      omega (arith, length-take known log, length-drop known log)

-- the slice of a log from an entry to its end is the rest of the log from this entry on
pub tail_is : (log : List Entry) (known : ℕ)
    → take (length log - known) (drop known log) ≡ drop known log
tail_is log known =
    take_all (length log - known) (drop known log) (omega (arith, length-drop known log))
