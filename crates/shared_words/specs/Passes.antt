-- Seats and passes of shared words: their callers, and what they know.
use Rattle.std.specs.Prelude.{◌≡◌, ℕ, ◌<◌, ◌≤◌, List, [], length, All, vec_capacity}
use mathlib.Core.List.{IsPrefix}
use Rattle.row_table.specs.Holders.{has}
use Rattle.shared_words.specs.declared.shared_words.SharedWords.{SharedWords}
use Rattle.shared_words.specs.declared.word_seat.WordSeat.{WordSeat}
use Rattle.shared_words.specs.declared.words_pass.WordsPass.{WordsPass}
use Rattle.shared_words.specs.Deeds.{Deed, AreCalls}
use Rattle.shared_words.specs.Histories.{Access, known, deeds_by, IsLawfulHistory}
use Rattle.shared_words.specs.Transcripts.{Transcript}

-- The caller of a seat.
abbrev pub caller_of_seat : WordSeat → ℕ
caller_of_seat s = s.who

-- The history up to the last access of a seat's caller.
abbrev pub history_of : WordSeat → List Access
history_of s = known (has s.seat.me.0 s.who)

-- The deeds of a seat's caller, in order.
abbrev pub deeds_of : WordSeat → List Deed
deeds_of s = deeds_by (caller_of_seat s) (history_of s)

-- The seat of a pass.
abbrev pub seat_in : WordsPass → WordSeat
seat_in p = p.seat

-- The caller of a pass.
abbrev pub caller_of_pass : WordsPass → ℕ
caller_of_pass p = caller_of_seat p.seat

-- The calls of a pass, each as an operation and a reply.
abbrev pub pairs_in : WordsPass → List (ℕ × ℕ)
pairs_in p = p.pairs.items

-- How many calls a pass made.
abbrev pub made_with : WordsPass → ℕ
made_with p = length (pairs_in p)

-- How many calls a pass may make.
abbrev pub cap_of_pass : WordsPass → ℕ
cap_of_pass p = p.cap

-- For how many calls a pass has memory.
abbrev pub capacity_of_pass : WordsPass → ℕ
capacity_of_pass p = vec_capacity p.pairs

-- The history up to the last access of a pass's caller.
abbrev pub history_in : WordsPass → List Access
history_in p = history_of p.seat

-- The transcript of a pass: its caller, and its calls.
abbrev pub transcript_of : WordsPass → Transcript
transcript_of p = record { caller = caller_of_pass p; pairs = pairs_in p }

-- The pass has made no call, and may make `calls` calls.
pub record IsFreshPass (calls : ℕ) (p : WordsPass) : Type 0 where
  pub made : made_with p ≡ 0
  pub cap : cap_of_pass p ≡ calls
  pub pairs : pairs_in p ≡ []

-- One lawful history of all accesses of n callers. It begins with the history that each pass knows,
-- and has of each pass's caller just the deeds that this pass knows.
pub record IsOneHistory (may : ℕ → Deed → Type 0) (n : ℕ) (history : List Access)
    (passes : List WordsPass) : Type 0 where
  pub callers : All (λ a. a.caller < n) history
  pub lawful : IsLawfulHistory may history
  pub prefixes : All (λ p. IsPrefix (history_in p) history) passes
  pub deeds : All (λ p. deeds_by (caller_of_pass p) history ≡ deeds_of p.seat) passes

module _ {U : Type 0} where
  -- How many callers share these words.
  abbrev pub callers_of : SharedWords U → ℕ
  callers_of w = w.callers

  -- How many calls each caller of these words may make.
  abbrev pub cap_of : SharedWords U → ℕ
  cap_of w = w.cap

  -- How many words there are.
  abbrev pub count_of : SharedWords U → ℕ
  count_of w = w.table.shared.table_id.words

  -- The seat belongs to these words, its caller is one of their callers, and the history that it
  -- knows is lawful.
  pub record IsSeatOf (may : ℕ → Deed → Type 0) (w : SharedWords U) (s : WordSeat) : Type 0 where
    pub table : s.seat.table_id ≡ w.table.shared.table_id
    pub caller : caller_of_seat s < callers_of w
    pub lawful : IsLawfulHistory may (history_of s)

  -- The pass belongs to these words, may make as many calls as their cap says, and has capacity for
  -- all of them. Its pairs are calls as the relation `call` says, made of just the deeds of its
  -- caller.
  pub record IsPassOf (may : ℕ → Deed → Type 0) (call : ℕ → ℕ → ℕ → List Deed → List Deed → Type 0)
      (w : SharedWords U) (p : WordsPass) : Type 0 where
    pub seat : IsSeatOf may w p.seat
    pub cap : cap_of_pass p ≡ cap_of w
    pub room : cap_of w ≤ capacity_of_pass p
    pub calls : AreCalls (call (caller_of_pass p)) (pairs_in p) [] (deeds_of p.seat)

  -- The pass belongs to these words, may make as many calls as their cap says, and has capacity for
  -- all of them. It is new: it has no call and knows of no access.
  pub record IsNewPass (w : SharedWords U) (p : WordsPass) : Type 0 where
    pub table : p.seat.seat.table_id ≡ w.table.shared.table_id
    pub caller : caller_of_pass p < callers_of w
    pub cap : cap_of_pass p ≡ cap_of w
    pub room : cap_of w ≤ capacity_of_pass p
    pub pairs : pairs_in p ≡ []
    pub history : history_in p ≡ []
