-- The transcripts of all callers, and the one history of their accesses.
use Rattle.std.specs.Prelude.{◌≡◌, ℕ, ◌<◌, List, [], map, All}
use Rattle.std.specs.List.{range_with_len}
use Rattle.shared_words.specs.Deeds.{Deed, AreCalls}
use Rattle.shared_words.specs.Histories.{Access, deeds_by, IsLawfulHistory}

-- A caller, and its calls in order, each as an operation and a reply.
pub record Transcript : Type 0 where
  pub caller : ℕ
  pub pairs : List (ℕ × ℕ)

-- These transcripts are those of all n callers, in order, and their calls are of this one history
-- of all accesses. The history is lawful, and no other caller has an access in it. The pairs of
-- each caller are calls as the relation `call` says, made of just the deeds that the caller has in
-- the history.
pub record AreOfOneHistory (may : ℕ → Deed → Type 0)
    (call : ℕ → ℕ → ℕ → List Deed → List Deed → Type 0) (n : ℕ) (history : List Access)
    (transcripts : List Transcript) : Type 0 where
  pub all : map (λ t. t.caller) transcripts ≡ range_with_len 0 n
  pub callers : All (λ a. a.caller < n) history
  pub lawful : IsLawfulHistory may history
  pub calls : All (λ t. AreCalls (call t.caller) t.pairs [] (deeds_by t.caller history)) transcripts
