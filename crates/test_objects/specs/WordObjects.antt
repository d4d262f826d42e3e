-- Which passes belong to an object on shared words.
use Rattle.std.specs.Prelude.{ℕ, List}
use Rattle.shared_words.specs.declared.shared_words.SharedWords.{SharedWords}
use Rattle.shared_words.specs.declared.words_pass.WordsPass.{WordsPass}
use Rattle.shared_words.specs.Deeds.{Deed}
use Rattle.shared_words.specs.Passes.{callers_of, cap_of, IsPassOf}

-- The pass belongs to these words. Its calls are as `call` says, for the callers and the cap of the
-- words, and are made of just the deeds of its caller.
abbrev pub IsObjectPass : {U : Type 0} → (ℕ → Deed → Type 0)
    → (ℕ → ℕ → ℕ → ℕ → ℕ → List Deed → List Deed → Type 0) → SharedWords U → WordsPass → Type 0
IsObjectPass may call w p = IsPassOf may (call (callers_of w) (cap_of w)) w p
