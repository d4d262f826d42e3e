-- The words that a history leaves.
use Rattle.std.proofs.Common.{◌≡◌, ℕ, ◌==◌, if◌then◌else◌, List, [], ◌∷◌, ◌++◌, refl, ap, ◌∙◌, eq-eqb, ne_eqb}
use Rattle.shared_words.specs.Deeds.{place_of, leaves, Added, Stored, Loaded, Swapped}
use Rattle.shared_words.specs.Histories.{Access, access, word_from, word_at, AccessesAct, AccessesLeaveOthers}

-- the word after a history and then another is the word that the second one makes of the word after
-- the first
pub word_from-append : (place word : ℕ) (xs ys : List Access)
    → word_from place word (xs ++ ys) ≡ word_from place (word_from place word xs) ys
word_from-append place word [] ys = refl
word_from-append place word (a ∷ xs) ys =
    word_from-append place (if place_of a.deed == place then leaves a.deed word else word) xs ys

-- an access changes the word at its place as its deed does, and no other word
pub word_at-here : (history : List Access) (a : Access) (place : ℕ) → place_of a.deed ≡ place
    → word_at place (history ++ a ∷ []) ≡ leaves a.deed (word_at place history)
word_at-here history a place is =
    word_from-append place 0 history (a ∷ [])
    ∙ ap (λ b. if b then leaves a.deed (word_at place history) else word_at place history)
    (eq-eqb (place_of a.deed) place is)

pub accesses_leave_others : AccessesLeaveOthers
accesses_leave_others history a place isnt =
    word_from-append place 0 history (a ∷ [])
    ∙ ap (λ b. if b then leaves a.deed (word_at place history) else word_at place history)
    (ne_eqb (place_of a.deed) place isnt)

pub accesses_act : AccessesAct
accesses_act =
    record {
      adds = λ history who place amount found.
          word_at-here history (access who (Added place amount found)) place refl;
      stores = λ history who place word.
          word_at-here history (access who (Stored place word)) place refl;
      loads = λ history who place found.
          word_at-here history (access who (Loaded place found)) place refl;
      swaps = λ history who place word found.
          word_at-here history (access who (Swapped place word found)) place refl;
    }
