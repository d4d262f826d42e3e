-- A flag of a meeting is up only after its caller has raised it; and what callers may do.
use Rattle.std.proofs.Common.{◌≡◌, ◌≢◌, ℕ, ◌+◌, Bool, true, false, ◌==◌, if◌then◌else◌, List, [], ◌∷◌, ◌++◌, refl, sym, ap, ◌∙◌, subst, inl, inr, arith, ne_eqb, append_assoc}
use Rattle.std.specs.List.{All}
use Rattle.std.proofs.lemmas.Bool.{cases_eq}
use Rattle.std.proofs.lemmas.List.Elements.{All-head, All-tail}
use Rattle.shared_words.specs.Deeds.{Deed, Stored, Loaded, Swapped, Added, place_of, leaves}
use Rattle.shared_words.specs.Histories.{Access, access, word_from, word_at, IsLawfulHistory, IsAfterAccess}
use Rattle.shared_words.proofs.Histories.{lawful_allowed, lawful_prefix, lawful_last}
use Rattle.test_objects.specs.FaultyForms.{up, meeting_may, queue_may, item_index, HasRaised, FlagsAreRaised}

-- a choice between a word and the same word is this word
either_one : (b : Bool) (word : ℕ) → (if b then word else word) ≡ word
either_one true word = refl
either_one false word = refl

-- a history in which the flag becomes other than 0 raises it
raised_from : (flag : ℕ) (history : List Access)
    → All (λ (a : Access). meeting_may a.caller a.deed) history → word_from flag 0 history ≢ 0
    → HasRaised flag history
raised_from flag [] all some = absurd (some refl)
raised_from flag (a ∷ history) all some =
    let all' = All-tail (λ (b : Access). meeting_may b.caller b.deed) a history all in
    let later : word_from flag (if place_of a.deed == flag then leaves a.deed 0 else 0) history
    ≡ word_from flag 0 history → HasRaised flag (a ∷ history) =
    (λ same. let more = raised_from flag history all' (λ none. some (same ∙ none)) in
    record {
      before = a ∷ more.before;
      rest = more.rest;
      raised = ap (λ (l : List Access). a ∷ l) more.raised;
    }) in
    elim (All-head (λ (b : Access). meeting_may b.caller b.deed) a history all) [
      | inl stored ↦ elim (cases_eq a.caller flag) [
        | inl own ↦ record {
          before = [];
          rest = history;
          raised = λ i. access (own i) ((stored ∙ ap (λ (k : ℕ). Stored k up) own) i) ∷ history;
        }
        | inr other ↦ later (
            ap (λ (d : Deed). word_from flag (if place_of d == flag then leaves d 0 else 0) history)
            stored
            ∙ ap (λ b. word_from flag (if b then up else 0) history) (ne_eqb a.caller flag other)
            )
      ]
      | inr loaded ↦ later (
          ap (λ (d : Deed). word_from flag (if place_of d == flag then leaves d 0 else 0) history)
          loaded.2
          ∙ ap (λ (k : ℕ). word_from flag k history) (either_one (loaded.0 == flag) 0)
          )
    ]

pub flags_are_raised : FlagsAreRaised
flags_are_raised flag history lawful is =
    raised_from flag history (lawful_allowed meeting_may [] history lawful)
    (λ none. absurd (let one = sym is ∙ none in omega arith))

-- a history that has raised a flag has raised it with further accesses
raised_more : (flag : ℕ) (xs ys zs : List Access) → zs ≡ xs ++ ys → HasRaised flag xs
    → HasRaised flag zs
raised_more flag xs ys zs is h =
    record {
      before = h.before;
      rest = h.rest ++ ys;
      raised = is ∙ ap (λ (l : List Access). l ++ ys) h.raised
          ∙ append_assoc h.before (access flag (Stored flag up) ∷ h.rest) ys;
    }

-- a load that found the flag up
pub found_up : (flag found who : ℕ) (before after : List Access) → IsLawfulHistory meeting_may after
    → IsAfterAccess who (Loaded flag found) before after → found ≡ up → HasRaised flag after
found_up flag found who before after lawful made is =
    let all = before ++ made.between in
    let split = subst (λ (l : List Access). IsLawfulHistory meeting_may l) made.history lawful in
    let was : found ≡ word_at flag all =
    lawful_last meeting_may all (access who (Loaded flag found)) split in
    raised_more flag all (access who (Loaded flag found) ∷ []) after made.history
    (flags_are_raised flag all
    (lawful_prefix meeting_may all (access who (Loaded flag found) ∷ []) split) (sym was ∙ is))

-- what callers of a meeting and of a queue may do
pub loads_may : (caller place found : ℕ) → meeting_may caller (Loaded place found)
loads_may caller place found = inr (place, found, refl)

pub raises_may : (caller flag word : ℕ) → flag ≡ caller → word ≡ up
    → meeting_may caller (Stored flag word)
raises_may caller flag word own is = inl (λ i. Stored (own i) (is i))

pub adds_may : (caller place found : ℕ) → place ≡ 0 → queue_may caller (Added place 1 found)
adds_may caller place found is = inl (found, ap (λ (p : ℕ). Added p 1 found) is)

pub counter_may : (caller place found : ℕ) → place ≡ 0 → queue_may caller (Loaded place found)
counter_may caller place found is = inr (inl (found, ap (λ (p : ℕ). Loaded p found) is))

pub items_may : (caller index word place value : ℕ) → index ≡ item_index place → word ≡ value + 1
    → queue_may caller (Stored index word)
items_may caller index word place value at is =
    inr (inr (inl (place, value, (λ i. Stored (at i) (is i)))))

pub takes_may : (caller index place found : ℕ) → index ≡ item_index place
    → queue_may caller (Swapped index 0 found)
takes_may caller index place found at =
    inr (inr (inr (place, found, ap (λ (k : ℕ). Swapped k 0 found) at)))
