-- What the history of a tally and of a cell determines of its word, and so of a reply.
use Rattle.std.proofs.Common.{◌≡◌, ◌⊎◌, ℕ, suc, ◌+◌, ◌%◌, ◌^◌, ◌==◌, if◌then◌else◌, List, [], ◌∷◌, ◌++◌, length, refl, sym, ap, ◌∙◌, subst, inl, inr, arith}
use Rattle.std.specs.List.{All}
use Rattle.std.proofs.Math.Nat.{mod-add-mod}
use Rattle.std.proofs.lemmas.List.Elements.{All-nil, All-cons, All-head, All-tail}
use Rattle.seq_objects.specs.Replies.{reply_value}
use Rattle.shared_words.specs.Deeds.{Deed, Added, Stored, Loaded, place_of, leaves}
use Rattle.shared_words.specs.Histories.{Access, access, word_from, word_at, IsLawfulHistory, IsAfterAccess}
use Rattle.shared_words.proofs.Histories.{lawful_allowed, lawful_prefix, lawful_last}
use Rattle.test_objects.specs.Forms.{tally_may, cell_may, IsCounted, IsLoad, IsLastStored, IsLastRead, TalliesCount, CellsHoldTheLast}

-- increments raise a word by their number, modulo 2^64
counts : (word : ℕ) (history : List Access)
    → All (λ (a : Access). tally_may a.caller a.deed) history
    → word_from 0 (word % 2 ^ 64) history ≡ (word + length history) % 2 ^ 64
counts word [] all = ap (λ (k : ℕ). k % 2 ^ 64) (let none : word ≡ word + 0 = omega arith in none)
counts word (a ∷ history) all =
    let one = All-head (λ (b : Access). tally_may b.caller b.deed) a history all in
    let more = counts (word + 1) history
    (All-tail (λ (b : Access). tally_may b.caller b.deed) a history all) in
    let up : word + 1 + length history ≡ word + suc (length history) = omega arith in
    ap (λ (d : Deed).
    word_from 0 (if place_of d == 0 then leaves d (word % 2 ^ 64) else word % 2 ^ 64) history) one.1
    ∙ ap (λ (k : ℕ). word_from 0 k history) (mod-add-mod word (2 ^ 64) 1)
    ∙ more
    ∙ ap (λ (k : ℕ). k % 2 ^ 64) up

pub tallies_count : TalliesCount
tallies_count history lawful =
    let all : 0 + length history ≡ length history = omega arith in
    counts 0 history (lawful_allowed tally_may [] history lawful) ∙ ap (λ (k : ℕ). k % 2 ^ 64) all

-- The word is that of the history's last store, or `first` where there is no store.
LastFrom : ℕ → ℕ → List Access → Type 0
LastFrom first word history =
    (All IsLoad history × (word ≡ first)) ⊎ ((before rest : List Access) × (who : ℕ)
    × (history ≡ before ++ access who (Stored 0 word) ∷ rest) × All IsLoad rest)

holds_from : (first : ℕ) (history : List Access)
    → All (λ (a : Access). cell_may a.caller a.deed) history
    → LastFrom first (word_from 0 first history) history
unfolding LastFrom
holds_from first [] all = inl (All-nil IsLoad, refl)
holds_from first (a ∷ history) all =
    let all' = All-tail (λ (b : Access). cell_may b.caller b.deed) a history all in
    elim (All-head (λ (b : Access). cell_may b.caller b.deed) a history all) [
      | inl stored ↦
          let is : word_from 0 first (a ∷ history) ≡ word_from 0 stored.0 history =
          ap (λ (d : Deed). word_from 0 (if place_of d == 0 then leaves d first else first) history)
          stored.1 in
          subst (λ (w : ℕ). LastFrom first w (a ∷ history)) (sym is)
          (elim (holds_from stored.0 history all') [
            | inl none ↦ inr (
              [],
              history,
              a.caller,
              (λ i. (ap (access a.caller) stored.1
                  ∙ ap (λ (w : ℕ). access a.caller (Stored 0 w)) (sym none.1)) i ∷ history),
              none.0,
            )
            | inr some ↦
                inr (a ∷ some.0, some.1, some.2, ap (λ (l : List Access). a ∷ l) some.3, some.4)
          ])
      | inr loaded ↦
          let is : word_from 0 first (a ∷ history) ≡ word_from 0 first history =
          ap (λ (d : Deed). word_from 0 (if place_of d == 0 then leaves d first else first) history)
          loaded.1 in
          subst (λ (w : ℕ). LastFrom first w (a ∷ history)) (sym is)
          (elim (holds_from first history all') [
            | inl none ↦ inl (All-cons IsLoad a history loaded none.0, none.1)
            | inr some ↦
                inr (a ∷ some.0, some.1, some.2, ap (λ (l : List Access). a ∷ l) some.3, some.4)
          ])
    ]

pub cells_hold_the_last : CellsHoldTheLast
unfolding LastFrom
cells_hold_the_last history lawful =
    holds_from 0 history (lawful_allowed cell_may [] history lawful)

-- the reply to an increment, and that to a read
pub counted_reply : (who found reply : ℕ) (before after : List Access)
    → IsLawfulHistory tally_may after
    → IsAfterAccess who (Added 0 1 found) before after → reply ≡ reply_value found
    → IsCounted who reply after
counted_reply who found reply before after lawful made told =
    let all = before ++ made.between in
    let is : found ≡ length all % 2 ^ 64 = lawful_last tally_may all (access who (Added 0 1 found))
    (subst (λ (l : List Access). IsLawfulHistory tally_may l) made.history lawful)
    ∙ tallies_count all (lawful_prefix tally_may all (access who (Added 0 1 found) ∷ [])
    (subst (λ (l : List Access). IsLawfulHistory tally_may l) made.history lawful)) in
    record {
      before = all;
      ends = made.history ∙ ap (λ (k : ℕ). all ++ access who (Added 0 1 k) ∷ []) is;
      told = told ∙ ap reply_value is;
    }

-- a load found the last word that was stored before it
pub found_last : (who found : ℕ) (before after : List Access) → IsLawfulHistory cell_may after
    → (made : IsAfterAccess who (Loaded 0 found) before after)
    → IsLastStored found (before ++ made.between)
found_last who found before after lawful made =
    let all = before ++ made.between in
    let split = subst (λ (l : List Access). IsLawfulHistory cell_may l) made.history lawful in
    let is : found ≡ word_at 0 all = lawful_last cell_may all (access who (Loaded 0 found)) split in
    subst (λ (w : ℕ). IsLastStored w all) (sym is)
    (cells_hold_the_last all (lawful_prefix cell_may all (access who (Loaded 0 found) ∷ []) split))

pub read_reply : (who found reply : ℕ) (before after : List Access) → IsLawfulHistory cell_may after
    → IsAfterAccess who (Loaded 0 found) before after → reply ≡ reply_value found
    → IsLastRead who reply after
read_reply who found reply before after lawful made told =
    record {
      before = before ++ made.between;
      word = found;
      last = found_last who found before after lawful made;
      ends = made.history;
      told = told;
    }
