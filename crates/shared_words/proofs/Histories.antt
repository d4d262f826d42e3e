-- Laws of histories: their prefixes, whose deeds they have, and that they are lawful.
use Rattle.std.proofs.Common.{◌≡◌, ◌≢◌, ℕ, ◌==◌, List, [], ◌∷◌, ◌++◌, length, map, refl, sym, ap, ◌∙◌, subst, inl, inr, arith, append_assoc, length-append, eq-eqb, ne_eqb}
use Rattle.std.specs.List.{All, filter}
use Rattle.std.proofs.lemmas.Bool.{cond-true, cond-false}
use Rattle.std.proofs.lemmas.List.{append-nil, map-append}
use Rattle.std.proofs.lemmas.List.Elements.{All-nil, All-cons, filter-append}
use mathlib.Core.List.{IsPrefix}
use Rattle.shared_words.proofs.Logs.{ends_at}
use Rattle.shared_words.specs.Deeds.{Deed, place_of, HasFound}
use Rattle.shared_words.specs.Histories.{Access, deeds_by, word_at, IsRightAccess, IsLawfulHistory, IsAfterAccess}

-- the deeds of a caller in a history and then another are those in the first and then those in the
-- second
pub deeds_by-append : (i : ℕ) (xs ys : List Access)
    → deeds_by i (xs ++ ys) ≡ deeds_by i xs ++ deeds_by i ys
deeds_by-append i xs ys =
    ap (λ (l : List Access). map (λ (a : Access). a.deed) l)
    (filter-append (λ (a : Access). a.caller == i) xs ys)
    ∙ map-append (λ (a : Access). a.deed) (filter (λ (a : Access). a.caller == i) xs)
    (filter (λ (a : Access). a.caller == i) ys)

-- an access adds its deed to those of its own caller, and none to those of another
pub deeds_by-own : (i : ℕ) (xs : List Access) (a : Access) → a.caller ≡ i
    → deeds_by i (xs ++ a ∷ []) ≡ deeds_by i xs ++ a.deed ∷ []
deeds_by-own i xs a own =
    deeds_by-append i xs (a ∷ [])
    ∙ ap (λ (l : List Access). deeds_by i xs ++ map (λ (b : Access). b.deed) l)
    (cond-true (a.caller == i) (a ∷ []) [] (eq-eqb a.caller i own))

pub deeds_by-other : (i : ℕ) (xs : List Access) (a : Access) → a.caller ≢ i
    → deeds_by i (xs ++ a ∷ []) ≡ deeds_by i xs
deeds_by-other i xs a other =
    deeds_by-append i xs (a ∷ [])
    ∙ ap (λ (l : List Access). deeds_by i xs ++ map (λ (b : Access). b.deed) l)
    (cond-false (a.caller == i) (a ∷ []) [] (ne_eqb a.caller i other))
    ∙ append-nil (deeds_by i xs)

-- an empty history is lawful, and a lawful one stays so with one more access that is right
pub lawful_none : (may : ℕ → Deed → Type 0) (history : List Access)
    → history ≡ [] → IsLawfulHistory may history
lawful_none may history none before rest a is =
    absurd (let long = ap length (sym none ∙ is) in omega (arith, length-append before (a ∷ rest)))

pub lawful_push : (may : ℕ → Deed → Type 0) (history : List Access) (a : Access)
    → IsLawfulHistory may history → IsRightAccess may history a
    → IsLawfulHistory may (history ++ a ∷ [])
lawful_push may history a lawful right before rest b is =
    elim (ends_at history before rest a b is) [
      | inl last ↦
          subst (λ (y : List Access × Access). IsRightAccess may y.0 y.1)
          (λ i. (last.0 i, last.1 i)) right
      | inr old ↦ lawful before old.0 b old.1
    ]

-- in a lawful history each access may be made, a prefix is lawful, and the last access found what
-- those before it leave
pub lawful_allowed : (may : ℕ → Deed → Type 0) (prefix history : List Access)
    → IsLawfulHistory may (prefix ++ history) → All (λ (a : Access). may a.caller a.deed) history
lawful_allowed may prefix [] lawful = All-nil (λ (a : Access). may a.caller a.deed)
lawful_allowed may prefix (a ∷ history) lawful =
    All-cons (λ (b : Access). may b.caller b.deed) a history (lawful prefix history a refl).allowed
    (lawful_allowed may (prefix ++ a ∷ []) history
    (subst (λ (l : List Access). IsLawfulHistory may l)
    (sym (append_assoc prefix (a ∷ []) history)) lawful))

pub lawful_prefix : (may : ℕ → Deed → Type 0) (prefix history : List Access)
    → IsLawfulHistory may (prefix ++ history) → IsLawfulHistory may prefix
lawful_prefix may prefix history lawful before rest a is = lawful before (rest ++ history) a
    (ap (λ (l : List Access). l ++ history) is ∙ append_assoc before (a ∷ rest) history)

pub lawful_last : (may : ℕ → Deed → Type 0) (before : List Access) (a : Access)
    → IsLawfulHistory may (before ++ a ∷ []) → HasFound a.deed (word_at (place_of a.deed) before)
lawful_last may before a lawful = (lawful before [] a refl).found

-- laws of prefixes
pub prefix_itself : (xs : List Access) → IsPrefix xs xs
prefix_itself xs = ([], append-nil xs)

pub prefix_more : (xs ys : List Access) (a : Access) → IsPrefix xs ys → IsPrefix xs (ys ++ a ∷ [])
prefix_more xs ys a h =
    (h.0 ++ a ∷ [], sym (append_assoc xs h.0 (a ∷ [])) ∙ ap (λ (l : List Access). l ++ a ∷ []) h.1)

pub prefix_through : (xs ys zs : List Access) → IsPrefix xs ys → IsPrefix ys zs → IsPrefix xs zs
prefix_through xs ys zs h k =
    (h.0 ++ k.0, sym (append_assoc xs h.0 k.0) ∙ ap (λ (l : List Access). l ++ k.0) h.1 ∙ k.1)

-- a history before an access begins the one after it
pub prefix_after : (who : ℕ) (deed : Deed) (before after : List Access)
    → IsAfterAccess who deed before after → IsPrefix before after
prefix_after who deed before after h =
    prefix_through before (before ++ h.between) after (h.between, refl) (_, sym h.history)
