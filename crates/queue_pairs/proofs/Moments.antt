-- Moments and precedence.
use Rattle.std.proofs.Common.{◌≡◌, ℕ, zero, suc, ◌+◌, ◌<◌, ◌≤◌, ◌⊎◌, ◌∙◌, List, [], ◌∷◌, length, sum, get_or, Some, refl, sym, ap, subst, inl, inr, slice_get, arith}
use Rattle.std.specs.Option.{IsSomeAnd}
use Rattle.std.proofs.lemmas.Bool.{cases_lt}
use Rattle.std.proofs.lemmas.List.Sums.{sum_by-cons}
use Rattle.std.proofs.lemmas.Option.{same_Some, none-some, slice_get_within}
use Rattle.list_laws.proofs.Options.{some_from_is_some_and}
use Rattle.list_laws.proofs.Totals.{sum-within}
use Rattle.book_base.specs.declared.call.Call.{Call}
use Rattle.book_base.specs.declared.call.Record.{Record}
use Rattle.book_base.specs.Cut.{Holds}
use Rattle.book_base.specs.Book.{Page, answers_of, IsAnswered, IsValid, record_of, Precedes}
use Rattle.book_base.specs.Pruning.{HasOneOpen}
use Rattle.book_base.proofs.ViewLemmas.{answer_stands}
use Rattle.queue_pairs.specs.Moments.{moment_of, IsHeldBy, MayTakeEffect, HaveMoments, KeepPrecedence, AreHeld, PrecedesByMoments, MomentsKeepPrecedence}

-- a list that is nowhere greater than another one, and less at some place, has a lesser sum
sum-less : (xs ys : List ℕ) → length xs ≡ length ys → ((i : ℕ) → get_or xs i 0 ≤ get_or ys i 0)
    → (i : ℕ) → get_or xs i 0 < get_or ys i 0 → sum xs < sum ys
sum-less [] [] wide within i less = absurd (omega arith)
sum-less [] (y ∷ ys) wide within i less = absurd (omega arith)
sum-less (x ∷ xs) [] wide within i less = absurd (omega arith)
sum-less (x ∷ xs) (y ∷ ys) wide within zero less =
    let rest : sum xs ≤ sum ys = sum-within xs ys (omega arith) (λ k. within (suc k)) in
    omega (arith, less, sum_by-cons (λ (n : ℕ). n) x xs, sum_by-cons (λ (n : ℕ). n) y ys)
sum-less (x ∷ xs) (y ∷ ys) wide within (suc i) less =
    let rest : sum xs < sum ys = sum-less xs ys (omega arith) (λ k. within (suc k)) i less in
    let first : x ≤ y = within 0 in
    omega (arith, sum_by-cons (λ (n : ℕ). n) x xs, sum_by-cons (λ (n : ℕ). n) y ys)

-- Of two records the one whose view holds a call that the other's view doesn't has the later
-- moment.
pub later_moment : (book : List Page) (a b : Call) (r s : Record) (call : Call) → IsValid book
    → record_of book a ≡ Some r → record_of book b ≡ Some s
    → get_or r.view call.caller 0 ≤ call.number → Holds s.view call → moment_of r < moment_of s
later_moment book a b r s call valid at bt lacks holds =
    let wide : length r.view ≡ length s.view = valid.wide a r at ∙ sym (valid.wide b s bt) in
    let less : get_or r.view call.caller 0 < get_or s.view call.caller 0 =
    omega (arith, lacks, holds) in
    elim (valid.comparable a b r s at bt) [
      | inl within ↦ sum-less r.view s.view wide within call.caller less
      | inr within ↦ absurd (omega (arith, less, within call.caller))
    ]

-- an answered call that precedes another one does so by its view
lacks_later : (book : List Page) (a b : Call) (r : Record) → IsValid book
    → record_of book a ≡ Some r → Precedes book a b → get_or r.view b.caller 0 ≤ b.number
lacks_later book a b r valid at before =
    elim before [
      | inl answered ↦
          subst (λ o. IsSomeAnd o (λ (x : Record). get_or x.view b.caller 0 ≤ b.number)) at answered
      | inr own ↦ omega (arith, valid.own a r at, own.1, ap (λ (i : ℕ). get_or r.view i 0) own.0)
    ]

-- a call that an answered one doesn't precede is held by its view
pub held_unless_preceded : (book : List Page) (a b : Call) (r : Record) → record_of book a ≡ Some r
    → (Precedes book a b → ⊥) → Holds r.view b
held_unless_preceded book a b r at free =
    elim (cases_lt b.number (get_or r.view b.caller 0)) [
      | inl held ↦ held
      | inr past ↦ absurd (free (inl (subst
          (λ o. IsSomeAnd o (λ (x : Record). get_or x.view b.caller 0 ≤ b.number)) (sym at) past)))
    ]

pub precedes_by_moments : PrecedesByMoments
precedes_by_moments book a b r valid at = (
  λ (before : Precedes book a b) (held : IsHeldBy book b (moment_of r)).
      let other : Call = held.0 in
      let s : Record = held.1 in
      let late : moment_of r < moment_of s = later_moment book a other r s b valid at held.2
      (lacks_later book a b r valid at before) held.3 in
      absurd (omega (arith, late, held.4)),
  λ (free : IsHeldBy book b (moment_of r) → ⊥).
      elim (cases_lt b.number (get_or r.view b.caller 0)) [
        | inl holds ↦ absurd (free (a, r, at, holds, omega arith))
        | inr past ↦
            inl (subst (λ o. IsSomeAnd o (λ (x : Record). get_or x.view b.caller 0 ≤ b.number))
            (sym at) past)
      ],
)

-- all answered calls of a list have moments that are no earlier than this one
abbrev Lasts : List Page → ℕ → List Call → Type 0
Lasts book m calls = (k : ℕ) (call : Call) (r : Record) → slice_get calls k ≡ Some call
    → record_of book call ≡ Some r → m ≤ moment_of r

-- the earliest moment of the answered calls of a list, where one is answered
abbrev Earliest : List Page → List Call → Type 0
Earliest book calls = (k : ℕ) × (call : Call) × (r : Record) × (slice_get calls k ≡ Some call)
    × (record_of book call ≡ Some r) × Lasts book (moment_of r) calls

abbrev NoneAnswered : List Page → List Call → Type 0
NoneAnswered book calls = (k : ℕ) (call : Call) (r : Record) → slice_get calls k ≡ Some call
    → record_of book call ≡ Some r → ⊥

-- a moment that is no later than those of the first call and of all others is no later than those
-- of all calls
lasts-cons : (book : List Page) (m : ℕ) (call : Call) (calls : List Call)
    → ((r : Record) → record_of book call ≡ Some r → m ≤ moment_of r) → Lasts book m calls
    → Lasts book m (call ∷ calls)
lasts-cons book m call calls first rest zero x r at known =
    first r (ap (record_of book) (same_Some call x at) ∙ known)
lasts-cons book m call calls first rest (suc k) x r at known = rest k x r at known

none-cons : (book : List Page) (call : Call) (calls : List Call) → (IsAnswered book call → ⊥)
    → NoneAnswered book calls → NoneAnswered book (call ∷ calls)
none-cons book call calls free rest zero x r at known =
    free (slice_get_within _ call.number r (ap (record_of book) (same_Some call x at) ∙ known))
none-cons book call calls free rest (suc k) x r at known = rest k x r at known

find_earliest : (book : List Page) (calls : List Call) → Earliest book calls
    ⊎ NoneAnswered book calls
find_earliest book [] = inr (λ k call r at known. none-some call at)
find_earliest book (call ∷ calls) =
    elim (cases_lt call.number (answers_of book call.caller)) [
      | inl answered ↦
          let here = answer_stands book call answered in
          let its = λ (m : ℕ) (low : m ≤ moment_of here.0) (r : Record)
          (known : record_of book call ≡ Some r).
          let same : here.0 ≡ r = same_Some here.0 r (sym here.1 ∙ known) in
          let most : m ≤ moment_of r = omega (arith, low, ap moment_of same) in most in
          elim (find_earliest book calls) [
            | inl found ↦
                elim (cases_lt (moment_of found.2) (moment_of here.0)) [
                  | inl later ↦
                      inl (
                        suc found.0,
                        found.1,
                        found.2,
                        found.3,
                        found.4,
                        lasts-cons book (moment_of found.2) call calls
                            (its (moment_of found.2) (omega (arith, later))) found.5,
                      )
                  | inr first ↦
                      inl (
                        0,
                        call,
                        here.0,
                        refl,
                        here.1,
                        lasts-cons book (moment_of here.0) call calls
                            (its (moment_of here.0) (omega arith))
                            (λ k x r at known. omega (arith, first, found.5 k x r at known)),
                      )
                ]
            | inr none ↦
                inl (
                  0,
                  call,
                  here.0,
                  refl,
                  here.1,
                  lasts-cons book (moment_of here.0) call calls
                      (its (moment_of here.0) (omega arith))
                      (λ k x r at known. absurd (none k x r at known)),
                )
          ]
      | inr past ↦
          let free : IsAnswered book call → ⊥ =
          λ (h : IsAnswered book call). omega (arith, h, past) in
          elim (find_earliest book calls) [
            | inl found ↦
                inl (
                  suc found.0,
                  found.1,
                  found.2,
                  found.3,
                  found.4,
                  lasts-cons book (moment_of found.2) call calls
                      (λ r known. absurd (free (slice_get_within _ call.number r known))) found.5,
                )
            | inr none ↦ inr (none-cons book call calls free none)
          ]
    ]

-- the calls after the first keep precedence, and views hold them
keep-rest : (book : List Page) (call : Call) (calls : List Call)
    → KeepPrecedence book (call ∷ calls) → KeepPrecedence book calls
keep-rest book call calls keep j k a b at bt before = let less : suc j < suc k =
    keep (suc j) (suc k) a b at bt before in omega arith

-- no call precedes the first
first-free : (book : List Page) (call : Call) (calls : List Call)
    → KeepPrecedence book (call ∷ calls) → (k : ℕ) (a : Call) → slice_get (call ∷ calls) k ≡ Some a
    → Precedes book a call → ⊥
first-free book call calls keep k a at before = let less : k < 0 = keep k 0 a call at refl before in
    omega arith

give_moments : (book : List Page) (m : ℕ) (calls : List Call) → IsValid book → AreHeld book calls
    → KeepPrecedence book calls → Lasts book m calls → HaveMoments book m calls
give_moments book m [] valid held keep lasts = tt
give_moments book m (call ∷ calls) valid held keep lasts =
    let rest = λ (n : ℕ) (low : Lasts book n (call ∷ calls)).
    give_moments book n calls valid (λ k x at. held (suc k) x at) (keep-rest book call calls keep)
    (λ k x r at known. low (suc k) x r at known) in
    elim (find_earliest book (call ∷ calls)) [
      | inl found ↦
          let n : ℕ = moment_of found.2 in
          let holds : Holds found.2.view call = held_unless_preceded book found.1 call found.2
          found.4 (first-free book call calls keep found.0 found.1 found.3) in
          let effect : MayTakeEffect book call n = record {
            first = (found.1, found.2, found.4, holds, omega arith);
            last = λ r known. found.5 0 call r refl known;
          } in
          (n, lasts found.0 found.1 found.2 found.3 found.4, effect, rest n found.5)
      | inr none ↦
          let there = held 0 call refl in
          let n : ℕ = m + there.0 in
          let effect : MayTakeEffect book call n = record {
            first = (there.1.0, there.1.1, there.1.2, there.1.3, omega (arith, there.1.4));
            last = λ r known. absurd (none 0 call r refl known);
          } in
          (n, omega arith, effect, rest n (λ k x r at known. absurd (none k x r at known)))
    ]

-- calls that may take effect from a moment on have no earlier moments than this one
from_moments : (book : List Page) (m : ℕ) (calls : List Call) → HaveMoments book m calls
    → Lasts book m calls
from_moments book m [] have k call r at known = absurd (none-some call at)
from_moments book m (call ∷ calls) have zero x r at known =
    omega (arith, have.1, have.2.last r (ap (record_of book) (same_Some call x at) ∙ known))
from_moments book m (call ∷ calls) have (suc k) x r at known =
    omega (arith, have.1, from_moments book have.0 calls have.3 k x r at known)

-- no call precedes one that may take effect no later than its own moment
not_before : (book : List Page) (a b : Call) (m : ℕ) → IsValid book → HasOneOpen book
    → IsHeldBy book b m → ((r : Record) → record_of book a ≡ Some r → m ≤ moment_of r)
    → Precedes book a b → ⊥
not_before book a b m valid one held last before =
    elim (cases_lt a.number (answers_of book a.caller)) [
      | inl answered ↦
          let here = answer_stands book a answered in
          let late : m ≤ moment_of here.0 = last here.0 here.1 in
          (precedes_by_moments book a b here.0 valid here.1).0 before
          (held.0, held.1, held.2, held.3, omega (arith, held.4, late))
      | inr past ↦
          elim before [
            | inl answered ↦
                let known = some_from_is_some_and (record_of book a)
                (λ (x : Record). get_or x.view b.caller 0 ≤ b.number) answered in
                let inside : a.number < answers_of book a.caller =
                slice_get_within _ a.number known.0 known.1 in
                absurd (omega (arith, inside, past))
            | inr own ↦
                let few : get_or held.1.view b.caller 0 ≤ answers_of book b.caller + 1 =
                one held.0 held.1 b.caller held.2 in
                absurd (omega (arith, few, held.3, own.1, past, ap (answers_of book) own.0))
          ]
    ]

keep_precedence : (book : List Page) (m : ℕ) (calls : List Call) → IsValid book → HasOneOpen book
    → HaveMoments book m calls → KeepPrecedence book calls
keep_precedence book m [] valid one have j k a b at bt before = absurd (none-some a at)
keep_precedence book m (call ∷ calls) valid one have zero zero a b at bt before =
    let same_a : call ≡ a = same_Some call a at in
    let same_b : call ≡ b = same_Some call b bt in
    absurd (not_before book a b have.0 valid one
    (subst (λ (c : Call). IsHeldBy book c have.0) same_b have.2.first)
    (λ r known. have.2.last r (ap (record_of book) same_a ∙ known)) before)
keep_precedence book m (call ∷ calls) valid one have zero (suc k) a b at bt before = omega arith
keep_precedence book m (call ∷ calls) valid one have (suc j) zero a b at bt before =
    absurd (not_before book a b have.0 valid one
    (subst (λ (c : Call). IsHeldBy book c have.0) (same_Some call b bt) have.2.first)
    (λ r known. from_moments book have.0 calls have.3 j a r at known) before)
keep_precedence book m (call ∷ calls) valid one have (suc j) (suc k) a b at bt before =
    let less : j < k = keep_precedence book have.0 calls valid one have.3 j k a b at bt before in
    omega arith

pub moments_keep_precedence : MomentsKeepPrecedence
moments_keep_precedence book calls valid one held = (
  λ (keep : KeepPrecedence book calls).
      give_moments book 0 calls valid held keep (λ k call r at known. omega arith),
  λ (have : HaveMoments book 0 calls). keep_precedence book 0 calls valid one have,
)
