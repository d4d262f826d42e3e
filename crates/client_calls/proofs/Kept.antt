-- What a client has gathered stays gathered as its caller makes further steps. The proof that is
-- kept of it is truncated; but all that it says is decidable, so the fact can be had again.
use Rattle.std.proofs.Common.{◌≡◌, refl, sym, subst, ap, ℕ, zero, suc, ◌+◌, ◌<◌, inl, inr, List, [], ◌∷◌, length, slice_index, slice_index_or, Option, Some, None, arith}
use Rattle.std.specs.List.{Contains}
use Rattle.std.proofs.Math.Logic.{∥∥₁_map, ∥∥₁_elim}
use Rattle.std.proofs.lemmas.Bool.{cases_eq, cases_lt}
use Rattle.book_base.specs.declared.call.Call.{Call}
use Rattle.book_base.specs.OperationWord.{low_of, high_of}
use Rattle.book_base.specs.Book.{Page, IsCall, calls_of, answers_of}
use Rattle.book_base.specs.BookAt.{IsHeldBySomeView, greatest_count, views_at}
use Rattle.legal_orders.proofs.BookAt.{views_at-least, views_at-reached}
use Rattle.world_core.specs.declared.region.Region.{Region}
use Rattle.world_core.specs.declared.region.Region.TheVariants.{N, M}
use Rattle.world_core.specs.Local.{Local, Peeked}
use Rattle.world_core.specs.Calls.{IsGathered, HasPeeked}
use Rattle.row_gather.specs.declared.gathered.Gathered.{Gathered}
use Rattle.row_gather.specs.Gathered.{IsGatheredBy}
use Rattle.row_gather.proofs.Kept.{gathered_by_stays}
use Rattle.drv_wrapper.specs.Growth.{Grows}
use Rattle.report_lines.specs.declared.line.Line.{Line}
use Rattle.client_calls.specs.declared.stand.CallerState.{CallerState}
use Rattle.client_calls.specs.declared.ended.Ended.{Ended}
use Rattle.client_calls.specs.declared.ended.Ended.TheVariants.{GoesOn, Halts, WantsMemory}
use Rattle.client_calls.specs.Endings.{caller_ended, IsNoted}
use Rattle.client_calls.specs.Stands.{caller_at, local_at_stand}

-- a truncated fact that is decided holds
holds : {A : Type 0} → Dec A → ∥ A ∥₁ → A
holds (yes a) h = a
holds (no nothing) h = absurd (∥∥₁_elim h (λ x y. absurd x) nothing)

dec_× : {A B : Type 0} → Dec A → Dec B → Dec (A × B)
dec_× {A} {B} (yes a) (yes b) = yes (a, b)
dec_× {A} {B} (yes a) (no nothing) = no (λ (h : A × B). nothing h.1)
dec_× {A} {B} (no nothing) b = no (λ (h : A × B). nothing h.0)

dec_below : (a b : ℕ) → Dec (a < b)
dec_below a b =
    elim (cases_lt a b) [
      | inl low ↦ yes low
      | inr past ↦ no (λ (low : a < b). omega (arith, low, past))
    ]

dec_equal : (a b : ℕ) → Dec (a ≡ b)
dec_equal a b =
    elim (cases_eq a b) [
      | inl is ↦ yes is
      | inr other ↦ no other
    ]

-- whether a word was peeked
dec_region : (a b : Region) → Dec (a ≡ b)
dec_region N N = yes refl
dec_region N M = no (λ (e : N ≡ M). cc)
dec_region M N = no (λ (e : M ≡ N). cc)
dec_region M M = yes refl

dec_word : (x y : Peeked) → Dec (x ≡ y)
dec_word x y =
    elim (dec_× (dec_region x.region y.region) (dec_× (dec_equal x.caller y.caller) (dec_×
    (dec_equal x.row y.row) (dec_× (dec_equal x.place y.place) (dec_equal x.word y.word))))) [
      | yes same ↦ yes (λ i. record {
        region = same.0 i;
        caller = same.1.0 i;
        row = same.1.1.0 i;
        place = same.1.1.1.0 i;
        word = same.1.1.1.1 i;
      })
      | no other ↦
          no (λ (e : x ≡ y). other (
            ap (λ (p : Peeked). p.region) e,
            (
              ap (λ (p : Peeked). p.caller) e,
              (
                ap (λ (p : Peeked). p.row) e,
                (ap (λ (p : Peeked). p.place) e, ap (λ (p : Peeked). p.word) e),
              ),
            ),
          ))
    ]

nowhere : (xs : List Peeked) (y x : Peeked) → (y ≡ x → ⊥) → (Contains xs x → ⊥) → (k : ℕ)
    → k < length (y ∷ xs) → slice_index_or (y ∷ xs) k x ≡ x → ⊥
nowhere xs y x other suffix zero low is = other is
nowhere xs y x other suffix (suc k) low is = suffix (k, omega (arith, low), is)

dec_peeked : (xs : List Peeked) (x : Peeked) → Dec (Contains xs x)
dec_peeked [] x = no (λ (h : Contains [] x). omega (arith, h.1))
dec_peeked (y ∷ xs) x =
    elim (dec_word y x) [
      | yes is ↦ yes (0, omega arith, is)
      | no other ↦ elim (dec_peeked xs x) [
        | yes there ↦ yes (suc there.0, omega (arith, there.1), there.2)
        | no suffix ↦ no (λ (h : Contains (y ∷ xs) x). nowhere xs y x other suffix h.0 h.1 h.2)
      ]
    ]

-- whether some view holds a call
dec_held : (book : List Page) (cut : List ℕ) (call : Call) → Dec (IsHeldBySomeView book cut call)
dec_held book cut call =
    elim (cases_lt call.number (greatest_count (views_at cut book) call.caller)) [
      | inl low ↦
          let found = views_at-reached cut book call.number call.caller low in
          yes (record { caller = found.0; number = found.1 }, found.2, found.3, found.4, found.5)
      | inr past ↦
          no (λ (h : IsHeldBySomeView book cut call).
          omega
          (arith, past, h.4, views_at-least cut book h.0.caller h.0.number h.1 call.caller h.2 h.3))
    ]

gathered_is : (n : ℕ) (l : Local) (cut : List ℕ) (book : List Page) → ∥ IsGathered n l cut book ∥₁
    → IsGathered n l cut book
gathered_is n l cut book h =
    let peeked : (region : Region) (call : Call) (place x : ℕ)
    → ∥ HasPeeked l region call place x ∥₁ → HasPeeked l region call place x =
    λ region call place x. holds (dec_peeked l.peeked (record {
      region = region;
      caller = call.caller;
      row = call.number;
      place = place;
      word = x;
    })) in
    record {
      callers = holds (dec_equal (length book) n) (∥∥₁_map h (λ g. g.callers));
      records = λ i low. holds (dec_equal (answers_of book i) (slice_index cut i))
          (∥∥₁_map h (λ g. g.records i low));
      calls = λ call. (
        λ (there : IsCall book call).
            holds (dec_held book cut call) (∥∥₁_map h (λ g. (g.calls call).0 there)),
        λ (held : IsHeldBySomeView book cut call).
            holds (dec_below call.number (calls_of book call.caller))
            (∥∥₁_map h (λ g. (g.calls call).1 held)),
      );
      operations = λ call op e. (
        peeked N call 0 (low_of op) (∥∥₁_map h (λ g. (g.operations call op e).0)),
        peeked N call 1 (high_of op) (∥∥₁_map h (λ g. (g.operations call op e).1)),
      );
      replies = λ call r e. peeked M call 0 r.reply (∥∥₁_map h (λ g. g.replies call r e));
      views = λ call r e. (
        holds (dec_equal (length r.view) n) (∥∥₁_map h (λ g. (g.views call r e).0)),
        λ j low. peeked M call (1 + j) (slice_index r.view j)
            (∥∥₁_map h (λ g. (g.views call r e).1 j low)),
      );
    }

-- what is kept was gathered by the caller
pub gathered_by_is : (l : Local) (gathered : Option Gathered) → ∥ IsGatheredBy l gathered ∥₁
    → IsGatheredBy l gathered
gathered_by_is l None h = tt
gathered_by_is l (Some g) h = gathered_is (length g.book) l g.cut g.book h

-- what the caller gathered stays gathered as it finds more
pub stays_gathered : (l m : Local) (gathered : Option Gathered) → Grows l m
    → IsGatheredBy l gathered → IsGatheredBy m gathered
stays_gathered l m gathered grows h = gathered_by_stays l m gathered grows.peeked h

pub stays_kept : (l m : Local) (gathered : Option Gathered) → Grows l m
    → ∥ IsGatheredBy l gathered ∥₁ → ∥ IsGatheredBy m gathered ∥₁
stays_kept l m gathered grows h = ∥∥₁_map h (stays_gathered l m gathered grows)

-- the caller of a call that has ended is in the state that its note says
pub stand_noted : {P : Type 0} (op : ℕ) (own : List Line) (e : Ended P) (own' : List Line)
    (s : CallerState P) → IsNoted op own e own' s → caller_ended e ≡ caller_at s
stand_noted op own (GoesOn c end) own' s is = sym (ap caller_at is.0)
stand_noted op own (Halts c end) own' s is = sym (ap caller_at is.0)
stand_noted op own (WantsMemory u) own' s is = sym (ap caller_at is.0)

-- what was kept in one state is kept in an equal one
pub kept_at : {P : Type 0} (s t : CallerState P) (gathered : Option Gathered) → s ≡ t
    → ∥ IsGatheredBy (local_at_stand s) gathered ∥₁ → ∥ IsGatheredBy (local_at_stand t) gathered ∥₁
kept_at {P} s t gathered is h =
    subst (λ (x : CallerState P). ∥ IsGatheredBy (local_at_stand x) gathered ∥₁) is h
