-- The lines of a head: right ones that complete a text from each state of reading it, and the names
-- of their faults.
use Rattle.std.proofs.Common.{◌≡◌, ◌≢◌, ℕ, ◌≤◌, true, List, replicate, refl, sym, subst, arith}
use Rattle.std.proofs.lemmas.List.{length-replicate}
use Rattle.book_base.specs.declared.fault.What.{What}
use Rattle.book_base.specs.declared.fault.What.TheVariants.{Cut, Rest}
use Rattle.seq_objects.specs.declared.kind.Kind.{Kind}
use Rattle.seq_objects.specs.declared.kind.Kind.TheVariants.{Counter}
use Rattle.text_fields.specs.declared.version.Version.{Version}
use Rattle.text_fields.specs.declared.version.Version.TheVariants.{First, Second}
use Rattle.text_fields.specs.Version.{most_callers, most_calls, has_kind}
use Rattle.text_fields.specs.Head.{HeadDue, TitleDue, ObjectDue, CallersDue, CountsDue, HeadRead, HeadPasses, HeadFails, title_words, object_words, callers_words, calls_words}
use Rattle.text_fields.specs.Faults.{Rules}
use Rattle.book_text.proofs.CallTexts.{no_calls_few}
use Rattle.book_text.proofs.Leavings.{Completes, one_more}

pub one_caller : (v : Version) → 1 ≤ most_callers v
one_caller First = omega arith
one_caller Second = omega arith

has_counter : (v : Version) → has_kind v Counter ≡ true
has_counter First = refl
has_counter Second = refl

-- the name of a fault of a head's line isn't one of those for the end of a text, Cut and Rest
pub head_named : (version : Version) (title : List ℕ) (due : HeadDue) (words : List (List ℕ))
    (name : What) → HeadFails version title due words name → (name ≢ Cut) × (name ≢ Rest)
head_named version title TitleDue words name h =
    (λ e. absurd (cc (h.0, e)), λ e. absurd (cc (h.0, e)))
head_named version title ObjectDue words name h =
    (λ e. absurd (cc (h.0, e)), λ e. absurd (cc (h.0, e)))
head_named version title (CallersDue kind) words name h =
    (λ e. absurd (cc (h.0, e)), λ e. absurd (cc (h.0, e)))
head_named version title (CountsDue kind n) words name h =
    (λ e. absurd (cc (h.0, e)), λ e. absurd (cc (h.0, e)))
head_named version title (HeadRead kind calls) words name h = absurd h

-- right lines can complete a text from this state of its head: the head isn't read to its end, and
-- the number of callers that it says fits
abbrev pub HeadCanCome : (ℕ → Type 0) → HeadDue → Type 0
HeadCanCome Fits TitleDue = Unit {0}
HeadCanCome Fits ObjectDue = Unit {0}
HeadCanCome Fits (CallersDue kind) = Unit {0}
HeadCanCome Fits (CountsDue kind n) = Fits n
HeadCanCome Fits (HeadRead kind calls) = ⊥

-- where right lines complete a text from the end of each head without calls, they complete one from
-- each state within a head
module _ (version : Version) (title : List ℕ) (Fits : ℕ → Type 0) (one : Fits 1)
    {Due Said : Type 0} (rules : Rules Due) (ended : Said → Due)
    (in_head after_head : HeadDue → Due)
    (passes : (due next : HeadDue) (words : List (List ℕ)) → HeadPasses version title due words next
    → rules.Passes (in_head due) words (after_head next))
    (within : (after_head ObjectDue ≡ in_head ObjectDue)
    × ((kind : Kind) → after_head (CallersDue kind) ≡ in_head (CallersDue kind))
    × ((kind : Kind) (n : ℕ) → after_head (CountsDue kind n) ≡ in_head (CountsDue kind n)))
    (no_call_comes : (kind : Kind) (n : ℕ) → Fits n
    → Completes rules ended (after_head (HeadRead kind (replicate n 0)))) where
  abbrev Done : Due → Type 0
  Done due = Completes rules ended due

  more : (due next : HeadDue) (words : List (List ℕ)) → HeadPasses version title due words next
      → Done (after_head next) → Done (in_head due)
  more due next words h =
      one_more rules ended (in_head due) (after_head next) words (passes due next words h)

  counts_come : (kind : Kind) (n : ℕ) → Fits n → Done (in_head (CountsDue kind n))
  counts_come kind n fits =
      let counts : List ℕ = replicate n 0 in
      more (CountsDue kind n) (HeadRead kind counts) (calls_words counts) (
        counts,
        record { count = length-replicate n 0; few = no_calls_few (most_calls version) n },
        refl,
        refl,
      ) (no_call_comes kind n fits)

  callers_come : (kind : Kind) → Done (in_head (CallersDue kind))
  callers_come kind =
      more (CallersDue kind) (CountsDue kind 1) (callers_words 1)
      (1, record { some = omega arith; few = one_caller version }, refl, refl)
      (subst Done (sym (within.2 kind 1)) (counts_come kind 1 one))

  object_comes : Done (in_head ObjectDue)
  object_comes =
      more ObjectDue (CallersDue Counter) (object_words Counter)
      (Counter, has_counter version, refl, refl)
      (subst Done (sym (within.1 Counter)) (callers_come Counter))

  pub head_comes : (due : HeadDue) → HeadCanCome Fits due → Completes rules ended (in_head due)
  head_comes TitleDue can =
      more TitleDue ObjectDue (title_words version title) (refl, refl)
      (subst Done (sym within.0) object_comes)
  head_comes ObjectDue can = object_comes
  head_comes (CallersDue kind) can = callers_come kind
  head_comes (CountsDue kind n) can = counts_come kind n can
  head_comes (HeadRead kind calls) can = absurd can
