-- The worked lines are a report, and the seen cut of its error.
use Rattle.std.proofs.Common.{◌≡◌, ℕ, zero, suc, ◌+◌, ◌<◌, ◌≤◌, ◌^◌, List, [], ◌∷◌, length, get_or, slice_get, Some, None, IsSome, refl, subst, arith, inl, inr}
use Rattle.std.proofs.lemmas.Option.{same_Some, none-some}
use Rattle.book_base.specs.declared.call.Record.{Record}
use Rattle.book_base.specs.Cut.{Holds, IsWithin, AreComparable}
use Rattle.book_base.specs.Book.{answers_of, calls_of, record_of, IsValid}
use Rattle.report_lines.specs.declared.line.Line.{Line}
use Rattle.report_lines.specs.Lines.{book_of_lines, seen_at, lines_at, error_at, delivered_in}
use Rattle.reports.specs.Findings.{AreSeenInBook, IsReport, StandsBefore, IsFirstError}
use Rattle.reports.specs.Cases.{first, second, third, worked_lines, worked}
use Rattle.report_examples.specs.Lines.{call}

within_three : (a b c d e f : ℕ) → a ≤ d → b ≤ e → c ≤ f
    → IsWithin (a ∷ b ∷ c ∷ []) (d ∷ e ∷ f ∷ [])
within_three a b c d e f x y z zero = x
within_three a b c d e f x y z (suc zero) = y
within_three a b c d e f x y z (suc (suc zero)) = z
within_three a b c d e f x y z (suc (suc (suc i))) = omega arith

-- what holds of the three records holds of each record
each_record : (P : ℕ → ℕ → Record → Type 0) → P 0 0 first → P 1 0 second → P 2 0 third
    → (i k : ℕ) (r : Record)
    → record_of (book_of_lines worked_lines) (record { caller = i; number = k }) ≡ Some r → P i k r
each_record P x y z zero zero r e = subst (P 0 0) (same_Some first r e) x
each_record P x y z zero (suc k) r e = absurd (none-some r e)
each_record P x y z (suc zero) zero r e = subst (P 1 0) (same_Some second r e) y
each_record P x y z (suc zero) (suc k) r e = absurd (none-some r e)
each_record P x y z (suc (suc zero)) zero r e = subst (P 2 0) (same_Some third r e) z
each_record P x y z (suc (suc zero)) (suc k) r e = absurd (none-some r e)
each_record P x y z (suc (suc (suc i))) k r e = absurd (none-some r e)

-- what holds of the two seen cuts holds of each seen cut
each_seen : (P : ℕ → ℕ → List ℕ → Type 0) → P 0 0 (1 ∷ 0 ∷ 0 ∷ []) → P 1 0 (1 ∷ 1 ∷ 0 ∷ [])
    → (i k : ℕ) (cut : List ℕ)
    → seen_at worked_lines (record { caller = i; number = k }) ≡ Some cut → P i k cut
each_seen P x y zero zero cut e = subst (P 0 0) (same_Some _ cut e) x
each_seen P x y zero (suc zero) cut e = absurd (none-some cut e)
each_seen P x y zero (suc (suc k)) cut e = absurd (none-some cut e)
each_seen P x y (suc zero) zero cut e = subst (P 1 0) (same_Some _ cut e) y
each_seen P x y (suc zero) (suc k) cut e = absurd (none-some cut e)
each_seen P x y (suc (suc zero)) zero cut e = absurd (none-some cut e)
each_seen P x y (suc (suc zero)) (suc k) cut e = absurd (none-some cut e)
each_seen P x y (suc (suc (suc i))) k cut e = absurd (none-some cut e)

few_answers : (i : ℕ)
    → answers_of (book_of_lines worked_lines) i ≤ calls_of (book_of_lines worked_lines) i
few_answers zero = omega arith
few_answers (suc zero) = omega arith
few_answers (suc (suc zero)) = omega arith
few_answers (suc (suc (suc i))) = omega arith

low : IsWithin (1 ∷ 0 ∷ 0 ∷ []) (1 ∷ 1 ∷ 0 ∷ [])
low = within_three 1 0 0 1 1 0 (omega arith) (omega arith) (omega arith)

high : IsWithin (1 ∷ 1 ∷ 0 ∷ []) (1 ∷ 1 ∷ 1 ∷ [])
high = within_three 1 1 0 1 1 1 (omega arith) (omega arith) (omega arith)

both : IsWithin (1 ∷ 0 ∷ 0 ∷ []) (1 ∷ 1 ∷ 1 ∷ [])
both = within_three 1 0 0 1 1 1 (omega arith) (omega arith) (omega arith)

same : (cut : List ℕ) → IsWithin cut cut
same cut i = omega arith

pub worked_is_valid : IsValid (book_of_lines worked_lines)
worked_is_valid = record {
  answers = few_answers;
  wide = λ call r e.
      each_record (λ i k r. length r.view ≡ 3) refl refl refl call.caller call.number r e;
  within = λ call r e. each_record (λ i k r. IsWithin r.view (2 ∷ 1 ∷ 1 ∷ []))
      (within_three 1 0 0 2 1 1 (omega arith) (omega arith) (omega arith))
      (within_three 1 1 0 2 1 1 (omega arith) (omega arith) (omega arith))
      (within_three 1 1 1 2 1 1 (omega arith) (omega arith) (omega arith)) call.caller
      call.number r e;
  own = λ call r e.
      each_record (λ i k r. get_or r.view i 0 ≡ k + 1) refl refl refl call.caller call.number r e;
  comparable = λ a b r s x y.
      each_record (λ i k r. AreComparable r.view s.view)
      (each_record (λ i k s. AreComparable first.view s.view) (inl (same first.view)) (inl low)
      (inl both) b.caller b.number s y)
      (each_record (λ i k s. AreComparable second.view s.view) (inr low) (inl (same second.view))
      (inl high) b.caller b.number s y)
      (each_record (λ i k s. AreComparable third.view s.view) (inr both) (inr high)
      (inl (same third.view)) b.caller b.number s y)
      a.caller a.number r x;
}

all_seen : AreSeenInBook worked_lines
all_seen = record {
  wide =
      λ call cut e. each_seen (λ i k cut. length cut ≡ 3) refl refl call.caller call.number cut e;
  within = λ call cut e.
      each_seen (λ i k cut. IsWithin cut (1 ∷ 1 ∷ 1 ∷ [])) both high call.caller call.number cut e;
  own = λ call cut e. each_seen (λ i k cut. Holds cut (record { caller = i; number = k }))
      (omega arith) (omega arith) call.caller call.number cut e;
}

all_delivered : (i k : ℕ) (line : Line) → slice_get (lines_at worked_lines i) k ≡ Some line
    → k + 1 < length (lines_at worked_lines i) → IsSome (delivered_in line.end)
all_delivered zero zero line e few =
    subst (λ (l : Line). IsSome (delivered_in l.end)) (same_Some _ line e) refl
all_delivered zero (suc k) line e few = absurd (omega (arith, few))
all_delivered (suc zero) k line e few = absurd (omega (arith, few))
all_delivered (suc (suc zero)) k line e few = absurd (omega (arith, few))
all_delivered (suc (suc (suc i))) k line e few = absurd (none-some line e)

pub worked_is_report : IsReport worked
worked_is_report = record {
  some = omega arith;
  callers = omega arith;
  calls = (omega arith, (omega arith, (omega arith, tt)));
  operations = ((omega arith, (omega arith, tt)), ((omega arith, tt), ((omega arith, tt), tt)));
  replies = λ call r e. each_record (λ i k r. r.reply < 2 ^ 64) (omega arith) (omega arith)
      (omega arith) call.caller call.number r e;
  valid = worked_is_valid;
  seen = all_seen;
  delivered = λ call line e few. all_delivered call.caller call.number line e few;
}

first_error : (i k : ℕ) → StandsBefore (record { caller = i; number = k }) (call 1 0)
    → error_at worked_lines (record { caller = i; number = k }) ≡ None
first_error zero zero before = refl
first_error zero (suc zero) before = refl
first_error zero (suc (suc k)) before = refl
first_error (suc i) k before = elim before [
  | inl lower ↦ absurd (omega (arith, lower))
  | inr earlier ↦ absurd (omega (arith, earlier.1))
]

pub worked_error_is_first : IsFirstError worked_lines (call 1 0) (1 ∷ 1 ∷ 0 ∷ [])
worked_error_is_first =
    record { error = refl; first = λ other before. first_error other.caller other.number before }
