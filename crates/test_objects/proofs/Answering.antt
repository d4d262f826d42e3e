-- The last call of a log is answered as its definition says after the earlier ones.
use Rattle.std.proofs.Common.{◌≡◌, ◌≢◌, ℕ, ◌+◌, ◌-◌, ◌%◌, ◌⊎◌, inl, inr, ◌==◌, eqb, Bool, true, false, not, ◌&&◌, if◌then◌else◌, cond, List, [], ◌∷◌, ◌++◌, length, Option, None, refl, sym, ap, ◌∙◌, arith}
use Rattle.std.specs.List.{filter}
use Rattle.std.proofs.lemmas.Bool.Decides.{eqb_tells}
use Rattle.std.proofs.lemmas.List.{append_assoc, append-nil, length_push, take_at, get_or_at}
use Rattle.std.proofs.lemmas.Bool.{cond-true, cond-false, eq-eqb, ne_eqb}
use Rattle.shared_words.specs.declared.entry.Entry.{Entry}
use Rattle.shared_words.specs.Entries.{entry}
use Rattle.test_objects.specs.Calls.{is_put, earlier, last_call, unless, reply_after}
use Rattle.test_objects.specs.Lossy.{turned, without_second_puts, puts_in, LosesEachSecondPut}
use Rattle.test_objects.specs.Twice.{without_takes, TakesLeaveTheList}
use Rattle.test_objects.specs.Late.{waits_after, waiting_from, waiting_of, late_change, late_changes, late_reply_after, PutsWait}
use Rattle.test_objects.specs.Invent.{invent_reply_after, ThirdCallsAreInvented}

-- a log parts into its earlier calls and its last one
pub earlier-more : (before : List Entry) (e : Entry) → earlier (before ++ e ∷ []) ≡ before
earlier-more before e =
    take_at before (e ∷ []) (length (before ++ e ∷ []) - 1) (omega (arith, length_push before e))

pub last_call-more : (before : List Entry) (e : Entry) → last_call (before ++ e ∷ []) ≡ e
last_call-more before e = get_or_at before e [] (entry 0 0) (length (before ++ e ∷ []) - 1)
    (omega (arith, length_push before e))

-- an answer that is given by the earlier calls and the last one
answer-more : (answer : List Entry → Entry → ℕ) (before : List Entry) (e : Entry)
    → answer (earlier (before ++ e ∷ [])) (last_call (before ++ e ∷ [])) ≡ answer before e
answer-more answer before e = ap (λ (l : List Entry). answer l (last_call (before ++ e ∷ [])))
    (earlier-more before e) ∙ ap (answer before) (last_call-more before e)

pub takes_leave_the_list : TakesLeaveTheList
takes_leave_the_list spec before e = answer-more
    (λ (l : List Entry) (c : Entry). reply_after spec (without_takes l) c.op) before e

pub third_calls_are_invented : ThirdCallsAreInvented
third_calls_are_invented spec before e = answer-more (invent_reply_after spec) before e

-- whether a number is odd, and whether the next put is a second one after this many puts
odd_by : (n : ℕ) → ((eqb (n % 2) 1 ≡ true) × (n % 2 ≡ 1)) ⊎ ((eqb (n % 2) 1 ≡ false) × (n % 2 ≢ 1))
    → not (n % 2 == 1) ≡ ((n + 1) % 2 == 1)
odd_by n (inl h) = ap not h.0 ∙ sym (ne_eqb ((n + 1) % 2) 1 (λ e. let odd = h.1 in omega arith))
odd_by n (inr h) = ap not h.0 ∙ sym (eq-eqb ((n + 1) % 2) 1 (let even = h.1 in omega arith))

odd_more : (n : ℕ) → not (n % 2 == 1) ≡ ((n + 1) % 2 == 1)
odd_more n = odd_by n (eqb_tells (n % 2) 1)

turned_by : (n : ℕ) (put : Bool) → turned (n % 2 == 1) put ≡ ((n + (cond put 1 0)) % 2 == 1)
turned_by n true = odd_more n
turned_by n false = ap (λ (k : ℕ). k % 2 == 1) (omega arith)

count-cons : (put : Bool) (e : Entry) (puts : List Entry)
    → length (cond put (e ∷ puts) puts) ≡ cond put 1 0 + length puts
count-cons true e puts = omega arith
count-cons false e puts = omega arith

puts_in-cons : (e : Entry) (log : List Entry)
    → puts_in (e ∷ log) ≡ cond (is_put e.op) 1 0 + puts_in log
puts_in-cons e log = count-cons (is_put e.op) e (filter (λ c. is_put c.op) log)

-- after n puts and then some calls, one more call is left out as a second put where it is a put and
-- the number of puts before it is odd
second_puts-append : (n : ℕ) (before : List Entry) (e : Entry)
    → without_second_puts (n % 2 == 1) (before ++ e ∷ []) ≡ without_second_puts (n % 2 == 1) before
    ++ unless (is_put e.op && ((n + puts_in before) % 2 == 1)) e
second_puts-append n [] e =
    append-nil _ ∙ ap (λ (k : ℕ). unless (is_put e.op && (k % 2 == 1)) e) (omega arith)
second_puts-append n (c ∷ before) e =
    let own = unless (is_put c.op && (n % 2 == 1)) c in
    let more = n + cond (is_put c.op) 1 0 in
    let counted = puts_in-cons c before in
    ap (λ (b : Bool). own ++ without_second_puts b (before ++ e ∷ [])) (turned_by n (is_put c.op))
    ∙ ap (λ (l : List Entry). own ++ l) (second_puts-append more before e)
    ∙ sym (append_assoc own (without_second_puts (more % 2 == 1) before)
    (unless (is_put e.op && ((more + puts_in before) % 2 == 1)) e))
    ∙ ap (λ (b : Bool). (own ++ without_second_puts b before) ++ unless
    (is_put e.op && ((more + puts_in before) % 2 == 1)) e) (sym (turned_by n (is_put c.op)))
    ∙ ap (λ (k : ℕ). (own ++ without_second_puts (turned (n % 2 == 1) (is_put c.op)) before)
    ++ unless (is_put e.op && (k % 2 == 1)) e) (omega (arith, counted))

pub loses_each_second_put : LosesEachSecondPut
loses_each_second_put =
    record {
      calls = λ before e. second_puts-append 0 before e ∙ ap (λ (k : ℕ).
          without_second_puts false before ++ unless (is_put e.op && (k % 2 == 1)) e) (omega arith);
      reply = λ spec before e. answer-more (λ (l : List Entry) (c : Entry).
          reply_after spec (without_second_puts false l) c.op) before e;
    }

late_changes-append : (prefix before : List Entry) (e : Entry) → late_changes prefix
    (before ++ e ∷ []) ≡ late_changes prefix before ++ late_change (prefix ++ before) e
late_changes-append prefix [] e = append-nil (late_change prefix e)
    ∙ ap (λ (l : List Entry). late_change l e) (sym (append-nil prefix))
late_changes-append prefix (c ∷ before) e =
    ap (λ (l : List Entry). late_change prefix c ++ l)
    (late_changes-append (prefix ++ c ∷ []) before e)
    ∙ sym (append_assoc (late_change prefix c) (late_changes (prefix ++ c ∷ []) before)
    (late_change (prefix ++ c ∷ [] ++ before) e))
    ∙ ap (λ (l : List Entry). late_change prefix c ++ late_changes (prefix ++ c ∷ []) before
    ++ late_change l e) (append_assoc prefix (c ∷ []) before)

waiting_from-append : (i : ℕ) (waits : Option ℕ) (before : List Entry) (e : Entry)
    → waiting_from i waits (before ++ e ∷ [])
    ≡ cond (e.caller == i) (waits_after e.op) (waiting_from i waits before)
waiting_from-append i waits [] e = refl
waiting_from-append i waits (c ∷ before) e =
    waiting_from-append i (if c.caller == i then waits_after c.op else waits) before e

pub waiting_own : (before : List Entry) (e : Entry)
    → waiting_of e.caller (before ++ e ∷ []) ≡ waits_after e.op
waiting_own before e = waiting_from-append e.caller None before e ∙ cond-true (e.caller == e.caller)
    (waits_after e.op) (waiting_of e.caller before) (eq-eqb e.caller e.caller refl)

pub waiting_other : (i : ℕ) (before : List Entry) (e : Entry) → e.caller ≢ i
    → waiting_of i (before ++ e ∷ []) ≡ waiting_of i before
waiting_other i before e apart = waiting_from-append i None before e
    ∙ cond-false (e.caller == i) (waits_after e.op) (waiting_of i before) (ne_eqb e.caller i apart)

pub changes_more : (before : List Entry) (e : Entry)
    → late_changes [] (before ++ e ∷ []) ≡ late_changes [] before ++ late_change before e
changes_more = late_changes-append []

pub puts_wait : PutsWait
puts_wait =
    record {
      changes = changes_more;
      own = waiting_own;
      other = waiting_other;
      reply = λ spec before e. answer-more (late_reply_after spec) before e;
    }
