-- The calls of a table that pass a test, counted: all of them, and those that a cut doesn't hold.
use Rattle.std.proofs.Common.{◌≡◌, ℕ, zero, suc, ◌+◌, ◌-◌, ◌<◌, ◌≤◌, ◌∙◌, Bool, true, false, cond, List, [], ◌∷◌, length, drop, replicate, get_or, set, count_by, sum_by, Option, Some, IfSome, refl, sym, ap, subst, inl, inr, slice_get, arith}
use Rattle.std.proofs.lemmas.Bool.{cases_Bool, cases_eq}
use Rattle.std.proofs.lemmas.List.{get_or-set_same, get_or-set_other, get_or_past, length-drop}
use Rattle.std.proofs.lemmas.List.Sums.{count_by-le-length, sum_by-cons, sum_by-drop_more}
use Rattle.std.proofs.lemmas.Option.{none-some, slice_get_cases, slice_get_within, slice_get-get_or, get_or_from_slice_get}
use Rattle.list_laws.proofs.Places.{get_or-replicate_default}
use Rattle.book_base.specs.declared.call.Call.{Call}
use Rattle.book_base.specs.Book.{Page}
use Rattle.legal_orders.specs.Container.{Reading}
use Rattle.queue_pairs.specs.declared.table.Table.{Table}
use Rattle.queue_pairs.specs.declared.table.TimedCall.{TimedCall}
use Rattle.queue_pairs.specs.Tables.{rows_of, IsTimed, IsTable}
use Rattle.queue_pairs.specs.Counts.{count_in}
use Rattle.queue_pairs.proofs.Entries.{timed-is}

-- Where two counts are known, the first is less than the second, and each is a given number if it
-- is known, the first number is less than the second.
pub less-counts : (one other : Option ℕ) (low high : ℕ)
    → ((a b : ℕ) × (one ≡ Some a) × (other ≡ Some b) × (a < b))
    → IfSome one (λ all. all ≡ low) → IfSome other (λ all. all ≡ high) → low < high
less-counts one other low high less first second =
    let a : less.0 ≡ low = subst (λ (o : Option ℕ). IfSome o (λ all. all ≡ low)) less.2 first in
    let b : less.1 ≡ high = subst (λ (o : Option ℕ). IfSome o (λ all. all ≡ high)) less.3 second in
    omega (arith, a, b, less.4)

-- ---- the calls of a caller

-- What a test adds to a count: 1 where it is passed, and else 0.
abbrev pub bit : Bool → ℕ
bit b = cond b 1 0

-- Where no call of a row from a number on passes before a later call, the count from this number on
-- is that after the later call, and one more where the later call passes.
row-past : (test : TimedCall → Bool) (row : List TimedCall) (gap from n : ℕ) (t : TimedCall)
    → n ≡ from + gap → slice_get row n ≡ Some t
    → ((k : ℕ) (u : TimedCall) → from ≤ k → k < n → slice_get row k ≡ Some u → test u ≡ false)
    → count_by test (drop from row) ≡ bit (test t) + count_by test (drop (n + 1) row)
row-past test row zero from n t is at none =
    let inside : n < length row = slice_get_within row n t at in
    let same : from ≡ n = omega (arith, is) in
    let whole : count_by test (drop n row)
    ≡ bit (test (get_or row n t)) + count_by test (drop (n + 1) row)
    = sum_by-drop_more (λ (x : TimedCall). cond (test x) 1 0) row n t inside in
    let here : get_or row n t ≡ t = get_or_from_slice_get row n t t at in
    ap (λ (k : ℕ). count_by test (drop k row)) same
    ∙ (whole ∙ ap (λ (x : TimedCall). bit (test x) + count_by test (drop (n + 1) row)) here)
row-past test row (suc gap) from n t is at none =
    let inside : from < length row = omega (arith, is, slice_get_within row n t at) in
    let u : TimedCall = get_or row from t in
    let fails : test u ≡ false
    = none from u (omega arith) (omega (arith, is)) (slice_get-get_or row from t inside) in
    let nothing : bit (test u) ≡ 0 = ap bit fails in
    let first : count_by test (drop from row) ≡ bit (test u) + count_by test (drop (from + 1) row)
    = sum_by-drop_more (λ (x : TimedCall). cond (test x) 1 0) row from t inside in
    let rest : count_by test (drop (from + 1) row) ≡ bit (test t) + count_by test (drop (n + 1) row)
    = row-past test row gap (from + 1) n t (omega (arith, is)) at
    (λ k v low high there. none k v (omega (arith, low)) high there) in
    omega (arith, nothing, first, rest)

-- Where the calls of a row from a number on that pass are counted to more than 0, one of them
-- passes.
row-some : (test : TimedCall → Bool) (row : List TimedCall) (gap from : ℕ)
    → length row ≤ from + gap → 0 < count_by test (drop from row)
    → (n : ℕ) × (t : TimedCall) × (from ≤ n) × (slice_get row n ≡ Some t) × (test t ≡ true)
row-some test row zero from few more =
    absurd (omega (
      arith,
      more,
      few,
      count_by-le-length test (drop from row),
      length-drop from row,
    ))
row-some test row (suc gap) from few more =
    elim (slice_get_cases row from).1 [
      | inl there ↦
          let t : TimedCall = there.0 in
          elim (cases_Bool (test t)) [
            | inl passed ↦ (from, t, omega arith, there.2, passed)
            | inr failed ↦
                let inside : from < length row = slice_get_within row from t there.2 in
                let first : count_by test (drop from row)
                ≡ bit (test (get_or row from t)) + count_by test (drop (from + 1) row)
                = sum_by-drop_more (λ (x : TimedCall). cond (test x) 1 0) row from t inside in
                let nothing : bit (test (get_or row from t)) ≡ 0
                = ap (λ (x : TimedCall). bit (test x)) (get_or_from_slice_get row from t t there.2)
                ∙ ap bit failed in
                let rest = row-some test row gap (from + 1) (omega (arith, few))
                (omega (arith, more, first, nothing)) in
                (rest.0, rest.1, omega (arith, rest.2), rest.3, rest.4)
          ]
      | inr past ↦
          absurd (omega (
            arith,
            more,
            past.0,
            count_by-le-length test (drop from row),
            length-drop from row,
          ))
    ]

-- ---- the calls of all callers

-- How many calls pass in the rows of the callers from i on: of each row the calls from the caller's
-- number on.
abbrev pub outside : (TimedCall → Bool) → List ℕ → ℕ → List (List TimedCall) → ℕ
outside test numbers i [] = 0
outside test numbers i (row ∷ rows) =
    count_by test (drop (get_or numbers i 0) row) + outside test numbers (i + 1) rows

outside-same : (test : TimedCall → Bool) (one other : List ℕ) (i : ℕ)
    (rows : List (List TimedCall)) → ((j : ℕ) → i ≤ j → get_or one j 0 ≡ get_or other j 0)
    → outside test one i rows ≡ outside test other i rows
outside-same test one other i [] same = refl
outside-same test one other i (row ∷ rows) same =
    let first : count_by test (drop (get_or one i 0) row)
    ≡ count_by test (drop (get_or other i 0) row)
    = ap (λ (k : ℕ). count_by test (drop k row)) (same i (omega arith)) in
    let rest : outside test one (i + 1) rows ≡ outside test other (i + 1) rows
    = outside-same test one other (i + 1) rows (λ j low. same j (omega (arith, low))) in
    omega (arith, first, rest)

-- Where no call of a caller passes from the caller's number up to a later call, the count of all
-- calls that pass from their callers' numbers on is that with the number after the later call, and
-- one more where the later call passes.
pub outside-past : (test : TimedCall → Bool) (numbers : List ℕ) (p : Call)
    (t : TimedCall) (gap i : ℕ)
    (rows : List (List TimedCall)) → p.caller ≡ i + gap → p.caller < length numbers
    → get_or numbers p.caller 0 ≤ p.number → slice_get (get_or rows gap []) p.number ≡ Some t
    → ((k : ℕ) (u : TimedCall) → get_or numbers p.caller 0 ≤ k → k < p.number
    → slice_get (get_or rows gap []) k ≡ Some u → test u ≡ false)
    → outside test numbers i rows
    ≡ bit (test t) + outside test (set numbers p.caller (p.number + 1)) i rows
outside-past test numbers p t gap i [] is inside low at none =
    let empty : get_or {A = List TimedCall} [] gap [] ≡ [] = get_or_past [] gap [] (omega arith) in
    absurd (none-some t
    (ap (λ (row : List TimedCall). slice_get row p.number) (sym empty) ∙ at))
outside-past test numbers p t zero i (row ∷ rows) is inside low at none =
    let after : List ℕ = set numbers p.caller (p.number + 1) in
    let mine : i ≡ p.caller = omega (arith, is) in
    let from : ℕ = get_or numbers p.caller 0 in
    let here : count_by test (drop from row)
    ≡ bit (test t) + count_by test (drop (p.number + 1) row)
    = row-past test row (p.number - from) from p.number t (omega (arith, low)) at none in
    let before : count_by test (drop (get_or numbers i 0) row) ≡ count_by test (drop from row)
    = ap (λ (j : ℕ). count_by test (drop (get_or numbers j 0) row)) mine in
    let next : get_or after i 0 ≡ p.number + 1
    = ap (λ (j : ℕ). get_or after j 0) mine
    ∙ get_or-set_same numbers p.caller (p.number + 1) 0 inside in
    let past : count_by test (drop (get_or after i 0) row)
    ≡ count_by test (drop (p.number + 1) row)
    = ap (λ (k : ℕ). count_by test (drop k row)) next in
    let rest : outside test after (i + 1) rows ≡ outside test numbers (i + 1) rows
    = outside-same test after numbers (i + 1) rows (λ j far.
    get_or-set_other numbers p.caller j (p.number + 1) 0
    (λ (e : j ≡ p.caller). omega (arith, far, e, mine))) in
    omega (arith, here, before, past, rest)
outside-past test numbers p t (suc gap) i (row ∷ rows) is inside low at none =
    let after : List ℕ = set numbers p.caller (p.number + 1) in
    let other : get_or after i 0 ≡ get_or numbers i 0
    = get_or-set_other numbers p.caller i (p.number + 1) 0
    (λ (e : i ≡ p.caller). omega (arith, is, e)) in
    let first : count_by test (drop (get_or after i 0) row)
    ≡ count_by test (drop (get_or numbers i 0) row)
    = ap (λ (k : ℕ). count_by test (drop k row)) other in
    let rest : outside test numbers (i + 1) rows ≡ bit (test t) + outside test after (i + 1) rows
    = outside-past test numbers p t gap (i + 1) rows (omega (arith, is)) inside low at none in
    omega (arith, first, rest)

-- Where more than 0 calls pass, of those from their callers' numbers on, there is such a call.
outside-some : (test : TimedCall → Bool) (numbers : List ℕ) (i : ℕ) (rows : List (List TimedCall))
    → 0 < outside test numbers i rows
    → (gap : ℕ) × (n : ℕ) × (t : TimedCall) × (get_or numbers (i + gap) 0 ≤ n)
    × (slice_get (get_or rows gap []) n ≡ Some t) × (test t ≡ true)
outside-some test numbers i [] more = absurd (omega (arith, more))
outside-some test numbers i (row ∷ rows) more =
    elim (cases_eq (count_by test (drop (get_or numbers i 0) row)) 0) [
      | inl none ↦
          let rest = outside-some test numbers (i + 1) rows (omega (arith, more, none)) in
          let shift : get_or numbers (i + 1 + rest.0) 0 ≡ get_or numbers (i + suc rest.0) 0
          = ap (λ (j : ℕ). get_or numbers j 0) (omega arith) in
          (suc rest.0, rest.1, rest.2, omega (arith, rest.3, shift), rest.4, rest.5)
      | inr some ↦
          let from : ℕ = get_or numbers i 0 in
          let here = row-some test row (length row) from (omega arith) (omega (arith, some)) in
          let same : get_or numbers (i + 0) 0 ≡ from
          = ap (λ (j : ℕ). get_or numbers j 0) (omega arith) in
          (0, here.0, here.1, omega (arith, here.2, same), here.3, here.4)
    ]

-- Where all numbers are 0, the calls that pass from their callers' numbers on are all that pass.
outside-none : (test : TimedCall → Bool) (numbers : List ℕ) (i : ℕ) (rows : List (List TimedCall))
    → ((j : ℕ) → get_or numbers j 0 ≡ 0) → outside test numbers i rows ≡ sum_by (count_by test) rows
outside-none test numbers i [] zeros = refl
outside-none test numbers i (row ∷ rows) zeros =
    let first : count_by test (drop (get_or numbers i 0) row) ≡ count_by test row
    = ap (λ (k : ℕ). count_by test (drop k row)) (zeros i) in
    let rest : outside test numbers (i + 1) rows ≡ sum_by (count_by test) rows
    = outside-none test numbers (i + 1) rows zeros in
    let all : sum_by (count_by test) (row ∷ rows) ≡ count_by test row + sum_by (count_by test) rows
    = sum_by-cons (count_by test) row rows in
    omega (arith, first, rest, all)

-- ---- the calls of a table

-- How many calls of a table pass a test and aren't in the cut with these numbers.
abbrev pub left_in : (TimedCall → Bool) → Table → List ℕ → ℕ
left_in test table numbers = outside test numbers 0 (rows_of table)

-- With the cut that holds no call, all calls of the table that pass are counted.
pub left-start : (test : TimedCall → Bool) (table : Table) (callers : ℕ)
    → left_in test table (replicate callers 0) ≡ count_in test table
left-start test table callers =
    outside-none test (replicate callers 0) 0 (rows_of table)
    (λ j. get_or-replicate_default callers j 0)

-- Where more than 0 calls of a table pass a test and aren't in a cut, the table has a right entry
-- of a call that passes and isn't in the cut.
pub left-some : (reading : Reading) (book : List Page) (table : Table) (test : TimedCall → Bool)
    (numbers : List ℕ) → IsTable reading book table → 0 < left_in test table numbers
    → (t : TimedCall) × IsTimed reading book t.call t
    × (get_or numbers t.call.caller 0 ≤ t.call.number) × (test t ≡ true)
left-some reading book table test numbers is more =
    let there = outside-some test numbers 0 (rows_of table) more in
    let one : Call = record { caller = there.0; number = there.1 } in
    let t : TimedCall = there.2 in
    let timed : IsTimed reading book one t
    = timed-is reading book table there.0 there.1 t is there.4 in
    let caller : t.call.caller ≡ there.0 = ap (λ (c : Call). c.caller) timed.call in
    let number : t.call.number ≡ there.1 = ap (λ (c : Call). c.number) timed.call in
    let from : get_or numbers t.call.caller 0 ≡ get_or numbers (0 + there.0) 0
    = ap (λ (j : ℕ). get_or numbers j 0) (omega (arith, caller)) in (
      t,
      subst (λ (c : Call). IsTimed reading book c t) (sym timed.call) timed,
      omega (arith, from, there.3, number),
      there.5,
    )
