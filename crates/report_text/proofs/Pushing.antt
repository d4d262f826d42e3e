-- What is kept of lines with one line more.
use Rattle.std.proofs.Common.{◌≡◌, ℕ, zero, suc, ◌+◌, ◌-◌, ◌<◌, ◌≤◌, ◌⊎◌, List, [], ◌∷◌, ◌++◌, length, map, get_or, set, take, drop, replicate, Option, Some, None, refl, sym, ap, ◌∙◌, arith, inl, inr}
use Rattle.std.specs.List.{flat_map}
use Rattle.std.proofs.lemmas.Bool.{cases_lt}
use Rattle.std.proofs.lemmas.List.{append-nil, get_or_past, length-append, length-map, length-replicate, length-take, length-drop, map_push, take_all, take-append-le, drop-append-le}
use Rattle.std.proofs.lemmas.List.Concat.{flat_map-cons, flat_map-append}
use Rattle.std.proofs.Math.ListN.{drop_of_length-le}
use Rattle.list_laws.proofs.Options.{and_then_some}
use Rattle.book_base.specs.declared.call.Call.{Call}
use Rattle.book_base.specs.declared.call.Record.{Record}
use Rattle.book_base.specs.Cut.{Holds}
use Rattle.book_base.specs.Book.{Page, page_of, calls_of}
use Rattle.book_base.proofs.GrowthLemmas.{page_of-set_same}
use Rattle.book_text.specs.CallLines.{with_line}
use Rattle.book_text.proofs.Pages.{page_with}
use Rattle.world_core.specs.Calls.{records_of}
use Rattle.report_lines.specs.declared.line.LineEnd.{LineEnd}
use Rattle.report_lines.specs.declared.line.LineEnd.TheVariants.{Pending, Unchecked, Delivered, Error}
use Rattle.report_lines.specs.declared.line.Line.{Line}
use Rattle.report_lines.specs.Lines.{reached_of, line_at, seen_in, seen_at}
use Rattle.client_scripts.specs.ScriptRules.{grouped}
use Rattle.report_text.specs.ReportRules.{part_page, book_so_far, IsPendingAt, IsSeenBefore}
use Rattle.report_text.specs.Drafts.{StandBefore}
use Rattle.report_text.specs.Parts.{answer_in, with_told}
use Rattle.report_text.proofs.Groups.{push_at, length-grouped, before-suc, length-own, grouped-push, place, place-push_here, place-push_old, place-push_cases}

-- ---- pages

-- setting the first place after the operations puts the new one at their end
set_after : (ops : List ℕ) (m x : ℕ)
    → set (ops ++ replicate (suc m) 0) (length ops) x ≡ (ops ++ x ∷ []) ++ replicate m 0
set_after [] m x = refl
set_after (op ∷ ops) m x = ap (λ (xs : List ℕ). op ∷ xs) (set_after ops m x)

abbrev pub op_of : Line → ℕ
op_of line = line.op

abbrev pub records_in : Line → List Record
records_in line = records_of (reached_of line.end)

part_operations : (count : ℕ) (own : List Line) (line : Line) (k : ℕ) → length own ≡ k → k < count
    → set (part_page count own).operations k line.op
    ≡ (part_page count (own ++ line ∷ [])).operations
part_operations count own line k size lt =
    let ops : List ℕ = map op_of own in
    let at : length ops ≡ k = length-map own op_of ∙ size in
    let room : count - length own ≡ suc (count - (k + 1)) = omega (arith, size) in
    let left : count - (k + 1) ≡ count - length (own ++ line ∷ []) =
    omega (arith, size, length-append own (line ∷ [])) in
    ap (λ (m : ℕ). set (ops ++ replicate m 0) k line.op) room
    ∙ ap (λ (j : ℕ). set (ops ++ replicate (suc (count - (k + 1))) 0) j line.op) (sym at)
    ∙ set_after ops (count - (k + 1)) line.op
    ∙ ap (λ (m : ℕ). (ops ++ line.op ∷ []) ++ replicate m 0) left
    ∙ ap (λ (xs : List ℕ). xs ++ replicate (count - length (own ++ line ∷ [])) 0)
    (sym (map_push op_of own line))

flat_map-push : (own : List Line) (line : Line)
    → flat_map records_in (own ++ line ∷ []) ≡ flat_map records_in own ++ records_in line
flat_map-push own line =
    flat_map-append records_in own (line ∷ [])
    ∙ ap (λ (rs : List Record). flat_map records_in own ++ rs)
    (flat_map-cons records_in line [] ∙ append-nil (records_in line))

made : List ℕ → List Record → Page
made ops records = record { operations = ops; records = records }

part_page-push : (count : ℕ) (own : List Line) (op : ℕ) (end : LineEnd) (k : ℕ)
    → length own ≡ k → k < count
    → page_with (part_page count own) k op (answer_in end)
    ≡ part_page count (own ++ record { op = op; end = end } ∷ [])
unfolding made
part_page-push count own op Pending k size lt =
    let line : Line = record { op = op; end = Pending } in
    ap (λ (ops : List ℕ). made ops (flat_map records_in own))
    (part_operations count own line k size lt)
    ∙ ap (made (part_page count (own ++ line ∷ [])).operations)
    (sym (flat_map-push own line ∙ append-nil (flat_map records_in own)))
part_page-push count own op (Unchecked r) k size lt =
    let line : Line = record { op = op; end = Unchecked r } in
    ap (λ (ops : List ℕ). made ops (flat_map records_in own ++ r ∷ []))
    (part_operations count own line k size lt)
    ∙ ap (made (part_page count (own ++ line ∷ [])).operations) (sym (flat_map-push own line))
part_page-push count own op (Delivered r cut) k size lt =
    let line : Line = record { op = op; end = Delivered r cut } in
    ap (λ (ops : List ℕ). made ops (flat_map records_in own ++ r ∷ []))
    (part_operations count own line k size lt)
    ∙ ap (made (part_page count (own ++ line ∷ [])).operations) (sym (flat_map-push own line))
part_page-push count own op (Error r cut) k size lt =
    let line : Line = record { op = op; end = Error r cut } in
    ap (λ (ops : List ℕ). made ops (flat_map records_in own ++ r ∷ []))
    (part_operations count own line k size lt)
    ∙ ap (made (part_page count (own ++ line ∷ [])).operations) (sym (flat_map-push own line))

-- ---- books

pub length-book_so_far : (counts : List ℕ) (told : List Line)
    → length (book_so_far counts told) ≡ length counts
length-book_so_far [] told = refl
length-book_so_far (c ∷ counts) told = ap suc (length-book_so_far counts (drop c told))

pub calls_of-so_far : (counts : List ℕ) (told : List Line) (j : ℕ)
    → calls_of (book_so_far counts told) j ≡ get_or counts j 0
calls_of-so_far [] told j = refl
calls_of-so_far (c ∷ counts) told zero =
    omega (
      arith,
      length-append (map op_of (take c told)) (replicate (c - length (take c told)) 0),
      length-map (take c told) op_of,
      length-replicate {A = ℕ} (c - length (take c told)) 0,
      length-take c told,
    )
calls_of-so_far (c ∷ counts) told (suc j) = calls_of-so_far counts (drop c told) j

so_far-push : (counts : List ℕ) (told : List Line) (line : Line) (i k : ℕ)
    → StandBefore counts told i k → k < get_or counts i 0
    → book_so_far counts (told ++ line ∷ []) ≡ set (book_so_far counts told) i
    (page_with (page_of (book_so_far counts told) i) k line.op (answer_in line.end))
so_far-push [] told line i k e lt = absurd (omega arith)
so_far-push (c ∷ counts) told line zero k e lt =
    let size : length (told ++ line ∷ []) ≤ c = omega (arith, length-append told (line ∷ []), e) in
    let few : length told ≤ c = omega (arith, e) in
    let all : take c told ≡ told = take_all c told few in
    let rest : drop c (told ++ line ∷ []) ≡ drop c told =
    drop_of_length-le (told ++ line ∷ []) size ∙ sym (drop_of_length-le told few) in
    let prefix : part_page c (take c (told ++ line ∷ []))
    ≡ page_with (part_page c (take c told)) k line.op (answer_in line.end)
    = ap (part_page c) (take_all c (told ++ line ∷ []) size)
    ∙ sym (part_page-push c told line.op line.end k (omega (arith, e)) lt)
    ∙ ap (λ (own : List Line). page_with (part_page c own) k line.op (answer_in line.end))
    (sym all) in
    ap (λ (p : Page). p ∷ book_so_far counts (drop c (told ++ line ∷ []))) prefix
    ∙ ap (λ (ls : List Line). page_with (part_page c (take c told)) k line.op (answer_in line.end)
    ∷ book_so_far counts ls) rest
so_far-push (c ∷ counts) told line (suc i) k e lt =
    let many : c ≤ length told = omega (arith, e, before-suc c counts i) in
    ap (λ (own : List Line). part_page c own ∷ book_so_far counts (drop c (told ++ line ∷ [])))
    (take-append-le c told (line ∷ []) many)
    ∙ ap (λ (ls : List Line). part_page c (take c told) ∷ book_so_far counts ls)
    (drop-append-le c told (line ∷ []) many)
    ∙ ap (λ (ps : List Page). part_page c (take c told) ∷ ps) (so_far-push counts
    (drop c told) line i k (omega (arith, length-drop c told, e, before-suc c counts i)) lt)

set_again : (book : List Page) (i : ℕ) (p q : Page) → set (set book i p) i q ≡ set book i q
set_again [] i p q = refl
set_again (b ∷ book) zero p q = refl
set_again (b ∷ book) (suc i) p q = ap (λ (ps : List Page). b ∷ ps) (set_again book i p q)

-- a line changes the page of its caller
with_line-set : (book : List Page) (call : Call) (op : ℕ) (answer : Option Record)
    → call.caller < length book → with_line book call op answer
    ≡ set book call.caller (page_with (page_of book call.caller) call.number op answer)
with_line-set book call op None lt = refl
with_line-set book call op (Some r) lt =
    let i = call.caller in
    let answered : Page = record {
      operations = (page_of book i).operations;
      records = (page_of book i).records ++ r ∷ [];
    } in
    let told : Page → Page =
    λ p. record { operations = set p.operations call.number op; records = p.records } in
    ap (λ (p : Page). set (set book i answered) i (told p)) (page_of-set_same book i answered lt)
    ∙ set_again book i answered (told answered)

caller_inside : (counts : List ℕ) (i k : ℕ) → k < get_or counts i 0 → i < length counts
caller_inside counts i k lt = elim (cases_lt i (length counts)) [
  | inl inside ↦ inside
  | inr past ↦ absurd (omega (arith, lt, get_or_past counts i 0 past))
]

module _ (counts : List ℕ) (told : List Line) (line : Line) (call : Call)
    (stand : StandBefore counts told call.caller call.number)
    (lt : call.number < get_or counts call.caller 0) where
  abbrev lines : List (List Line)
  lines = grouped counts told

  abbrev after : List (List Line)
  after = grouped counts (told ++ line ∷ [])

  pub inside : call.caller < length counts
  inside = caller_inside counts call.caller call.number lt

  within : call.caller < length lines
  within = omega (arith, inside, length-grouped counts told)

  pushed : after ≡ push_at lines call.caller line
  pushed = grouped-push counts told line call.caller call.number stand lt

  own_size : length (get_or lines call.caller []) ≡ call.number
  own_size = length-own counts told call.caller call.number stand (omega arith)

  pub book-push : book_so_far counts (told ++ line ∷ [])
      ≡ with_told (book_so_far counts told) call line
  book-push = so_far-push counts told line call.caller call.number stand lt
      ∙ sym (with_line-set (book_so_far counts told) call line.op (answer_in line.end)
      (omega (arith, inside, length-book_so_far counts told)))

  -- ---- which line is at a place

  pub line-here : line_at after call ≡ Some line
  line-here =
      ap (λ (xss : List (List Line)). place xss call.caller call.number) pushed
      ∙ ap (λ (m : ℕ). place (push_at lines call.caller line) call.caller m) (sym own_size)
      ∙ place-push_here lines call.caller line within

  pub line-old : (other : Call) (l : Line) → line_at lines other ≡ Some l
      → line_at after other ≡ Some l
  line-old other l e = ap (λ (xss : List (List Line)). place xss other.caller other.number) pushed
      ∙ place-push_old lines call.caller line other.caller other.number l within e

  pub record IsHere (other : Call) (l : Line) : Type 0 where
    pub caller : other.caller ≡ call.caller
    pub number : other.number ≡ call.number
    pub line_is : l ≡ line

  pub line-cases : (other : Call) (l : Line) → line_at after other ≡ Some l
      → (line_at lines other ≡ Some l) ⊎ IsHere other l
  line-cases other l e =
      elim (place-push_cases lines call.caller line other.caller other.number l within
      (sym (ap (λ (xss : List (List Line)). place xss other.caller other.number) pushed) ∙ e)) [
        | inl old ↦ inl old
        | inr new ↦ inr (record { caller = new.0; number = new.1 ∙ own_size; line_is = new.2 })
      ]

  -- ---- pending calls

  pub pending-old : (other : Call) → IsPendingAt lines other → IsPendingAt after other
  pending-old other h = (h.0, line-old other h.0 h.1, h.2)

  pub pending-cases : (other : Call) → IsPendingAt after other → IsPendingAt lines other
      ⊎ (IsHere other line × (line.end ≡ Pending))
  pending-cases other h = elim (line-cases other h.0 h.1) [
    | inl old ↦ inl (h.0, old, h.2)
    | inr new ↦ inr (
      record { caller = new.caller; number = new.number; line_is = refl },
      ap (λ (l : Line). l.end) (sym new.line_is) ∙ h.2,
    )
  ]

  -- ---- seen cuts

  pub seen-old : (other : Call) (cut : List ℕ) → seen_at lines other ≡ Some cut
      → seen_at after other ≡ Some cut
  seen-old other cut e =
      let at = and_then_some (line_at lines other) (λ (l : Line). seen_in l.end) cut e in
      let there = line-old other at.0 at.1 in
      rw there at.2

  pub seen-here : (cut : List ℕ) → seen_in line.end ≡ Some cut → seen_at after call ≡ Some cut
  seen-here cut e = let there = line-here in rw there e

  pub seen-cases : (other : Call) (cut : List ℕ) → seen_at after other ≡ Some cut
      → (seen_at lines other ≡ Some cut) ⊎ (IsHere other line × (seen_in line.end ≡ Some cut))
  seen-cases other cut e =
      let at = and_then_some (line_at after other) (λ (l : Line). seen_in l.end) cut e in
      elim (line-cases other at.0 at.1) [
        | inl old ↦ inl (let there = old in rw there at.2)
        | inr new ↦ inr (
          record { caller = new.caller; number = new.number; line_is = refl },
          ap (λ (l : Line). seen_in l.end) (sym new.line_is) ∙ at.2,
        )
      ]

  -- a call is held by the seen cut of an earlier line, or by that of the new one
  pub held-cases : (other : Call) → IsSeenBefore after other → IsSeenBefore lines other
      ⊎ ((cut : List ℕ) × (seen_in line.end ≡ Some cut) × Holds cut other)
  held-cases other h = elim (seen-cases h.0 h.1 h.2) [
    | inl old ↦ inl (h.0, h.1, old, h.3)
    | inr new ↦ inr (h.1, new.1, h.3)
  ]

  pub held-old : (other : Call) → IsSeenBefore lines other → IsSeenBefore after other
  held-old other h = (h.0, h.1, seen-old h.0 h.1 h.2, h.3)
