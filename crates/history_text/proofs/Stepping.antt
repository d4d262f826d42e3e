-- Lists that are read place by place: what is read so far, and what is left.
use Rattle.std.proofs.Common.{◌≡◌, ℕ, suc, ◌+◌, ◌-◌, ◌<◌, ◌≤◌, Bool, false, cond, eqb, not, ◌&&◌, List, [], ◌∷◌, ◌++◌, length, get_or, take, drop, map, reverse, Option, Some, None, refl, sym, ap, ◌∙◌, append_assoc, append-nil, option_map, arith}
use Rattle.std.specs.Borrow.{Bor}
use Rattle.std.specs.Prelude.{slice_range, option_to_list}
use Rattle.std.proofs.lemmas.List.{take_more, drop_more, get_or-drop, length-drop, reverse-append, map-append}
use Rattle.history_text.specs.declared.clock.Clock.{Clock}
use Rattle.history_text.specs.declared.entry.LinedEntry.{LinedEntry}
use Rattle.history_text.specs.declared.call.LogCall.{LogCall}
use Rattle.history_text.specs.Items.{with_more}
use Rattle.history_text.specs.Lines.{line_and, lines_from}
use Rattle.history_text.specs.declared.fields.Field.{Field}
use Rattle.history_text.specs.Words.{plain_of}
use Rattle.history_text.specs.Layout.{FieldText, field_text}
use Rattle.history_text.specs.Fields.{trimmed_of, cells_from, fields_from, fields_named}
use Rattle.history_text.specs.Pairing.{event_or, last_event, call_by, calls_of}

-- an item that was read is one of the items so far
pub push_more : {X : Type 0} (found : List X) (item : X) (more : Option (List X))
    → with_more (found ++ item ∷ []) more ≡ with_more found (option_map (λ items. item ∷ items) more)
push_more found item None = refl
push_more found item (Some rest) = ap Some (append_assoc found (item ∷ []) rest)

-- where nothing is left, the items so far are all
pub no_more : {X : Type 0} (found : List X) → with_more found (Some []) ≡ Some found
no_more found = ap Some (append-nil found)

-- a list read backwards, one item on
pub drop_back : {X : Type 0} (xs : List X) (done : ℕ) (x : X) → done < length xs
    → x ≡ get_or xs (length xs - 1 - done) x
    → drop (length xs - (done + 1)) xs ≡ x ∷ drop (length xs - done) xs
drop_back xs done x low is =
    let at : length xs - 1 - done ≡ length xs - (done + 1) = omega arith in
    let next : (length xs - (done + 1)) + 1 ≡ length xs - done = omega arith in
    let inside : length xs - (done + 1) < length xs = omega arith in
    let read = drop_more xs (length xs - (done + 1)) x inside in
    let same = ap (λ (n : ℕ). get_or xs n x) at in
    let rest = ap (λ (n : ℕ). drop n xs) next in
    cc

-- a list with one more item, backwards
pub reverse_push : {X : Type 0} (xs : List X) (x : X) → reverse (xs ++ x ∷ []) ≡ x ∷ reverse xs
reverse_push xs x = reverse-append xs (x ∷ [])

-- the calls from an entry on
pub calls_more : (clock : Clock) (entry : LinedEntry) (later : List LinedEntry)
    (made : Option LogCall) (before : List LogCall)
    → made ≡ call_by clock entry.line entry.entry later → reverse before ≡ calls_of clock later
    → reverse (before ++ option_to_list made) ≡ calls_of clock (entry ∷ later)
calls_more clock entry later made before is known =
    reverse-append before (option_to_list made)
    ∙ (cc (back made, is, known))
  where
    back : (o : Option LogCall) → reverse (option_to_list o) ≡ option_to_list o
    back None = refl
    back (Some call) = refl

-- the last event of a process after one more entry
pub last_more : (process : List ℕ) (entries : List LinedEntry) (entry : LinedEntry)
    → last_event process (entries ++ entry ∷ [])
    ≡ event_or process entry.line entry.entry (last_event process entries)
last_more process entries entry = rw (reverse_push entries entry) refl

-- the lines from a byte on
pub lines_on : (n : ℕ) (text : List ℕ) (at : ℕ) → at < length text
    → lines_from n (take at text) (drop at text)
    ≡ cond (eqb (get_or text at 0) 10) (line_and n (take at text) (lines_from (n + 1) [] (drop (at + 1) text)))
    (lines_from n (take (at + 1) text) (drop (at + 1) text))
lines_on n text at low =
    let left = drop_more text at 0 low in
    let so_far = take_more text at 0 low in
    let step = ap (lines_from n (take at text)) left in
    let more = ap (λ (line : List ℕ). lines_from n line (drop (at + 1) text)) so_far in
    cc

-- a part of a line with one more byte
pub range_more : (line : List ℕ) (start at : ℕ) → start ≤ at → at < length line
    → slice_range line start (at + 1) ≡ slice_range line start at ++ get_or line at 0 ∷ []
range_more line start at below low =
    let many : (at + 1) - start ≡ (at - start) + 1 = omega arith in
    let place : start + (at - start) ≡ at = omega arith in
    let inside : at - start < length (drop start line) = omega (arith, length-drop start line) in
    let more = take_more (drop start line) (at - start) 0 inside in
    let item = get_or-drop start line (at - start) 0 in
    let same = ap (λ (n : ℕ). get_or line n 0) place in
    let parts = ap (λ (n : ℕ). take n (drop start line)) many in
    cc

-- the cells from a byte on
pub cells_on : (line : List ℕ) (quoted : Bool) (start at : ℕ) → start ≤ at → at < length line
    → cells_from quoted (slice_range line start at) (drop at line)
    ≡ cond (eqb (get_or line at 0) 34) (cells_from (not quoted) (slice_range line start (at + 1)) (drop (at + 1) line))
    (cond (eqb (get_or line at 0) 44 && not quoted)
    (option_map (λ cells. trimmed_of (slice_range line start at) ∷ cells)
    (cells_from false [] (drop (at + 1) line)))
    (cells_from quoted (slice_range line start (at + 1)) (drop (at + 1) line)))
cells_on line quoted start at below low =
    let left = drop_more line at 0 low in
    let so_far = range_more line start at below low in
    let step = ap (cells_from quoted (slice_range line start at)) left in
    let more = ap (λ (cell : List ℕ). cells_from quoted cell (drop (at + 1) line)) so_far in
    let flipped = ap (λ (cell : List ℕ). cells_from (not quoted) cell (drop (at + 1) line)) so_far in
    cc

-- an empty part of a line
pub range_none : (line : List ℕ) (at : ℕ) → slice_range line at at ≡ []
range_none line at =
    let none : at - at ≡ 0 = omega arith in
    ap (λ (n : ℕ). take n (drop at line)) none

-- what is left of a list under a function, one item on
pub map_left : {X Y : Type 0} (f : X → Y) (xs : List X) (at : ℕ) (d : X) → at < length xs
    → map f (drop at xs) ≡ f (get_or xs at d) ∷ map f (drop (at + 1) xs)
map_left f xs at d low = ap (map f) (drop_more xs at d low)

-- the texts of references
abbrev pub texts : List (Bor (List ℕ)) → List (List ℕ)
texts words = map (λ word. word.now) words

-- a field that was read is one of the fields so far
pub push_field : (olds news : List Field) (word value : Bor (List ℕ)) (name : List ℕ)
    (rest : Option (List FieldText)) → news ≡ olds ++ record { name = word; value = value } ∷ []
    → word.now ≡ plain_of name
    → with_more (map field_text news) rest
    ≡ with_more (map field_text olds)
    (option_map (λ fields. record { name = plain_of name; value = value.now } ∷ fields) rest)
push_field olds news word value name rest is plain =
    let field : Field = record { name = word; value = value } in
    let newly = ap (λ (fields : List Field). with_more (map field_text fields) rest) is in
    let pushed = ap (λ (fields : List FieldText). with_more fields rest)
    (map-append field_text olds (field ∷ [])) in
    let more = push_more (map field_text olds) (field_text field) rest in
    let named : List ℕ → FieldText = λ n. record { name = n; value = value.now } in
    let same = ap (λ (n : List ℕ). with_more (map field_text olds)
    (option_map (λ fields. named n ∷ fields) rest)) plain in
    newly ∙ (pushed ∙ (more ∙ same))

-- an item that waits for its value
pub names_on : (olds news : List Field) (name next : Option (Bor (List ℕ)))
    (items : List (Bor (List ℕ))) (at : ℕ) (d : Bor (List ℕ)) (all : Option (List FieldText))
    → at < length items → name ≡ None → next ≡ Some (get_or items at d) → news ≡ olds
    → with_more (map field_text olds)
    (fields_from (option_map (λ n. n.now) name) (texts (drop at items))) ≡ all
    → with_more (map field_text news)
    (fields_from (option_map (λ n. n.now) next) (texts (drop (at + 1) items))) ≡ all
names_on olds news name next items at d all low was is same before =
    let from : List Field → Option (Bor (List ℕ)) → List (List ℕ) → Option (List FieldText) =
    λ fields n rest.
    with_more (map field_text fields) (fields_from (option_map (λ w. w.now) n) rest) in
    let left = map_left (λ (i : Bor (List ℕ)). i.now) items at d low in
    let rest = texts (drop (at + 1) items) in
    ap (λ (fields : List Field). from fields next rest) same
    ∙ (ap (λ (n : Option (Bor (List ℕ))). from olds n rest) is
    ∙ (ap (λ (l : List (List ℕ)). from olds None l) (sym left)
    ∙ (ap (λ (n : Option (Bor (List ℕ))). from olds n (texts (drop at items))) (sym was) ∙ before)))

-- an item that is the value of the name before it
pub values_on : (olds news : List Field) (name next : Option (Bor (List ℕ)))
    (first word : Bor (List ℕ)) (items : List (Bor (List ℕ))) (at : ℕ) (d : Bor (List ℕ))
    (all : Option (List FieldText)) → at < length items → name ≡ Some first → next ≡ None
    → news ≡ olds ++ record { name = word; value = get_or items at d } ∷ []
    → word.now ≡ plain_of first.now
    → with_more (map field_text olds)
    (fields_from (option_map (λ n. n.now) name) (texts (drop at items))) ≡ all
    → with_more (map field_text news)
    (fields_from (option_map (λ n. n.now) next) (texts (drop (at + 1) items))) ≡ all
values_on olds news name next first word items at d all low was is same plain before =
    let from : List Field → Option (Bor (List ℕ)) → List (List ℕ) → Option (List FieldText) =
    λ fields n rest.
    with_more (map field_text fields) (fields_from (option_map (λ w. w.now) n) rest) in
    let left = map_left (λ (i : Bor (List ℕ)). i.now) items at d low in
    let rest = texts (drop (at + 1) items) in
    ap (λ (n : Option (Bor (List ℕ))). from news n rest) is
    ∙ (push_field olds news word (get_or items at d) first.now (fields_from None rest) same plain
    ∙ (ap (λ (l : List (List ℕ)). from olds (Some first) l) (sym left)
    ∙ (ap (λ (n : Option (Bor (List ℕ))). from olds n (texts (drop at items))) (sym was) ∙ before)))

-- a cell under its name
pub under_on : (olds news : List Field) (names row : List (Bor (List ℕ))) (at : ℕ)
    (d word : Bor (List ℕ)) (all : Option (List FieldText)) → at < length names → at < length row
    → news ≡ olds ++ record { name = word; value = get_or row at d } ∷ []
    → word.now ≡ plain_of (get_or names at d).now
    → with_more (map field_text olds) (fields_named (texts (drop at names)) (texts (drop at row)))
    ≡ all
    → with_more (map field_text news)
    (fields_named (texts (drop (at + 1) names)) (texts (drop (at + 1) row))) ≡ all
under_on olds news names row at d word all low inside same plain before =
    let left = map_left (λ (i : Bor (List ℕ)). i.now) names at d low in
    let cells = map_left (λ (i : Bor (List ℕ)). i.now) row at d inside in
    let rest = texts (drop (at + 1) names) in
    let named : List (List ℕ) → List (List ℕ) → Option (List FieldText) =
    λ ns cs. with_more (map field_text olds) (fields_named ns cs) in
    push_field olds news word (get_or row at d) (get_or names at d).now
    (fields_named rest (texts (drop (at + 1) row))) same plain
    ∙ (ap (λ (cs : List (List ℕ)). named ((get_or names at d).now ∷ rest) cs) (sym cells)
    ∙ (ap (λ (ns : List (List ℕ)). named ns (texts (drop at row))) (sym left) ∙ before))

-- there are no fields where there are more names than cells, or fewer
pub fields_named-uneven : (names cells : List (Bor (List ℕ))) → (length cells ≡ length names → ⊥)
    → None ≡ fields_named (texts names) (texts cells)
fields_named-uneven [] [] uneven = absurd (uneven refl)
fields_named-uneven [] (cell ∷ cells) uneven = refl
fields_named-uneven (name ∷ names) [] uneven = refl
fields_named-uneven (name ∷ names) (cell ∷ cells) uneven =
    ap (option_map (λ fields. record { name = plain_of name.now; value = cell.now } ∷ fields))
    (fields_named-uneven names cells (λ e. uneven (ap suc e)))
