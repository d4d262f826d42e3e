-- A line after a refutation's title says one thing at most.
use Rattle.std.proofs.Common.{◌≡◌, ℕ, zero, suc, ◌+◌, ◌-◌, ◌≤◌, ◌<◌, ◌^◌, true, false, List, [], ◌∷◌, ◌++◌, length, map, get_or, decimal, refl, sym, ap, subst, ◌∙◌, arith}
use Rattle.std.specs.Prelude.{codes}
use Rattle.std.proofs.lemmas.List.{length-append}
use Rattle.std.proofs.Math.Seq.{get_or-append_seam}
use Rattle.std.specs.List.{AllByRecursion, flat_map}
use Rattle.std.proofs.lemmas.Fmt.{decimal_nonempty}
use Rattle.list_laws.proofs.Decimals.{decimal_byte}
use Rattle.book_base.specs.declared.call.Call.{Call}
use Rattle.book_base.proofs.ViewLemmas.{same_call}
use Rattle.refutations.specs.declared.entry.Entry.{Entry}
use Rattle.pair_refutations.specs.declared.entry.Move.{Move}
use Rattle.pair_refutations.specs.declared.entry.Move.TheVariants.{Finds, Callers}
use Rattle.pair_refutations.specs.declared.entry.PairEntry.{PairEntry}
use Rattle.level_refutations.specs.Said as table
use Rattle.level_refutations.specs.Said.{EntrySaid}
use Rattle.text_fields.specs.Counts.{AreNumbers, pair_words}
use Rattle.text_fields.specs.Lines.{IsSolid, AreSolid}
use Rattle.text_fields.proofs.NumberTexts.{same_first, same_number, solid_decimal}
use Rattle.text_fields.proofs.HeadTexts.{same_numbers, solid_numbers, plain}
use Rattle.book_text.specs.CallLines.{place_words}
use Rattle.book_text.proofs.CallTexts.{pairs_once}
use Rattle.book_text.proofs.SharpBooks.{solid_pairs}
use Rattle.certificate_text.specs.Grammar.{IsNamed}
use Rattle.refutation_text.specs.Said.{At, Keys, Leave, LineSaid, StepLine, ImpossibleLine, TakesLine, FindLine, PlainLine, PairsLine, LevelsLine, ItemLine, MoveLine, TableLine, EndLine, Keep}
use Rattle.refutation_text.specs.Grammar.{IsAnyCall, MaySay, line_words, takes_words, find_words, IsEntry, IsMove, IsPairEntry, move_words, pair_entry_words, AreSome, IsTableEntry, table_words, IsLine}

-- how far the first byte of a line is above the digits
abbrev initial : List (List ℕ) → ℕ
initial [] = 0
initial (word ∷ words) = get_or word 0 0 - 57

-- the same, by what the line says
abbrev letter : LineSaid → ℕ
letter (StepLine (At counts)) = 40
letter (StepLine (Keys true keys)) = 62
letter (StepLine (Keys false keys)) = 54
letter (StepLine (Leave call)) = 51
letter (StepLine (Keep calls)) = 50
letter (ImpossibleLine call) = 48
letter (TakesLine value moment) = 42
letter (FindLine call values) = 42
letter PlainLine = 42
letter PairsLine = 42
letter LevelsLine = 42
letter (ItemLine entry) = 0
letter (MoveLine entry) = 0
letter (TableLine (table.Cut p i)) = 42
letter (TableLine (table.Level v below)) = 51
letter (TableLine (table.At l cuts)) = 40
letter EndLine = 44

initial-letter : (line : LineSaid) → MaySay line → initial (line_words line) ≡ letter line
initial-letter (StepLine (At counts)) may = refl
initial-letter (StepLine (Keys true keys)) may = refl
initial-letter (StepLine (Keys false keys)) may = refl
initial-letter (StepLine (Leave call)) may = refl
initial-letter (StepLine (Keep calls)) may = refl
initial-letter (ImpossibleLine call) may = refl
initial-letter (TakesLine value moment) may = refl
initial-letter (FindLine call values) may = refl
initial-letter PlainLine may = refl
initial-letter PairsLine may = refl
initial-letter LevelsLine may = refl
initial-letter (ItemLine entry) may =
    let digit = decimal_byte entry.item 0 may.0 (decimal_nonempty entry.item may.0) in
    omega (arith, digit.1)
initial-letter (MoveLine entry) may =
    let digit = decimal_byte entry.item 0 may.0 (decimal_nonempty entry.item may.0) in
    omega (arith, digit.1)
initial-letter (TableLine (table.Cut p i)) may = refl
initial-letter (TableLine (table.Level v below)) may = refl
initial-letter (TableLine (table.At l cuts)) may = refl
initial-letter EndLine may = refl

-- a caller and a number have one call
one_named : (a b : Call) → IsNamed a → IsNamed b → place_words a ≡ place_words b → a ≡ b
one_named a b h k e =
    let first = same_first _ _ _ _ e in
    let callers = same_number a.caller b.caller (omega (arith, h.caller)) (omega (arith, k.caller))
    first.0 in
    let numbers = same_number a.number b.number h.number k.number (same_first _ _ _ _ first.1).0 in
    let made : ℕ → ℕ → Call = λ i n. record { caller = i; number = n } in
    ap (λ (i : ℕ). made i a.number) callers ∙ ap (made b.caller) numbers

-- words are those of calls in one way
one_calls : (xs ys : List Call) → AllByRecursion IsNamed xs → AllByRecursion IsNamed ys
    → flat_map place_words xs ≡ flat_map place_words ys → xs ≡ ys
one_calls [] [] h k e = refl
one_calls [] (y ∷ ys) h k e = absurd (cc e)
one_calls (x ∷ xs) [] h k e = absurd (cc e)
one_calls (x ∷ xs) (y ∷ ys) h k e =
    let first = same_first _ _ _ _ e in
    let second = same_first _ _ _ _ first.1 in
    let one : x ≡ y = same_call x y
    (same_number x.caller y.caller (omega (arith, h.0.caller)) (omega (arith, k.0.caller)) first.0)
    (same_number x.number y.number h.0.number k.0.number second.0) in
    ap (λ (call : Call). call ∷ xs) one ∙ ap (λ (calls : List Call). y ∷ calls)
    (one_calls xs ys h.1 k.1 second.1)

one_entry : (a b : Entry) → IsEntry a → IsEntry b
    → ◌≡◌ {A = List (List ℕ)} (decimal a.item ∷ decimal a.caller ∷ [])
    (decimal b.item ∷ decimal b.caller ∷ []) → a ≡ b
one_entry a b h k e =
    let first = same_first _ _ _ _ e in
    let items = same_number a.item b.item h.0 k.0 first.0 in
    let callers = same_number a.caller b.caller h.1 k.1 (same_first _ _ _ _ first.1).0 in
    let made : ℕ → ℕ → Entry = λ n i. record { item = n; caller = i } in
    ap (λ (n : ℕ). made n a.caller) items ∙ ap (made b.item) callers

-- how far the first byte of a word is above the digits
abbrev above_digits : List ℕ → ℕ
above_digits word = get_or word 0 0 - 57

-- a number isn't the word `find`
number_or_find : (n : ℕ) → n < 2 ^ 64 → decimal n ≡ codes "find" → ⊥
number_or_find n low e =
    let digit = decimal_byte n 0 low (decimal_nonempty n low) in
    omega (arith, digit.1, ap above_digits e)

one_move : (a b : Move) → IsMove a → IsMove b → move_words a ≡ move_words b → a ≡ b
one_move Finds Finds h k e = refl
one_move Finds (Callers i j) h k e =
    absurd (number_or_find i k.0 (sym (same_first _ _ _ _ e).0))
one_move (Callers i j) Finds h k e = absurd (number_or_find i h.0 (same_first _ _ _ _ e).0)
one_move (Callers i j) (Callers k l) h m e =
    let first = same_first _ _ _ _ e in
    let putters = same_number i k h.0 m.0 first.0 in
    let takers = same_number j l h.1 m.1 (same_first _ _ _ _ first.1).0 in
    ap (λ (n : ℕ). Callers n j) putters ∙ ap (Callers k) takers

one_pair_entry : (a b : PairEntry) → IsPairEntry a → IsPairEntry b
    → pair_entry_words a ≡ pair_entry_words b → a ≡ b
one_pair_entry a b h k e =
    let first = same_first _ _ _ _ e in
    let items = same_number a.item b.item h.0 k.0 first.0 in
    let moves = one_move a.by b.by h.1 k.1 first.1 in
    let made : ℕ → Move → PairEntry = λ n by. record { item = n; by = by } in
    ap (λ (n : ℕ). made n a.by) items ∙ ap (made b.item) moves

-- an entry of a caller isn't one of a move
item_or_move : (x : Entry) (m : ℕ) (by : Move) → IsEntry x
    → ◌≡◌ {A = List (List ℕ)} (decimal x.item ∷ decimal x.caller ∷ [])
    (decimal m ∷ move_words by) → ⊥
item_or_move x m Finds h e =
    number_or_find x.caller h.1 (same_first _ _ _ _ (same_first _ _ _ _ e).1).0
item_or_move x m (Callers i j) h e = absurd (cc e)

-- words that are neither `find` nor the callers of a move are those of no move
pub no_move : (words : List (List ℕ)) → (words ≡ codes "find" ∷ [] → ⊥)
    → ((i j : ℕ) → i < 2 ^ 64 → j < 2 ^ 64 → words ≡ decimal i ∷ decimal j ∷ [] → ⊥)
    → (by : Move) → IsMove by → words ≡ move_words by → ⊥
no_move words find callers Finds may e = find e
no_move words find callers (Callers i j) may e = callers i j may.0 may.1 e

-- values that a line can say are numbers that a line can say
pub are_numbers : (values : List ℕ) → ((k : ℕ) → k < length values → get_or values k 0 < 2 ^ 32)
    → AreNumbers values
are_numbers [] small = tt
are_numbers (v ∷ values) small = (
  omega (arith, small 0 (omega arith)),
  are_numbers values (λ k less. small (suc k) (omega (arith, less))),
)

one_takes : (v m w n : ℕ) → v < 2 ^ 32 → m < 2 ^ 64 → w < 2 ^ 32 → n < 2 ^ 64
    → takes_words v m ≡ takes_words w n → (v ≡ w) × (m ≡ n)
one_takes v m w n hv hm hw hn e =
    let third = same_first _ _ _ _ (same_first _ _ _ _ (same_first _ _ _ _ e).1).1 in (
      same_number v w (omega (arith, hv)) (omega (arith, hw)) third.0,
      same_number m n hm hn (same_first _ _ _ _ third.1).0,
    )

pub one_find : (a b : Call) (xs ys : List ℕ) → IsAnyCall a → IsAnyCall b → AreNumbers xs
    → AreNumbers ys → find_words a xs ≡ find_words b ys → (a ≡ b) × (xs ≡ ys)
one_find a b xs ys ha hb hx hy e =
    let third = same_first _ _ _ _ (same_first _ _ _ _ (same_first _ _ _ _ e).1).1 in
    let fourth = same_first _ _ _ _ third.1 in (
      same_call a b (same_number a.caller b.caller ha.0 hb.0 third.0)
          (same_number a.number b.number ha.1 hb.1 fourth.0),
      same_numbers xs ys hx hy fourth.1,
    )

-- what words have after `counts find`, a caller and a number
pub find_rest : (a b : Call) (values : List ℕ) (words more : List (List ℕ))
    → words ≡ find_words a [] ++ more → words ≡ find_words b values → more ≡ map decimal values
find_rest a b values words more x y =
    let first = same_first _ _ _ _ (sym x ∙ y) in
    let second = same_first _ _ _ _ first.1 in
    let third = same_first _ _ _ _ second.1 in
    (same_first _ _ _ _ third.1).1

-- words of lines differ where a byte of a word does
other_byte : (k n : ℕ) (xs ys : List (List ℕ)) → xs ≡ ys
    → get_or (get_or xs k []) n 0 ≡ get_or (get_or ys k []) n 0
other_byte k n xs ys e = ap (λ (words : List (List ℕ)). get_or (get_or words k []) n 0) e

-- a pair isn't the text of a number
pair_or_number : (j c l : ℕ) → l < 2 ^ 64 → decimal j ++ 58 ∷ decimal c ≡ decimal l → ⊥
pair_or_number j c l low e =
    let place : ℕ = length (decimal j) in
    let colon : get_or (decimal j ++ 58 ∷ decimal c) place 0 ≡ 58 =
    get_or-append_seam (decimal j) 58 (decimal c) 0 in
    let inside : place < length (decimal l) = omega (
      arith,
      ap (λ (xs : List ℕ). length xs) e,
      length-append (decimal j) (58 ∷ decimal c),
    ) in
    omega (
      arith,
      (decimal_byte l place low inside).1,
      colon,
      ap (λ (xs : List ℕ). get_or xs place 0) e,
    )

-- the words of pairs don't begin with a number
pairs_or_number : (j : ℕ) (counts : List ℕ) (l : ℕ) (words : List (List ℕ)) → l < 2 ^ 64
    → pair_words j counts ≡ decimal l ∷ words → ⊥
pairs_or_number j [] l words low e = absurd (cc e)
pairs_or_number j (zero ∷ counts) l words low e = pairs_or_number (j + 1) counts l words low e
pairs_or_number j (suc c ∷ counts) l words low e =
    pair_or_number j (suc c) l low (same_first _ _ _ _ e).0

one_table_entry : (a b : EntrySaid) → IsTableEntry a → IsTableEntry b
    → table_words a ≡ table_words b → a ≡ b
one_table_entry (table.Cut p i) (table.Cut q j) h k e =
    let first = same_first _ _ _ _ (same_first _ _ _ _ e).1 in
    let items = same_number p q h.0 k.0 first.0 in
    let callers = same_number i j h.1 k.1 (same_first _ _ _ _ first.1).0 in
    ap (λ (n : ℕ). table.Cut n i) items ∙ ap (table.Cut q) callers
one_table_entry (table.Level v xs) (table.Level w ys) h k e =
    let first = same_first _ _ _ _ (same_first _ _ _ _ e).1 in
    let values = same_number v w (let low : v < 2 ^ 32 = h.0 in omega (arith, low))
    (let low : w < 2 ^ 32 = k.0 in omega (arith, low)) first.0 in
    ap (λ (n : ℕ). table.Level n xs) values
    ∙ ap (table.Level w) (same_numbers xs ys h.1.1 k.1.1 first.1)
one_table_entry (table.At l xs) (table.At m ys) h k e =
    let first = same_first _ _ _ _ (same_first _ _ _ _ e).1 in
    ap (λ (n : ℕ). table.At n xs) (same_number l m h.0 k.0 first.0)
    ∙ ap (table.At m) (same_numbers xs ys h.1.1 k.1.1 first.1)
one_table_entry a b h k e =
    absurd (omega (arith, other_byte 0 0 (table_words a) (table_words b) e))

-- words that aren't those of each form of entry are those of no entry
pub no_table_words : (words : List (List ℕ))
    → ((p i : ℕ) → p < 2 ^ 64 → i < 2 ^ 64
    → words ≡ codes "cut" ∷ decimal p ∷ decimal i ∷ [] → ⊥)
    → ((v : ℕ) (below : List ℕ) → v ≤ 2 ^ 32 - 1 → AreSome below
    → words ≡ codes "level" ∷ decimal v ∷ map decimal below → ⊥)
    → ((l : ℕ) (cuts : List ℕ) → l ≤ 2 ^ 64 - 1 → AreSome cuts
    → words ≡ codes "at" ∷ decimal l ∷ map decimal cuts → ⊥)
    → (entry : EntrySaid) → IsTableEntry entry → words ≡ table_words entry → ⊥
no_table_words words cut level at (table.Cut p i) may e = cut p i may.0 may.1 e
no_table_words words cut level at (table.Level v below) may e =
    level v below (let low : v < 2 ^ 32 = may.0 in omega (arith, low)) may.1 e
no_table_words words cut level at (table.At l cuts) may e =
    at l cuts (omega (arith, may.0)) may.1 e

same_line_said : (a b : LineSaid) → MaySay a → MaySay b → letter a ≡ letter b
    → line_words a ≡ line_words b → a ≡ b
same_line_said (StepLine (At x)) (StepLine (At y)) h k l e =
    ap (λ (counts : List ℕ). StepLine (At counts))
    (pairs_once 0 x y (h.0 ∙ sym k.0) (omega (arith, h.0)) h.1 k.1 (same_first _ _ _ _ e).1)
same_line_said (StepLine (Keys true x)) (StepLine (Keys true y)) h k l e =
    ap (λ (keys : List ℕ). StepLine (Keys true keys))
    (same_numbers x y h k (same_first _ _ _ _ e).1)
same_line_said (StepLine (Keys false x)) (StepLine (Keys false y)) h k l e =
    ap (λ (keys : List ℕ). StepLine (Keys false keys))
    (same_numbers x y h k (same_first _ _ _ _ e).1)
same_line_said (StepLine (Leave x)) (StepLine (Leave y)) h k l e =
    ap (λ (call : Call). StepLine (Leave call)) (one_named x y h k (same_first _ _ _ _ e).1)
same_line_said (StepLine (Keep xs)) (StepLine (Keep ys)) h k l e =
    ap (λ (calls : List Call). StepLine (Keep calls))
    (one_calls xs ys h k (same_first _ _ _ _ e).1)
same_line_said (ImpossibleLine x) (ImpossibleLine y) h k l e =
    ap ImpossibleLine (one_named x y h k (same_first _ _ _ _ e).1)
same_line_said (TakesLine v m) (TakesLine w n) h k l e =
    let same = one_takes v m w n h.0 h.1 k.0 k.1 e in
    ap (λ (x : ℕ). TakesLine x m) same.0 ∙ ap (TakesLine w) same.1
same_line_said (FindLine a xs) (FindLine b ys) h k l e =
    let same = one_find a b xs ys h.0 k.0 (are_numbers xs (λ n less. (h.1.each n less).0))
    (are_numbers ys (λ n less. (k.1.each n less).0)) e in
    ap (λ (call : Call). FindLine call xs) same.0 ∙ ap (FindLine b) same.1
same_line_said (TakesLine v m) (FindLine b ys) h k l e =
    absurd (omega (arith, other_byte 1 0 (takes_words v m) (find_words b ys) e))
same_line_said (FindLine a xs) (TakesLine w n) h k l e =
    absurd (omega (arith, other_byte 1 0 (find_words a xs) (takes_words w n) e))
same_line_said (TakesLine v m) PlainLine h k l e =
    absurd (omega (arith, other_byte 0 1 (takes_words v m) (line_words PlainLine) e))
same_line_said PlainLine (TakesLine w n) h k l e =
    absurd (omega (arith, other_byte 0 1 (line_words PlainLine) (takes_words w n) e))
same_line_said (FindLine a xs) PlainLine h k l e =
    absurd (omega (arith, other_byte 0 1 (find_words a xs) (line_words PlainLine) e))
same_line_said PlainLine (FindLine b ys) h k l e =
    absurd (omega (arith, other_byte 0 1 (line_words PlainLine) (find_words b ys) e))
same_line_said PlainLine PlainLine h k l e = refl
same_line_said (TakesLine v m) PairsLine h k l e =
    absurd (omega (arith, other_byte 0 1 (takes_words v m) (line_words PairsLine) e))
same_line_said PairsLine (TakesLine w n) h k l e =
    absurd (omega (arith, other_byte 0 1 (line_words PairsLine) (takes_words w n) e))
same_line_said (FindLine a xs) PairsLine h k l e =
    absurd (omega (arith, other_byte 0 1 (find_words a xs) (line_words PairsLine) e))
same_line_said PairsLine (FindLine b ys) h k l e =
    absurd (omega (arith, other_byte 0 1 (line_words PairsLine) (find_words b ys) e))
same_line_said PlainLine PairsLine h k l e =
    absurd (omega (arith, other_byte 1 1 (line_words PlainLine) (line_words PairsLine) e))
same_line_said PairsLine PlainLine h k l e =
    absurd (omega (arith, other_byte 1 1 (line_words PairsLine) (line_words PlainLine) e))
same_line_said PairsLine PairsLine h k l e = refl
same_line_said (MoveLine x) (MoveLine y) h k l e = ap MoveLine (one_pair_entry x y h k e)
same_line_said (ItemLine x) (MoveLine y) h k l e = absurd (item_or_move x y.item y.by h e)
same_line_said (MoveLine x) (ItemLine y) h k l e =
    absurd (item_or_move y x.item x.by k (sym e))
same_line_said (ItemLine x) (ItemLine y) h k l e = ap ItemLine (one_entry x y h k e)
same_line_said LevelsLine LevelsLine h k l e = refl
same_line_said (TableLine x) (TableLine y) h k l e = ap TableLine (one_table_entry x y h k e)
same_line_said EndLine EndLine h k l e = refl
same_line_said (TableLine (table.Cut p i)) (StepLine (Keys true y)) h k l e =
    absurd (omega (arith, l))
same_line_said a (StepLine (Keys true y)) h k l e = absurd (omega (arith, l))
same_line_said a (StepLine (Keys false y)) h k l e = absurd (omega (arith, l))
same_line_said (StepLine (At x)) (TableLine (table.At m cuts)) h k l e =
    absurd (pairs_or_number 0 x m _ k.0 (same_first _ _ _ _ e).1)
same_line_said (TableLine (table.At m cuts)) (StepLine (At y)) h k l e =
    absurd (pairs_or_number 0 y m _ h.0 (same_first _ _ _ _ (sym e)).1)
same_line_said a (TableLine (table.Cut p i)) h k l e = absurd (omega (
  arith,
  l,
  other_byte 0 1 (line_words a) (table_words (table.Cut p i)) e,
))
same_line_said a (TableLine (table.Level v below)) h k l e = absurd (omega (
  arith,
  l,
  other_byte 0 2 (line_words a) (table_words (table.Level v below)) e,
))
same_line_said (TableLine (table.Cut p i)) b h k l e = absurd (omega (
  arith,
  l,
  other_byte 0 1 (table_words (table.Cut p i)) (line_words b) e,
))
same_line_said (TableLine (table.Level v below)) b h k l e = absurd (omega (
  arith,
  l,
  other_byte 0 2 (table_words (table.Level v below)) (line_words b) e,
))
same_line_said LevelsLine b h k l e =
    absurd (omega (
      arith,
      l,
      other_byte 0 1 (line_words LevelsLine) (line_words b) e,
      other_byte 1 0 (line_words LevelsLine) (line_words b) e,
    ))
same_line_said a LevelsLine h k l e =
    absurd (omega (
      arith,
      l,
      other_byte 0 1 (line_words a) (line_words LevelsLine) e,
      other_byte 1 0 (line_words a) (line_words LevelsLine) e,
    ))
same_line_said a b h k l e = absurd (omega (arith, l))

-- words are the line that says one thing at most
pub one_line : (words : List (List ℕ)) (a b : LineSaid) → IsLine words a → IsLine words b → a ≡ b
one_line words a b h k =
    let same : line_words a ≡ line_words b = sym h.text ∙ k.text in
    same_line_said a b h.may k.may
    (sym (initial-letter a h.may) ∙ ap initial same ∙ initial-letter b k.may) same

solid_named : (call : Call) → IsNamed call → (word : List ℕ) → 0 < length word
    → IsSolid word → AreSolid (word ∷ place_words call)
solid_named call h word some solid = record {
  some = omega arith;
  each = (
    solid,
    (solid_decimal call.caller (omega (arith, h.caller)), (solid_decimal call.number h.number, tt)),
  );
}

each_solid : (calls : List Call) → AllByRecursion IsNamed calls
    → AllByRecursion IsSolid (flat_map place_words calls)
each_solid [] h = tt
each_solid (call ∷ calls) h = (
  solid_decimal call.caller (omega (arith, h.0.caller)),
  (solid_decimal call.number h.0.number, each_solid calls h.1),
)

counts_solid : IsSolid (codes "counts")
counts_solid = plain (codes "counts") (
  omega arith,
  (omega arith, (omega arith, (omega arith, (omega arith, (omega arith, tt))))),
) (omega arith)

closed_solid : IsSolid (codes "closed")
closed_solid = plain (codes "closed") (
  omega arith,
  (omega arith, (omega arith, (omega arith, (omega arith, (omega arith, tt))))),
) (omega arith)

solid_move : (item : ℕ) (by : Move) → item < 2 ^ 64 → IsMove by
    → AreSolid (decimal item ∷ move_words by)
solid_move item Finds low may = record {
  some = omega arith;
  each = (
    solid_decimal item low,
    (
      plain (codes "find") (omega arith, (omega arith, (omega arith, (omega arith, tt))))
          (omega arith),
      tt,
    ),
  );
}
solid_move item (Callers i j) low may = record {
  some = omega arith;
  each = (solid_decimal item low, (solid_decimal i may.0, (solid_decimal j may.1, tt)));
}

solid_table : (entry : EntrySaid) → IsTableEntry entry → AreSolid (table_words entry)
solid_table (table.Cut p i) may = record {
  some = omega arith;
  each = (
    plain (codes "cut") (omega arith, (omega arith, (omega arith, tt))) (omega arith),
    (solid_decimal p may.0, (solid_decimal i may.1, tt)),
  );
}
solid_table (table.Level v below) may = record {
  some = omega arith;
  each = (
    plain (codes "level")
        (omega arith, (omega arith, (omega arith, (omega arith, (omega arith, tt)))))
        (omega arith),
    (
      solid_decimal v (let low : v < 2 ^ 32 = may.0 in omega (arith, low)),
      solid_numbers below may.1.1,
    ),
  );
}
solid_table (table.At l cuts) may = record {
  some = omega arith;
  each = (
    plain (codes "at") (omega arith, (omega arith, tt)) (omega arith),
    (solid_decimal l may.0, solid_numbers cuts may.1.1),
  );
}

solid_said : (line : LineSaid) → MaySay line → AreSolid (line_words line)
solid_said (StepLine (At counts)) may = record {
  some = omega arith;
  each = (
    plain (codes "at") (omega arith, (omega arith, tt)) (omega arith),
    solid_pairs 0 counts (omega (arith, may.0)) may.1,
  );
}
solid_said (StepLine (Keys true keys)) may = record {
  some = omega arith;
  each = (
    plain (codes "without") (
      omega arith,
      (
        omega arith,
        (
          omega arith,
          (
            omega arith,
            (omega arith, (omega arith, (omega arith, tt))),
          ),
        ),
      ),
    ) (omega arith),
    solid_numbers keys may,
  );
}
solid_said (StepLine (Keys false keys)) may = record {
  some = omega arith;
  each = (
    plain (codes "only") (omega arith, (omega arith, (omega arith, (omega arith, tt))))
        (omega arith),
    solid_numbers keys may,
  );
}
solid_said (StepLine (Leave call)) may = solid_named call may (codes "leave") (omega arith)
    (plain (codes "leave")
    (omega arith, (omega arith, (omega arith, (omega arith, (omega arith, tt))))) (omega arith))
solid_said (StepLine (Keep calls)) may = record {
  some = omega arith;
  each = (
    plain (codes "keep") (omega arith, (omega arith, (omega arith, (omega arith, tt))))
        (omega arith),
    each_solid calls may,
  );
}
solid_said (ImpossibleLine call) may = solid_named call may (codes "impossible") (omega arith)
    (plain (codes "impossible") (
      omega arith,
      (
        omega arith,
        (
          omega arith,
          (
            omega arith,
            (
              omega arith,
              (
                omega arith,
                (omega arith, (omega arith, (omega arith, (omega arith, tt)))),
              ),
            ),
          ),
        ),
      ),
    ) (omega arith))
solid_said (TakesLine value moment) may = record {
  some = omega arith;
  each = (
    counts_solid,
    (
      plain (codes "takes")
          (omega arith, (omega arith, (omega arith, (omega arith, (omega arith, tt)))))
          (omega arith),
      (
        solid_decimal value (let low : value < 2 ^ 32 = may.0 in omega (arith, low)),
        (solid_decimal moment may.1, tt),
      ),
    ),
  );
}
solid_said (FindLine call values) may = record {
  some = omega arith;
  each = (
    counts_solid,
    (
      plain (codes "find") (omega arith, (omega arith, (omega arith, (omega arith, tt))))
          (omega arith),
      (
        solid_decimal call.caller may.0.0,
        (
          solid_decimal call.number may.0.1,
          solid_numbers values (are_numbers values (λ n less. (may.1.each n less).0)),
        ),
      ),
    ),
  );
}
solid_said PlainLine may = record {
  some = omega arith;
  each = (
    closed_solid,
    (
      plain (codes "plain")
          (omega arith, (omega arith, (omega arith, (omega arith, (omega arith, tt)))))
          (omega arith),
      tt,
    ),
  );
}
solid_said PairsLine may = record {
  some = omega arith;
  each = (
    closed_solid,
    (
      plain (codes "pairs")
          (omega arith, (omega arith, (omega arith, (omega arith, (omega arith, tt)))))
          (omega arith),
      tt,
    ),
  );
}
solid_said LevelsLine may = record {
  some = omega arith;
  each = (
    closed_solid,
    (
      plain (codes "levels") (
        omega arith,
        (omega arith, (omega arith, (omega arith, (omega arith, (omega arith, tt))))),
      ) (omega arith),
      tt,
    ),
  );
}
solid_said (ItemLine entry) may = record {
  some = omega arith;
  each = (solid_decimal entry.item may.0, (solid_decimal entry.caller may.1, tt));
}
solid_said (MoveLine entry) may = solid_move entry.item entry.by may.0 may.1
solid_said (TableLine entry) may = solid_table entry may
solid_said EndLine may = record {
  some = omega arith;
  each = (plain (codes "end") (omega arith, (omega arith, (omega arith, tt))) (omega arith), tt);
}

pub line_solid : (words : List (List ℕ)) (line : LineSaid) → IsLine words line → AreSolid words
line_solid words line h = subst AreSolid (sym h.text) (solid_said line h.may)
