-- The cells of a row, byte by byte.
use Rattle.std.proofs.Common.{◌≡◌, ℕ, ◌+◌, ◌<◌, ◌≤◌, ◌∙◌, Bool, true, false, eqb, not, ◌&&◌, List, [], ◌∷◌, ◌++◌, length, get_or, drop, map, Option, refl, sym, ap, eq-eqb, ne_eqb, option_map, arith}
use Rattle.std.specs.Borrow.{Bor}
use Rattle.std.specs.Prelude.{slice_range}
use Rattle.std.proofs.lemmas.List.{map-append}
use Rattle.history_text.specs.Items.{with_more}
use Rattle.history_text.specs.Fields.{trimmed_of, cells_from}
use Rattle.history_text.proofs.Stepping.{push_more, cells_on, range_none}

pub quote_on : (line : List ℕ) (quoted : Bool) (start at : ℕ) → start ≤ at → at < length line
    → get_or line at 0 ≡ 34
    → cells_from quoted (slice_range line start at) (drop at line)
    ≡ cells_from (not quoted) (slice_range line start (at + 1)) (drop (at + 1) line)
quote_on line quoted start at below low is =
    let t : eqb (get_or line at 0) 34 ≡ true = eq-eqb (get_or line at 0) 34 is in
    rw t at (cells_on line quoted start at below low)

pub comma_on : (line : List ℕ) (quoted : Bool) (start at : ℕ) → start ≤ at → at < length line
    → get_or line at 0 ≡ 44 → quoted ≡ false
    → cells_from quoted (slice_range line start at) (drop at line)
    ≡ option_map (λ cells. trimmed_of (slice_range line start at) ∷ cells)
    (cells_from false (slice_range line (at + 1) (at + 1)) (drop (at + 1) line))
comma_on line quoted start at below low is plain =
    let other : eqb (get_or line at 0) 34 ≡ false =
    ne_eqb (get_or line at 0) 34 (λ e. absurd (omega (arith, e, is))) in
    let t : (eqb (get_or line at 0) 44 && not quoted) ≡ true =
    ap (λ (b : Bool). b && not quoted) (eq-eqb (get_or line at 0) 44 is) ∙ ap not plain in
    let on = rw (other, t) at (cells_on line quoted start at below low) in
    on ∙ ap (λ (cell : List ℕ). option_map (λ cells. trimmed_of (slice_range line start at) ∷ cells)
    (cells_from false cell (drop (at + 1) line))) (sym (range_none line (at + 1)))

pub byte_on : (line : List ℕ) (quoted : Bool) (start at : ℕ) → start ≤ at → at < length line
    → eqb (get_or line at 0) 34 ≡ false → (eqb (get_or line at 0) 44 && not quoted) ≡ false
    → cells_from quoted (slice_range line start at) (drop at line)
    ≡ cells_from quoted (slice_range line start (at + 1)) (drop (at + 1) line)
byte_on line quoted start at below low other t =
    rw (other, t) at (cells_on line quoted start at below low)

-- a cell that was read is one of the cells so far
pub push_cell : (found : List (Bor (List ℕ))) (cell : Bor (List ℕ)) (text : List ℕ)
    (more : Option (List (List ℕ))) → cell.now ≡ text
    → with_more (map (λ c. c.now) (found ++ cell ∷ [])) more
    ≡ with_more (map (λ c. c.now) found) (option_map (λ cells. text ∷ cells) more)
push_cell found cell text more is =
    ap (λ (cells : List (List ℕ)). with_more cells more)
    (map-append (λ (c : Bor (List ℕ)). c.now) found (cell ∷ []))
    ∙ (push_more (map (λ (c : Bor (List ℕ)). c.now) found) cell.now more
    ∙ ap (λ (t : List ℕ). with_more (map (λ (c : Bor (List ℕ)). c.now) found)
    (option_map (λ cells. t ∷ cells) more)) is)

-- one byte on, at a quote
pub at_quote : (line : List ℕ) (quoted next : Bool) (start begin at : ℕ)
    (olds news : List (Bor (List ℕ))) (all : Option (List (List ℕ))) → start ≤ at
    → at < length line → get_or line at 0 ≡ 34 → next ≡ not quoted → begin ≡ start → news ≡ olds
    → with_more (map (λ c. c.now) olds)
    (cells_from quoted (slice_range line start at) (drop at line)) ≡ all
    → with_more (map (λ c. c.now) news)
    (cells_from next (slice_range line begin (at + 1)) (drop (at + 1) line)) ≡ all
at_quote line quoted next start begin at olds news all below low is flips same kept before =
    let from : List (Bor (List ℕ)) → Bool → ℕ → Option (List (List ℕ)) = λ cells q s.
    with_more (map (λ c. c.now) cells)
    (cells_from q (slice_range line s (at + 1)) (drop (at + 1) line)) in
    ap (λ (cells : List (Bor (List ℕ))). from cells next begin) kept
    ∙ (ap (λ (q : Bool). from olds q begin) flips
    ∙ (ap (λ (s : ℕ). from olds (not quoted) s) same
    ∙ (ap (with_more (map (λ c. c.now) olds)) (sym (quote_on line quoted start at below low is))
    ∙ before)))

-- one byte on, at a comma that ends a cell
pub at_comma : (line : List ℕ) (quoted next : Bool) (start begin at : ℕ)
    (olds news : List (Bor (List ℕ))) (cell : Bor (List ℕ)) (all : Option (List (List ℕ)))
    → start ≤ at → at < length line → get_or line at 0 ≡ 44 → quoted ≡ false → next ≡ quoted
    → begin ≡ at + 1 → news ≡ olds ++ cell ∷ []
    → cell.now ≡ trimmed_of (slice_range line start at)
    → with_more (map (λ c. c.now) olds)
    (cells_from quoted (slice_range line start at) (drop at line)) ≡ all
    → with_more (map (λ c. c.now) news)
    (cells_from next (slice_range line begin (at + 1)) (drop (at + 1) line)) ≡ all
at_comma line quoted next start begin at olds news cell all below low is plain same begins pushed text
    before =
    let from : List (Bor (List ℕ)) → Bool → ℕ → Option (List (List ℕ)) = λ cells q s.
    with_more (map (λ c. c.now) cells)
    (cells_from q (slice_range line s (at + 1)) (drop (at + 1) line)) in
    ap (λ (cells : List (Bor (List ℕ))). from cells next begin) pushed
    ∙ (ap (λ (q : Bool). from (olds ++ cell ∷ []) q begin) (same ∙ plain)
    ∙ (ap (λ (s : ℕ). from (olds ++ cell ∷ []) false s) begins
    ∙ (push_cell olds cell (trimmed_of (slice_range line start at))
    (cells_from false (slice_range line (at + 1) (at + 1)) (drop (at + 1) line)) text
    ∙ (ap (with_more (map (λ c. c.now) olds))
    (sym (comma_on line quoted start at below low is plain)) ∙ before))))

-- one byte on, at another byte
pub at_byte : (line : List ℕ) (quoted next : Bool) (start begin at : ℕ)
    (olds news : List (Bor (List ℕ))) (all : Option (List (List ℕ))) → start ≤ at
    → at < length line → (get_or line at 0 ≡ 34 → ⊥)
    → (eqb (get_or line at 0) 44 && not quoted) ≡ false
    → next ≡ quoted → begin ≡ start → news ≡ olds
    → with_more (map (λ c. c.now) olds)
    (cells_from quoted (slice_range line start at) (drop at line)) ≡ all
    → with_more (map (λ c. c.now) news)
    (cells_from next (slice_range line begin (at + 1)) (drop (at + 1) line)) ≡ all
at_byte line quoted next start begin at olds news all below low is other flips same kept before =
    let from : List (Bor (List ℕ)) → Bool → ℕ → Option (List (List ℕ)) = λ cells q s.
    with_more (map (λ c. c.now) cells)
    (cells_from q (slice_range line s (at + 1)) (drop (at + 1) line)) in
    ap (λ (cells : List (Bor (List ℕ))). from cells next begin) kept
    ∙ (ap (λ (q : Bool). from olds q begin) flips
    ∙ (ap (λ (s : ℕ). from olds quoted s) same
    ∙ (ap (with_more (map (λ c. c.now) olds))
    (sym (byte_on line quoted start at below low (ne_eqb (get_or line at 0) 34 is) other))
    ∙ before)))

-- no comma ends a cell between quotes
pub in_quotes : (comma quoted : Bool) → quoted ≡ true → (comma && not quoted) ≡ false
in_quotes true quoted is = ap not is
in_quotes false quoted is = refl

pub no_comma : (comma quoted : Bool) → comma ≡ false → (comma && not quoted) ≡ false
no_comma comma quoted is = ap (λ (b : Bool). b && not quoted) is
