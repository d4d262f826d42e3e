-- Lists of lists, joined and cut into parts; and stops, given one by one.
use Rattle.std.proofs.Common.{◌≡◌, ℕ, zero, suc, ◌+◌, ◌*◌, ◌<◌, List, [], ◌∷◌, ◌++◌, length, get_or, set, take, drop, replicate, Option, Some, None, refl, sym, ap, ◌∙◌, append_assoc, arith}
use Rattle.std.specs.List.{concat}
use Rattle.std.proofs.lemmas.List.{append-nil, take_at, drop_at, length-replicate}
use Rattle.text_fields.specs.Lines.{by_number}
use Rattle.client_scripts.specs.declared.TheConstants.{PHASES}
use Rattle.client_scripts.specs.Plans.{sizes, AreStops}
use Rattle.client_scripts.specs.Grammar.{stop_line, stop_words}
use Rattle.client_scripts.specs.ScriptRules.{grouped}

-- lists that are joined are cut apart again
pub grouped-concat : (operations : List (List ℕ))
    → grouped (sizes operations) (concat operations) ≡ operations
grouped-concat [] = refl
grouped-concat (ops ∷ operations) =
    let prefix : take (length ops) (ops ++ concat operations) ≡ ops =
    take_at ops (concat operations) (length ops) refl in
    let suffix : drop (length ops) (ops ++ concat operations) ≡ concat operations =
    drop_at ops (concat operations) (length ops) refl in
    ap (λ (x : List ℕ).
    x ∷ grouped (sizes operations) (drop (length ops) (ops ++ concat operations))) prefix
    ∙ ap (λ (x : List ℕ). ops ∷ grouped (sizes operations) x) suffix
    ∙ ap (λ (x : List (List ℕ)). ops ∷ x) (grouped-concat operations)

pub concat-push : (operations : List (List ℕ)) (ops : List ℕ)
    → concat (operations ++ ops ∷ []) ≡ concat operations ++ ops
concat-push [] ops = append-nil ops
concat-push (x ∷ operations) ops = ap (λ (y : List ℕ). x ++ y) (concat-push operations ops)
    ∙ sym (append_assoc x (concat operations) ops)

-- the lines that are written of a list of items, with one more item
pub by_number-push : {X Y : Type 0} (write : ℕ → X → List Y) (i : ℕ) (xs : List X) (x : X) (j : ℕ)
    → i + length xs ≡ j → by_number write i (xs ++ x ∷ []) ≡ by_number write i xs ++ write j x
by_number-push {Y} write i [] x j e = let same : i ≡ j = omega arith in
    append-nil (write i x) ∙ ap (λ (k : ℕ). write k x) same
by_number-push {Y} write i (y ∷ xs) x j e =
    ap (λ (ys : List Y). write i y ++ ys) (by_number-push write (i + 1) xs x j (omega arith))
    ∙ sym (append_assoc (write i y) (by_number write (i + 1) xs) (write j x))

-- ---- stops

-- callers without any stop have a list of stops, as a plan wants it
pub AreStops-none : (counts : List ℕ) → AreStops counts (replicate (length counts) None)
AreStops-none [] = tt
AreStops-none (c ∷ counts) = (tt, AreStops-none counts)

pub AreStops-set : (counts : List ℕ) (stops : List (Option ℕ)) (i phases : ℕ)
    → AreStops counts stops → i < length counts → phases < PHASES * get_or counts i 0
    → AreStops counts (set stops i (Some phases))
AreStops-set [] stops i phases h lt early = absurd (omega arith)
AreStops-set (c ∷ counts) [] i phases h lt early = h
AreStops-set (c ∷ counts) (s ∷ stops) zero phases h lt early = (early, h.1)
AreStops-set (c ∷ counts) (s ∷ stops) (suc i) phases h lt early =
    (h.0, AreStops-set counts stops i phases h.1 (omega arith) early)

pub length-stops : (counts : List ℕ) (stops : List (Option ℕ)) → AreStops counts stops
    → length stops ≡ length counts
length-stops [] [] h = refl
length-stops [] (s ∷ stops) h = absurd h
length-stops (c ∷ counts) [] h = absurd h
length-stops (c ∷ counts) (s ∷ stops) h = ap suc (length-stops counts stops h.1)

-- places without a stop
abbrev pub gap : ℕ → List (Option ℕ)
gap n = replicate n None

set_in_gap : (m d e : ℕ) (x : Option ℕ) → m ≡ d + e + 1 → set (gap m) d x ≡ gap d ++ x ∷ gap e
set_in_gap zero d e x size = absurd (omega arith)
set_in_gap (suc m) zero e x size = let same : m ≡ e = omega arith in ap (λ (n : ℕ). x ∷ gap n) same
set_in_gap (suc m) (suc d) e x size = let rest = set_in_gap m d e x (omega arith) in
    ap (λ (ys : List (Option ℕ)). None ∷ ys) rest

-- a stop is set after those given so far
pub set_after : (prefix : List (Option ℕ)) (m d e i : ℕ) (x : Option ℕ) → m ≡ d + e + 1
    → i ≡ length prefix + d → set (prefix ++ gap m) i x ≡ (prefix ++ (gap d ++ x ∷ [])) ++ gap e
set_after [] m d e i x size here =
    let same : i ≡ d = omega arith in
    ap (λ (k : ℕ). set (gap m) k x) same ∙ set_in_gap m d e x size
    ∙ sym (append_assoc (gap d) (x ∷ []) (gap e))
set_after (f ∷ prefix) m d e zero x size here = absurd (omega arith)
set_after (f ∷ prefix) m d e (suc i) x size here =
    ap (λ (ys : List (Option ℕ)). f ∷ ys) (set_after prefix m d e i x size (omega arith))

-- the lines of stops after places without one
pub lines_after_gap : (i d j phases : ℕ) (rest : List (Option ℕ)) → i + d ≡ j
    → by_number stop_line i (gap d ++ Some phases ∷ rest)
    ≡ stop_words j phases ∷ by_number stop_line (j + 1) rest
lines_after_gap i zero j phases rest e = let same : i ≡ j = omega arith in
    ap (λ (k : ℕ). stop_words k phases ∷ by_number stop_line (k + 1) rest) same
lines_after_gap i (suc d) j phases rest e = lines_after_gap (i + 1) d j phases rest (omega arith)

-- places without a stop have no lines
pub no_lines : (i n : ℕ) → by_number stop_line i (gap n) ≡ []
no_lines i zero = refl
no_lines i (suc n) = no_lines (i + 1) n

pub length-gap : (n : ℕ) → length (gap n) ≡ n
length-gap n = length-replicate {A = Option ℕ} n None
