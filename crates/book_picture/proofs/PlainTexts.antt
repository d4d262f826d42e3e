-- Texts that have no group, whatever follows them.
use Rattle.std.proofs.Common.{◌≡◌, ◌≢◌, ℕ, suc, ◌<◌, ◌^◌, Bool, true, false, not, ◌&&◌, ◌||◌, ◌==◌, List, [], ◌∷◌, ◌++◌, length, get_or, take, ◌+◌, codes, decimal, Option, Some, None, Result, Ok, Err, refl, sym, ap, subst, ◌∙◌, append_assoc, inl, inr, arith}
use Rattle.std.specs.Prelude.{OnOk}
use Rattle.std.specs.Char.{encode_utf8}
use Rattle.std.proofs.lemmas.Bool.{cases_Bool, and_parts, and_from, cond_both, eqb-false, ne_eqb, both_ways}
use Rattle.std.specs.List.{flat_map}
use Rattle.std.proofs.lemmas.List.{append-nil, take_more, flat_map_more}
use Rattle.std.proofs.lemmas.Str.{inside_one}
use Rattle.list_laws.proofs.FirstMarks.{decimal-Lacks}
use Rattle.seq_objects.specs.declared.kind.Kind.{Kind}
use Rattle.seq_objects.specs.declared.kind.Kind.TheVariants as kinds
use Rattle.seq_objects.specs.Words.{kind_name}
use Rattle.book_base.specs.declared.call.Call.{Call}
use Rattle.book_picture.specs.declared.marked_calls.MarkedCalls.{MarkedCalls}
use Rattle.book_picture.specs.declared.sheet.Bar.{Bar}
use Rattle.book_picture.specs.Bars.{outline_class, outline_close, outline_at, badge_at}
use Rattle.book_picture.specs.Escape.{escape_of, escaped}
use Rattle.book_picture.specs.Groups.{HasNoGroup, is_of_no_group, is_plain, GrowsPlain}
use Rattle.book_picture.specs.declared.sheet.TheConstants.{STYLE}
use Rattle.book_picture.specs.Titles.{line_text, title, error_text, error_line, first_lines, opening, notes_with, notes_text}
use Rattle.book_picture.specs.Heads.{lane_at}

-- bytes that begin no tag of a group begin none whatever follows them
still_of_none : (a b : List ℕ) → is_of_no_group a ≡ true → is_of_no_group (a ++ b) ≡ true
still_of_none [] b e = absurd cc
still_of_none (x ∷ []) [] e = e
still_of_none (x ∷ []) (y ∷ b) e =
    let parts = and_parts (not (x == 103)) (not (x == 47)) e in
    let slash : (x == 47) ≡ false = elim (cases_Bool (x == 47)) [
      | inl is ↦ absurd (both_ways (not (x == 47)) (ap not is) parts.1)
      | inr other ↦ other
    ] in
    and_from (not (x == 103)) (not ((x == 47) && (y == 103))) parts.0
    (ap (λ (t : Bool). not (t && (y == 103))) slash)
still_of_none (x ∷ y ∷ a) b e = e

or_first : (a b c : Bool) → (b ≡ true → c ≡ true) → (a || b) ≡ true → (a || c) ≡ true
or_first true b c f e = refl
or_first false b c f e = f e

pub plain-append : (a b : List ℕ) → is_plain a ≡ true → is_plain b ≡ true → is_plain (a ++ b) ≡ true
plain-append [] b h k = k
plain-append (x ∷ a) b h k =
    let parts = and_parts (not (x == 60) || is_of_no_group a) (is_plain a) h in
    and_from (not (x == 60) || is_of_no_group (a ++ b)) (is_plain (a ++ b))
    (or_first (not (x == 60)) (is_of_no_group a) (is_of_no_group (a ++ b))
    (still_of_none a b) parts.0)
    (plain-append a b parts.1 k)

-- a text without '<' is plain
plain_without : (text : List ℕ) → ((k : ℕ) → k < length text → get_or text k 0 ≢ 60)
    → is_plain text ≡ true
plain_without [] none = refl
plain_without (x ∷ rest) none =
    let first : not (x == 60) ≡ true = ap not (ne_eqb x 60 (none 0 (omega arith))) in
    and_from (not (x == 60) || is_of_no_group rest) (is_plain rest)
    (ap (λ (t : Bool). t || is_of_no_group rest) first)
    (plain_without rest (λ k inside. none (suc k) (omega arith)))

pub plain_decimal : (n : ℕ) → n < 2 ^ 64 → is_plain (decimal n) ≡ true
plain_decimal n small = plain_without (decimal n) (λ k inside. eqb-false (get_or (decimal n) k 0) 60
    (decimal-Lacks 60 n small (λ range. omega arith) k 0 inside))

-- a text that begins with a number
pub plain_number : (n : ℕ) (rest : List ℕ) → n < 2 ^ 64 → is_plain rest ≡ true
    → is_plain (decimal n ++ rest) ≡ true
plain_number n rest small plain = plain-append (decimal n) rest (plain_decimal n small) plain

plain_encoded : (byte : ℕ) → byte ≢ 60 → is_plain (encode_utf8 byte) ≡ true
plain_encoded byte other =
    plain_without (encode_utf8 byte) (λ k inside same. other (inside_one byte [] (encode_utf8 byte)
    k (sym (append-nil (encode_utf8 byte))) inside (omega arith) ∙ same))

plain_escape : (byte : ℕ) → is_plain (escape_of byte) ≡ true
plain_escape byte =
    let P : List ℕ → Type 0 = λ text. is_plain text ≡ true in
    cond_both {A = List ℕ} (byte == 38) (codes "&amp;") _ P (λ _. refl)
    (λ _. cond_both {A = List ℕ} (byte == 60) (codes "&lt;") _ P (λ _. refl)
    (λ other. cond_both {A = List ℕ} (byte == 62) (codes "&gt;") _ P (λ _. refl)
    (λ _. cond_both {A = List ℕ} (byte == 34) (codes "&quot;") _ P (λ _. refl)
    (λ _. plain_encoded byte (eqb-false byte 60 other)))))

pub plain_escaped : (text : List ℕ) → is_plain (escaped text) ≡ true
plain_escaped [] = refl
plain_escaped (x ∷ rest) =
    plain-append (escape_of x) (escaped rest) (plain_escape x) (plain_escaped rest)

pub plain_kind : (kind : Kind) → is_plain (kind_name kind) ≡ true
unfolding kind_name
plain_kind kinds.Queue = refl
plain_kind kinds.Stack = refl
plain_kind kinds.Register = refl
plain_kind kinds.Counter = refl
plain_kind kinds.IntSet = refl
plain_kind kinds.Pqueue = refl
plain_kind kinds.CasRegister = refl
plain_kind kinds.Map = refl

-- a line of text is plain where its class is, whatever its text
pub plain_line : (class : List ℕ) (x y : ℕ) (text : List ℕ) → is_plain class ≡ true → x < 2 ^ 64
    → y < 2 ^ 64 → is_plain (line_text class x y text) ≡ true
plain_line class x y text word across down =
    let inner : List ℕ = escaped text ++ codes "</text>\n" in
    let after_y : List ℕ = codes "\">" ++ inner in
    let from_y : List ℕ = codes "\" y=\"" ++ (decimal y ++ after_y) in
    let from_x : List ℕ = codes "\" x=\"" ++ (decimal x ++ from_y) in
    plain-append (codes "<text class=\"") (class ++ from_x) refl
    (plain-append class from_x word
    (plain-append (codes "\" x=\"") (decimal x ++ from_y) refl
    (plain-append (decimal x) from_y (plain_decimal x across)
    (plain-append (codes "\" y=\"") (decimal y ++ after_y) refl
    (plain-append (decimal y) after_y (plain_decimal y down)
    (plain-append (codes "\">") inner refl
    (plain-append (escaped text) (codes "</text>\n") (plain_escaped text) refl)))))))

no_open : (prefix rest : List ℕ) → is_plain (prefix ++ 60 ∷ 103 ∷ rest) ≡ true → ⊥
no_open [] [] e = cc
no_open [] (y ∷ rest) e = cc
no_open (x ∷ prefix) rest e =
    no_open prefix rest (and_parts (not (x == 60) || is_of_no_group (prefix ++ 60 ∷ 103 ∷ rest))
    (is_plain (prefix ++ 60 ∷ 103 ∷ rest)) e).1

no_close : (prefix rest : List ℕ) → is_plain (prefix ++ 60 ∷ 47 ∷ 103 ∷ rest) ≡ true → ⊥
no_close [] rest e = cc
no_close (x ∷ prefix) rest e = no_close prefix rest
    (and_parts (not (x == 60) || is_of_no_group (prefix ++ 60 ∷ 47 ∷ 103 ∷ rest))
    (is_plain (prefix ++ 60 ∷ 47 ∷ 103 ∷ rest)) e).1

-- a plain text has no group
pub has_no_group : (text : List ℕ) → is_plain text ≡ true → HasNoGroup text
has_no_group text plain = record {
  opened = λ prefix rest e. no_open prefix rest (ap is_plain (sym e) ∙ plain);
  closed = λ prefix rest e. no_close prefix rest (ap is_plain (sym e) ∙ plain);
}

-- ---- texts that grow

pub grows_nothing : (text : List ℕ) → GrowsPlain [] text text
grows_nothing text = record { plain = refl; grown = sym (append-nil text) }

-- a text grown by one text and then by another has grown by both
pub grows_then : (s t a b d : List ℕ) → GrowsPlain s a b → GrowsPlain t b d
    → GrowsPlain (s ++ t) a d
grows_then s t a b d h k = record {
  plain = plain-append s t h.plain k.plain;
  grown = k.grown ∙ ap (λ (u : List ℕ). u ++ t) h.grown ∙ append_assoc a s t;
}

-- a text that has grown by a line of text
pub grows_line : (a b class text : List ℕ) (x y : ℕ) → is_plain class ≡ true → x < 2 ^ 64
    → y < 2 ^ 64 → b ≡ a ++ line_text class x y text → GrowsPlain (line_text class x y text) a b
grows_line a b class text x y word across down e =
    record { plain = plain_line class x y text word across down; grown = e }

-- a text that has grown by the texts of the first i items, and then by that of item i, has grown by
-- those of the first i + 1 items
pub flat_turn : {X : Type 0} (f : X → List ℕ) (xs : List X) (i : ℕ) (x : X) (a b d : List ℕ)
    → i < length xs → x ≡ get_or xs i x → GrowsPlain (flat_map f (take i xs)) a b
    → GrowsPlain (f x) b d → GrowsPlain (flat_map f (take (i + 1) xs)) a d
flat_turn {X = X} f xs i x a b d less here h k =
    let grown : take (i + 1) xs ≡ take i xs ++ x ∷ [] =
    take_more xs i x less ∙ ap (λ (y : X). take i xs ++ y ∷ []) (sym here) in
    subst (λ (t : List ℕ). GrowsPlain t a d)
    (flat_map_more f [] (take i xs) x ∙ ap (flat_map f) (sym grown))
    (grows_then (flat_map f (take i xs)) (f x) a b d h k)

-- ---- parts of a picture

pub plain_opening : (width height : ℕ) → width < 2 ^ 64 → height < 2 ^ 64
    → is_plain (opening width height) ≡ true
unfolding opening
plain_opening width height across down =
    let ground : List ℕ =
    STYLE.now ++ codes "<rect width=\"100%\" height=\"100%\" fill=\"#ffffff\"/>\n" in
    let suffix : List ℕ = codes "\">\n" ++ ground in
    let from_height : List ℕ = codes "\" height=\"" ++ (decimal height ++ suffix) in
    plain-append (codes "<svg xmlns=\"http://www.w3.org/2000/svg\" width=\"")
    (decimal width ++ from_height) refl
    (plain-append (decimal width) from_height (plain_decimal width across)
    (plain-append (codes "\" height=\"") (decimal height ++ suffix) refl
    (plain-append (decimal height) suffix (plain_decimal height down)
    (plain-append (codes "\">\n") ground refl
    (plain-append STYLE.now
    (codes "<rect width=\"100%\" height=\"100%\" fill=\"#ffffff\"/>\n") refl refl)))))

plain_error : (error : Option Call) → is_plain (error_line error) ≡ true
plain_error None = refl
plain_error (Some call) =
    plain_line (codes "note") 12 80 (error_text call) refl (omega arith) (omega arith)

pub plain_first_lines : (legal : Bool) (marks : MarkedCalls) (error : Option Call)
    → is_plain (first_lines legal marks error) ≡ true
plain_first_lines legal marks error =
    plain-append (line_text (codes "title") 12 24 (title legal marks)) (error_line error)
    (plain_line (codes "title") 12 24 (title legal marks) refl (omega arith) (omega arith))
    (plain_error error)

pub plain_notes : (kind : Kind) → is_plain (notes_text kind) ≡ true
unfolding notes_with
plain_notes kind = plain_number 12 _ (omega arith) (plain-append (kind_name kind) _
    (plain_kind kind) (plain_number 12 _ (omega arith) refl))

pub plain_lane : (middle base right caller : ℕ) → middle < 2 ^ 64 → base < 2 ^ 64 → right < 2 ^ 64
    → caller < 2 ^ 64 → is_plain (lane_at middle base right caller) ≡ true
unfolding lane_at
plain_lane middle base right caller m b r n =
    plain_number middle _ m (plain_number right _ r (plain_number middle _ m
    (plain_number 12 _ (omega arith) (plain_number base _ b (plain_number caller _ n refl)))))

plain_class : (bar : Bar) → is_plain (outline_class bar) ≡ true
plain_class bar =
    let P : List ℕ → Type 0 = λ text. is_plain text ≡ true in
    cond_both {A = List ℕ} (not bar.begins && not bar.ends) (codes " through") _ P (λ _. refl)
    (λ _. cond_both {A = List ℕ} bar.is_open (codes " open") _ P (λ _. refl) (λ _. refl))

plain_close : (bar : Bar) → is_plain (outline_close bar) ≡ true
plain_close bar =
    let P : List ℕ → Type 0 = λ text. is_plain text ≡ true in
    cond_both {A = List ℕ} ((bar.begins && not bar.ends) || (not bar.begins && bar.ends)) [] _ P
    (λ _. refl) (λ _. refl)

-- the outline of a bar, by its coordinates
pub plain_outline : (bar : Bar) (start top turn bottom : ℕ) → start < 2 ^ 64 → top < 2 ^ 64
    → turn < 2 ^ 64 → bottom < 2 ^ 64
    → is_plain (outline_at (outline_class bar) start top turn bottom (outline_close bar)) ≡ true
unfolding outline_at
plain_outline bar start top turn bottom s t u b =
    let class : List ℕ = outline_class bar in
    let close : List ℕ = outline_close bar in
    let from_last : List ℕ = close ++ codes "\"/>\n" in
    let from_bottom : List ℕ = codes " H " ++ (decimal start ++ from_last) in
    let from_turn : List ℕ = codes " V " ++ (decimal bottom ++ from_bottom) in
    let from_top : List ℕ = codes " H " ++ (decimal turn ++ from_turn) in
    let from_start : List ℕ = codes " " ++ (decimal top ++ from_top) in
    let path : List ℕ = codes "\" d=\"M " ++ (decimal start ++ from_start) in
    plain-append (codes "<path class=\"bar") (class ++ path) refl
    (plain-append class path (plain_class bar)
    (plain_number start from_start s
    (plain_number top from_top t
    (plain_number turn from_turn u
    (plain_number bottom from_bottom b
    (plain_number start from_last s
    (plain-append close (codes "\"/>\n") (plain_close bar) refl)))))))

pub plain_badge : (x y base number : ℕ) → x < 2 ^ 64 → y < 2 ^ 64 → base < 2 ^ 64
    → number < 2 ^ 64 → is_plain (badge_at x y base number) ≡ true
unfolding badge_at
plain_badge x y base number across down below small =
    plain_number x _ across (plain_number y _ down (plain_number x _ across
    (plain_number base _ below (plain_number number _ small refl))))

-- what follows from a fact on success holds on success
pub on_ok : {T E : Type 0} (r : Result T E) (P Q : Type 0) → OnOk r P → (P → Q) → OnOk r Q
on_ok (Ok x) P Q h f = f h
on_ok (Err e) P Q h f = h

-- ---- the head

-- a text grown by two texts and then by a third
pub by_lines : (first second notes a b d f : List ℕ) → is_plain (first ++ second) ≡ true
    → b ≡ a ++ first → d ≡ b ++ second → GrowsPlain notes d f
    → GrowsPlain ((first ++ second) ++ notes) a f
by_lines first second notes a b d f plain e is k =
    grows_then (first ++ second) notes a d f (record {
      plain = plain;
      grown = is ∙ ap (λ (t : List ℕ). t ++ second) e ∙ append_assoc a first second;
    }) k

-- a plain text that has grown twice
pub head_grown : (start lines notes rows a b d : List ℕ) → is_plain start ≡ true → a ≡ start
    → GrowsPlain (lines ++ notes) a b → GrowsPlain rows b d
    → (is_plain d ≡ true) × (d ≡ start ++ (lines ++ (notes ++ rows)))
head_grown start lines notes rows a b d plain e h k =
    let all = grows_then (lines ++ notes) rows a b d h k in
    let is : d ≡ start ++ ((lines ++ notes) ++ rows) =
    all.grown ∙ ap (λ (t : List ℕ). t ++ ((lines ++ notes) ++ rows)) e in (
      ap is_plain is ∙ plain-append start ((lines ++ notes) ++ rows) plain all.plain,
      is ∙ ap (λ (t : List ℕ). start ++ t) (append_assoc lines notes rows),
    )
