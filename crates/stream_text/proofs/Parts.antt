-- Bytes up to a line feed.
use Rattle.std.proofs.Common.{◌≡◌, ◌≢◌, ◌∙◌, drop-drop, ℕ, ◌+◌, ◌-◌, ◌<◌, ◌≤◌, Bool, true, false, cond, eqb, ltb, List, [], ◌∷◌, ◌++◌, length, take, drop, Option, Some, None, refl, ap, sym, arith, append_assoc}
use Rattle.std.specs.Option.{option_map}
use Rattle.std.specs.Prelude.{not, position}
use Rattle.std.specs.List.{position_or_len}
use Rattle.std.proofs.lemmas.Bool.{ltb-true, ltb-false, and_from}
use Rattle.std.proofs.lemmas.List.{length-take, get_or-take, drop-take, length-drop}
use Rattle.std.proofs.lemmas.List.Folds.{list_all-append}
use Rattle.std.proofs.lemmas.List.Sums.{list_all-from_AllPass, fails_before_first}
use Rattle.text_fields.proofs.Cuts.{parts_at, cut_joins}
use Rattle.stream_text.specs.Source.{has_no_feed}

abbrev pub is_feed : ℕ → Bool
is_feed byte = eqb byte 10

chosen_some : (b : Bool) (i j : ℕ) → ◌≡◌ {A = Option ℕ} (cond b (Some i) None) (Some j)
    → (b ≡ true) × (i ≡ j)
chosen_some true i j e = (refl, cc)
chosen_some false i j e = absurd cc

chosen_none : (b : Bool) (i : ℕ) → ◌≡◌ {A = Option ℕ} (cond b (Some i) None) None → b ≡ false
chosen_none true i e = absurd cc
chosen_none false i e = refl

-- the bytes before the first line feed have none
pub before_feed : (bytes : List ℕ) (n : ℕ) → n ≤ position_or_len is_feed bytes
    → has_no_feed (take n bytes) ≡ true
before_feed bytes n few = list_all-from_AllPass (λ b. not (is_feed b)) (take n bytes) (λ k d lt.
    let low : k < n = omega (arith, length-take n bytes) in
    ap not (ap is_feed (get_or-take n bytes k d low)
    ∙ fails_before_first is_feed bytes k d (omega arith)))

-- the first line feed, where there is one
pub feed_is : (bytes : List ℕ) (i : ℕ) → position is_feed bytes ≡ Some i
    → (i < length bytes) × (position_or_len is_feed bytes ≡ i)
feed_is bytes i e = let c = chosen_some (ltb (position_or_len is_feed bytes) (length bytes))
    (position_or_len is_feed bytes) i e in
    let lt = ltb-true (position_or_len is_feed bytes) (length bytes) c.0 in
    (omega (arith, lt, c.1), c.1)

-- no byte is a line feed
pub feed_none : (bytes : List ℕ) → position is_feed bytes ≡ None
    → length bytes ≤ position_or_len is_feed bytes
feed_none bytes e = ltb-false _ _ (chosen_none (ltb (position_or_len is_feed bytes) (length bytes))
    (position_or_len is_feed bytes) e)

-- bytes with a line feed are those before it, it, and those after it
pub feed_joins : (bytes : List ℕ) (i : ℕ) → position is_feed bytes ≡ Some i
    → bytes ≡ take i bytes ++ 10 ∷ drop (i + 1) bytes
feed_joins bytes i e = cut_joins 10 bytes (take i bytes) (drop (i + 1) bytes)
    (ap (λ (o : Option ℕ). option_map (λ k. parts_at k bytes) o) e)

-- a list that isn't empty has a length
pub some_length : (bytes : List ℕ) → bytes ≢ [] → 0 < length bytes
some_length [] some = absurd (some refl)
some_length (b ∷ bytes) some = omega arith

-- what is left of a stretch of a list after its first items
pub stretch_rest : {X : Type 0} (xs : List X) (from to n : ℕ) → from ≤ to
    → drop n (take (to - from) (drop from xs)) ≡ drop (from + n) (take to xs)
stretch_rest xs from to n le =
    let whole : take to xs ≡ take (from + (to - from)) xs =
    ap (λ (k : ℕ). take k xs) (omega arith) in
    ap (drop n) (sym (drop-take from (to - from) xs) ∙ ap (drop from) (sym whole))
    ∙ drop-drop n from (take to xs)

-- a stretch of a list, from one place to another
pub stretch : {X : Type 0} (xs : List X) (from to : ℕ) → from ≤ to
    → take (to - from) (drop from xs) ≡ drop from (take to xs)
stretch xs from to le =
    let whole : take to xs ≡ take (from + (to - from)) xs =
    ap (λ (k : ℕ). take k xs) (omega arith) in
    sym (drop-take from (to - from) xs) ∙ ap (drop from) (sym whole)

-- what is read more is held after the bytes so far
pub read_more : (before given line held more later : List ℕ) → before ++ given ≡ line ++ held
    → later ≡ held ++ more → before ++ (given ++ more) ≡ line ++ later
read_more before given line held more later is e = sym (append_assoc before given more)
    ∙ ap (λ (l : List ℕ). l ++ more) is ∙ append_assoc line held more
    ∙ ap (λ (l : List ℕ). line ++ l) (sym e)

-- a part of what is held goes to the line
pub part_goes : (line part later held rest : List ℕ) → later ≡ line ++ part
    → held ≡ part ++ rest → line ++ held ≡ later ++ rest
part_goes line part later held rest line_is held_is = ap (λ (l : List ℕ). line ++ l) held_is
    ∙ sym (append_assoc line part rest) ∙ ap (λ (l : List ℕ). l ++ rest) (sym line_is)

-- two lists without line feeds have none together
pub feedless_both : (a b whole : List ℕ) → whole ≡ a ++ b → has_no_feed a ≡ true
    → has_no_feed b ≡ true → has_no_feed whole ≡ true
feedless_both a b whole is x y = ap has_no_feed is
    ∙ list_all-append (λ byte. not (is_feed byte)) a b ∙ and_from (has_no_feed a) (has_no_feed b) x y

-- a stretch that isn't empty has a byte
pub stretch_some : (xs : List ℕ) (from to : ℕ) → from < to → to ≤ length xs
    → drop from (take to xs) ≢ []
stretch_some xs from to low high e =
    absurd (omega (arith, low, high, ap length e, length-drop from (take to xs), length-take to xs))
