-- The text of a line is read as its words.
use Rattle.std.proofs.Common.{◌≡◌, ℕ, ◌+◌, ◌<◌, ◌≤◌, Bool, true, false, eqb, ltb, List, [], ◌∷◌, ◌++◌, length, take, drop, Option, Some, None, Result, Ok, refl, sym, ap, subst, ◌∙◌, append_assoc, arith}
use Rattle.std.specs.Prelude.{not}
use Rattle.std.specs.List.{AllByRecursion, list_all, prefix_len, join_with_byte, position_or_len}
use Rattle.std.proofs.lemmas.Bool.{ltb-true, lt-ltb, ne_eqb, eq-eqb, and_parts, and_from, not-true}
use Rattle.std.proofs.lemmas.List.{take_at, drop_at, length-append, length-take, get_or-take}
use Rattle.std.proofs.lemmas.List.Elements.{All-from_recursion, All-weaker}
use Rattle.std.proofs.lemmas.List.Folds.{list_all-append}
use Rattle.std.proofs.lemmas.List.Sums.{list_all-from_AllPass, fails_before_first}
use Rattle.std.proofs.lemmas.List.Concat.{flat_map-cons, flat_map-append}
use Rattle.std.proofs.lemmas.List.Splits.{join_with_byte-slice_split}
use Rattle.book_base.specs.declared.fault.TextFault.{TextFault}
use Rattle.text_fields.specs.Lines.{Unread, line_text, text_of, IsSolid, AreSolid, cut_at, line_from, line_at, words_of}
use Rattle.list_laws.proofs.Splits.{Lacks, prefix_len-prefix, slice_split-join_with_byte}
use Rattle.text_fields.proofs.Cuts.{cut_joins, chosen_some}

-- whether a list lacks a byte
abbrev pub lacks : ℕ → List ℕ → Bool
lacks byte bytes = list_all (λ b. not (eqb b byte)) bytes

-- each byte of the word is above the space
abbrev is_solid : List ℕ → Bool
is_solid word = list_all (λ b. ltb 32 b) word

-- each byte of each word is above the space
abbrev Above : List (List ℕ) → Type 0
Above words = AllByRecursion (λ (word : List ℕ). is_solid word ≡ true) words

above_word : (word : List ℕ) → IsSolid word → is_solid word ≡ true
above_word word h =
    list_all-from_AllPass (λ b. ltb 32 b) word (λ k d lt. lt-ltb 32 _ (h.above k d lt))

above_words : (words : List (List ℕ)) → AllByRecursion IsSolid words → Above words
above_words [] h = tt
above_words (w ∷ words) h = (above_word w h.0, above_words words h.1)

lacks-solid : (byte : ℕ) (word : List ℕ) → byte ≤ 32 → is_solid word ≡ true → lacks byte word ≡ true
lacks-solid byte [] le e = refl
lacks-solid byte (b ∷ word) le e =
    let parts = and_parts (ltb 32 b) (is_solid word) e in
    let above : 32 < b = ltb-true 32 b parts.0 in
    let other : eqb b byte ≡ false = ne_eqb b byte (λ same. omega arith) in
    and_from (not (eqb b byte)) (lacks byte word) (ap not other) (lacks-solid byte word le parts.1)

lacks-append : (byte : ℕ) (xs ys : List ℕ) → lacks byte xs ≡ true → lacks byte ys ≡ true
    → lacks byte (xs ++ ys) ≡ true
lacks-append byte xs ys a b =
    list_all-append (λ b. not (eqb b byte)) xs ys ∙ and_from (lacks byte xs) (lacks byte ys) a b

-- a list is cut after a prefix that lacks the byte, where the byte follows
pub cut_prefix : (byte : ℕ) (prefix rest : List ℕ) → lacks byte prefix ≡ true
    → cut_at byte (prefix ++ byte ∷ rest) ≡ Some (prefix, rest)
cut_prefix byte prefix rest h =
    let whole = prefix ++ byte ∷ rest in
    let at : prefix_len (λ b. not (eqb b byte)) whole ≡ length prefix =
    prefix_len-prefix (λ b. not (eqb b byte)) prefix byte rest h (ap not (eq-eqb byte byte refl)) in
    let inside : ltb (length prefix) (length whole) ≡ true =
    lt-ltb _ _ (omega (arith, length-append prefix (byte ∷ rest))) in
    let before : take (length prefix) whole ≡ prefix =
    take_at prefix (byte ∷ rest) (length prefix) refl in
    let suffix : drop (length prefix + 1) whole ≡ rest =
    ap (drop (length prefix + 1)) (sym (append_assoc prefix (byte ∷ []) rest))
    ∙ drop_at (prefix ++ byte ∷ []) rest (length prefix + 1) (length-append prefix (byte ∷ [])) in
    rw (at, inside) cc

-- the part before the first byte of a value is cut off also before other bytes
pub cut_again : (byte : ℕ) (bytes prefix rest other : List ℕ) → cut_at byte bytes
    ≡ Some (prefix, rest) → cut_at byte (prefix ++ byte ∷ other) ≡ Some (prefix, other)
cut_again byte bytes prefix rest other e =
    let p = λ (b : ℕ). eqb b byte in
    let c = chosen_some (ltb (position_or_len p bytes) (length bytes))
    (position_or_len p bytes) bytes (prefix, rest) e in
    let is : take (position_or_len p bytes) bytes ≡ prefix =
    ap (λ (x : List ℕ × List ℕ). x.0) c.1 in
    let clean : list_all (λ b. not (eqb b byte)) (take (position_or_len p bytes) bytes) ≡ true
    = list_all-from_AllPass (λ b. not (eqb b byte))
    (take (position_or_len p bytes) bytes) (λ k d lt.
    let before : k < position_or_len p bytes =
    omega (arith, length-take (position_or_len p bytes) bytes) in
    ap not (ap p (get_or-take (position_or_len p bytes) bytes k d before)
    ∙ fails_before_first p bytes k d before)) in
    cut_prefix byte prefix other
    (subst (λ (x : List ℕ). list_all (λ b. not (eqb b byte)) x ≡ true) is clean)

-- ---- lines

ok_parts : (a b : List ℕ) (s t : Unread)
    → ◌≡◌ {A = Result (List ℕ × Unread) TextFault} (Ok (a, s)) (Ok (b, t)) → (a ≡ b)
    × (s.bytes ≡ t.bytes)
ok_parts a b s t e = let same : ◌≡◌ {A = List ℕ × Unread} (a, s) (b, t) = cc in
    (ap (λ (x : List ℕ × Unread). x.0) same, ap (λ (x : List ℕ × Unread). x.1.bytes) same)

clean_join : (words : List (List ℕ)) → Above words → lacks 10 (join_with_byte 32 words) ≡ true
clean_join [] h = refl
clean_join (w ∷ []) h = lacks-solid 10 w (omega arith) h.0
clean_join (w ∷ v ∷ words) h = lacks-append 10 w (32 ∷ join_with_byte 32 (v ∷ words))
    (lacks-solid 10 w (omega arith) h.0) (clean_join (v ∷ words) h.1)

all_other : (byte : ℕ) (xs : List ℕ) → lacks byte xs ≡ true
    → AllByRecursion (λ b. eqb b byte ≡ false) xs
all_other byte [] h = tt
all_other byte (x ∷ xs) h = let parts = and_parts (not (eqb x byte)) (lacks byte xs) h in
    (not-true (eqb x byte) parts.0, all_other byte xs parts.1)

words_of-join_above : (w : List ℕ) (words : List (List ℕ)) → Above (w ∷ words)
    → words_of (join_with_byte 32 (w ∷ words)) ≡ w ∷ words
words_of-join_above w words h =
    slice_split-join_with_byte 32 w words
    (All-weaker (λ word. is_solid word ≡ true) (Lacks 32) (λ word solid. All-from_recursion
    (λ b. eqb b 32 ≡ false) word (all_other 32 word (lacks-solid 32 word (omega arith) solid)))
    (w ∷ words) (All-from_recursion (λ word. is_solid word ≡ true) (w ∷ words) h))

-- the words of a line that is made of words are these words
pub words_of-join : (words : List (List ℕ)) → AreSolid words
    → words_of (join_with_byte 32 words) ≡ words
words_of-join [] h = absurd (omega (arith, h.some))
words_of-join (w ∷ words) h = words_of-join_above w words (above_words (w ∷ words) h.each)

line_from_takes : (bytes : List ℕ) (number : ℕ) (cut : Option (List ℕ × List ℕ))
    → cut_at 10 bytes ≡ cut → (line : List ℕ) (left : Unread)
    → line_from number cut ≡ Ok (line, left) → bytes ≡ line_text (words_of line) ++ left.bytes
line_from_takes bytes number None is line left e = absurd cc
line_from_takes bytes number (Some parts) is line left e =
    let same : (parts.0 ≡ line) × (parts.1 ≡ left.bytes) =
    ok_parts parts.0 line (record { bytes = parts.1; number = number + 1 }) left e in
    let joined : join_with_byte 32 (words_of line) ≡ line = join_with_byte-slice_split 32 line in
    let whole : bytes ≡ line ++ 10 ∷ left.bytes = cut_joins 10 bytes parts.0 parts.1 is
    ∙ ap (λ (x : List ℕ). x ++ 10 ∷ parts.1) same.0 ∙ ap (λ (x : List ℕ). line ++ 10 ∷ x) same.1 in
    whole ∙ sym (append_assoc line (10 ∷ []) left.bytes)
    ∙ ap (λ (x : List ℕ). (x ++ 10 ∷ []) ++ left.bytes) (sym joined)

-- a text begins with the line that is read from it, and its line feed
pub line_takes : (text : Unread) (line : List ℕ) (left : Unread) → line_at text ≡ Ok (line, left)
    → text.bytes ≡ line_text (words_of line) ++ left.bytes
line_takes text line left e =
    line_from_takes text.bytes text.number (cut_at 10 text.bytes) refl line left e

-- the bytes of a line are cut at its line feed
pub cut_line : (words : List (List ℕ)) (rest : List ℕ) → AreSolid words
    → cut_at 10 (line_text words ++ rest) ≡ Some (join_with_byte 32 words, rest)
cut_line words rest h =
    let parts : line_text words ++ rest ≡ join_with_byte 32 words ++ 10 ∷ rest =
    append_assoc (join_with_byte 32 words) (10 ∷ []) rest in
    ap (cut_at 10) parts
    ∙ cut_prefix 10 (join_with_byte 32 words) rest (clean_join words (above_words words h.each))

-- the text of one line more
pub text_of-cons : (words : List (List ℕ)) (lines : List (List (List ℕ))) (rest : List ℕ)
    → text_of (words ∷ lines) ++ rest ≡ line_text words ++ (text_of lines ++ rest)
text_of-cons words lines rest = ap (λ (x : List ℕ). x ++ rest) (flat_map-cons line_text words lines)
    ∙ append_assoc (line_text words) (text_of lines) rest

-- the text of two lists of lines is that of the first, followed by that of the second
pub text_of-append : (a b : List (List (List ℕ))) (rest : List ℕ)
    → text_of (a ++ b) ++ rest ≡ text_of a ++ (text_of b ++ rest)
text_of-append a b rest = ap (λ (x : List ℕ). x ++ rest) (flat_map-append line_text a b)
    ∙ append_assoc (text_of a) (text_of b) rest
