-- The decimal digits of a number, and the bytes that a number's text begins with.
use Rattle.std.proofs.Common.{◌≡◌, ◌≢◌, ℕ, zero, suc, ◌^◌, ◌<◌, ◌≤◌, ◌⊎◌, List, [], ◌∷◌, length, get_or, decimal, Result, Ok, Err, OkIff, IfSome, IfNone, IsUtf8, inl, inr, sym, subst, ◌∙◌, arith}
use Rattle.std.specs.Result.{result_ok}
use Rattle.std.specs.Int.{IsInRange}
use Rattle.std.specs.Str.Parse.{AllDigits, digits_value, ParsesUnsigned}
use Rattle.std.proofs.lemmas.Str.Parse.{IsNumeralModel, numerals_by_value, tells_digits, digit_at, parse_plain}
use Rattle.std.proofs.lemmas.Str.{IsUtf8-from_ascii}
use Rattle.std.proofs.lemmas.Fmt.{decimal_digit, first_decimal, decimal_nonempty, digits_decimal, decimal-digits_value, parse-decimal, IsAscii-decimal, decimal_injective}

-- digits in base ten are numerals
pub numerals : IsNumeralModel (AllDigits 10) (digits_value 10)
numerals = numerals_by_value (AllDigits 10) tells_digits

-- each byte of a number's text is a digit
pub decimal_byte : (n i : ℕ) → n < 2 ^ 64 → i < length (decimal n)
    → IsInRange 48 57 (get_or (decimal n) i 0)
decimal_byte n i small inside = digit_at (decimal n) i (digits_decimal numerals n small) inside

-- a word begins as the text of a number may: its first byte is a digit above 0, or it is 0 alone
abbrev pub BeginsAsNumber : List ℕ → Type 0
BeginsAsNumber word = (word ≡ 48 ∷ []) ⊎ IsInRange 49 57 (get_or word 0 0)

-- the text of a number begins as the text of a number may
pub BeginsAsNumber-decimal : (n : ℕ) → n < 2 ^ 64 → BeginsAsNumber (decimal n)
BeginsAsNumber-decimal zero small = inl (decimal_digit 0 (omega arith))
BeginsAsNumber-decimal (suc n) small =
    let first : 48 < get_or (decimal (suc n)) 0 0 = first_decimal (suc n) (omega arith) small in
    let digit = decimal_byte (suc n) 0 small (decimal_nonempty (suc n) small) in
    inr (omega arith, digit.1)

-- a word that begins as a number's text doesn't begin with a plus sign
no_plus : (word : List ℕ) → BeginsAsNumber word → get_or word 0 0 ≢ 43
no_plus word (inl zero_alone) =
    λ plus. let first : get_or word 0 0 ≡ 48 = rw zero_alone in omega arith
no_plus word (inr digit) = λ plus. omega arith

-- a word that begins as a number's text begins with 0 only where nothing follows
single_zero : (word : List ℕ) → BeginsAsNumber word → get_or word 0 0 ≡ 48 → length word ≡ 1
single_zero word (inl zero_alone) _ = rw zero_alone
single_zero word (inr digit) zero_first = absurd (omega arith)

-- where a word that begins as a number's text is read as a number, it is this number's text
pub IfSome-parsed : {E : Type 0} (word : List ℕ) (r : Result ℕ E) → BeginsAsNumber word
    → ParsesUnsigned 64 10 word r → IfSome (result_ok r) (λ n. decimal n ≡ word)
IfSome-parsed {E} word (Ok n) begins parses =
    let plain : OkIff {E = E} (Ok n)
    (AllDigits 10 word × (0 < length word) × (digits_value 10 word < 2 ^ 64))
    (digits_value 10 word) =
    parse_plain numerals {E = E} 64 word (Ok n) parses (no_plus word begins) in
    rw plain.1
    (decimal-digits_value numerals word plain.0.0 plain.0.1 (single_zero word begins) plain.0.2)
IfSome-parsed word (Err e) begins parses = tt

-- a word that isn't read as a number is the text of no number below 2 ^ 64
pub IfNone-parsed : {E : Type 0} (word : List ℕ) (r : Result ℕ E) → ParsesUnsigned 64 10 word r
    → IfNone (result_ok r) ((n : ℕ) → n < 2 ^ 64 → decimal n ≢ word)
IfNone-parsed word (Ok n) parses = tt
IfNone-parsed word (Err e) parses =
    λ n small same. let gives : Err e ≡ Ok n =
    parse-decimal 64 n word (Err e) small small (sym same) parses in cc

-- bytes that aren't UTF-8 are no number's text
pub decimal-other_bytes : (word : List ℕ) → ¬ (IsUtf8 word) → (n : ℕ) → n < 2 ^ 64
    → decimal n ≢ word
decimal-other_bytes word other n small same =
    other (subst IsUtf8 same (IsUtf8-from_ascii (decimal n) (IsAscii-decimal n small)))

-- the text of a number that isn't below a bound is the text of no number below the bound
pub IfNone-narrowed : {E : Type 0} (word : List ℕ) (m bound : ℕ) (r : Result ℕ E) → bound ≤ 2 ^ 64
    → m < 2 ^ 64 → decimal m ≡ word → OkIff r (m < bound) m
    → IfNone (result_ok r) ((n : ℕ) → n < bound → decimal n ≢ word)
IfNone-narrowed word m bound (Ok n) limit small text narrow = tt
IfNone-narrowed word m bound (Err e) limit small text narrow = λ n below same.
    let one : n ≡ m = decimal_injective n m (omega arith) small (same ∙ sym text) in
    narrow (subst (λ k. k < bound) one below)
