-- Lemmas on the arguments of commands.
use Rattle.std.proofs.Common.{◌≡◌, ◌≢◌, ◌&&◌, ◌<◌, ◌≤◌, ◌^◌, ◌∷◌, ℕ, Bool, true, false, List, [], Option, Some, None, find, decimal, nat_le, if◌then◌else◌, refl, sym, ap, ◌∙◌, subst, arith}
use Rattle.std.specs.Prelude.{IfSome, IfNone}
use Rattle.std.specs.Str.{bytes_eq}
use Rattle.std.specs.Str.Parse.{AllDigits, digits_value}
use Rattle.std.proofs.lemmas.Fmt.{decimal_is_IsNumeral, decimal_injective}
use Rattle.std.proofs.lemmas.Str.Parse.{digit_from_value}
use Rattle.std.proofs.lemmas.Slice.Eq.{bytes_eq-Decides}
use Rattle.std.proofs.lemmas.Bool.{leb-true, le-leb}
use Rattle.test_objects.specs.declared.behaviour.Behaviour.{Behaviour}
use Rattle.test_objects.specs.declared.behaviour.Behaviour.TheVariants.{Lawful, Tally, Cell, Lossy, Twice, Late, Invent, Split, Onepass}
use Rattle.test_objects.specs.Names.{behaviour_name}
use Rattle.selfcheck.specs.Arguments.{behaviours, behaviour_named, soak_number}

-- ---- behaviours

-- a behaviour that is found by a name among some has this name
found_has_name : (all : List Behaviour) (name : List ℕ) (behaviour : Behaviour)
    → find (λ (b : Behaviour). bytes_eq (behaviour_name b) name) all ≡ Some behaviour
    → behaviour_name behaviour ≡ name
found_has_name [] name behaviour e = cc
found_has_name (b ∷ all) name behaviour e = here (found_has_name all name behaviour)
    (bytes_eq (behaviour_name b) name) (bytes_eq-Decides (behaviour_name b) name).0 e
  where
    here : (find (λ (b : Behaviour). bytes_eq (behaviour_name b) name) all ≡ Some behaviour
        → behaviour_name behaviour ≡ name) → (test : Bool)
        → (test ≡ true → behaviour_name b ≡ name)
        → (if test then Some b else find (λ (b : Behaviour). bytes_eq (behaviour_name b) name) all)
        ≡ Some behaviour
        → behaviour_name behaviour ≡ name
    here later true same e = let one : b ≡ behaviour = cc in ap behaviour_name (sym one) ∙ same refl
    here later false same e = later e

pub behaviour_named-is : (name : List ℕ) (behaviour : Behaviour)
    → behaviour_named name ≡ Some behaviour → behaviour_name behaviour ≡ name
unfolding behaviour_named
behaviour_named-is name behaviour e = found_has_name behaviours name behaviour e

pub behaviour_named-from : (behaviour : Behaviour)
    → behaviour_named (behaviour_name behaviour) ≡ Some behaviour
unfolding behaviour_named behaviour_name
behaviour_named-from Lawful = refl
behaviour_named-from Tally = refl
behaviour_named-from Cell = refl
behaviour_named-from Lossy = refl
behaviour_named-from Twice = refl
behaviour_named-from Late = refl
behaviour_named-from Invent = refl
behaviour_named-from Split = refl
behaviour_named-from Onepass = refl

-- no name of a behaviour begins with a hyphen
pub behaviour_named-hyphen : (bytes : List ℕ) → behaviour_named (45 ∷ bytes) ≡ None
unfolding behaviour_named behaviour_name
behaviour_named-hyphen bytes = refl

-- what a reader of names answers is the behaviour with the name
pub behaviour_read : (name : List ℕ) (read : Option Behaviour)
    → IfSome read (λ b. behaviour_name b ≡ name)
    → IfNone read ((b : Behaviour) → behaviour_name b ≢ name)
    → read ≡ behaviour_named name
behaviour_read name (Some behaviour) found none =
    sym (ap behaviour_named (sym found) ∙ behaviour_named-from behaviour)
behaviour_read name None found none = here (behaviour_named name) refl
  where
    here : (named : Option Behaviour) → behaviour_named name ≡ named
        → ◌≡◌ {A = Option Behaviour} None (behaviour_named name)
    here None e = sym e
    here (Some behaviour) e = absurd (none behaviour (behaviour_named-is name behaviour e))

-- ---- numbers

-- where a choice by two tests answers a number, both tests hold and the number is the one chosen
chosen : (a b : Bool) (n number : ℕ) → (if a && b then Some n else None) ≡ Some number → (a ≡ true)
    × (b ≡ true) × (n ≡ number)
chosen true true n number e = (refl, refl, cc)
chosen true false n number e = cc
chosen false b n number e = cc

pub soak_number-is : (word : List ℕ) (number : ℕ) → soak_number word ≡ Some number
    → (decimal number ≡ word) × (number ≤ 4294967295)
unfolding soak_number
soak_number-is word number e =
    let parts = chosen (bytes_eq (decimal (digits_value 10 word)) word)
    (nat_le (digits_value 10 word) 4294967295) (digits_value 10 word) number e in (
      ap decimal (sym parts.2) ∙ (bytes_eq-Decides (decimal (digits_value 10 word)) word).0 parts.0,
      subst (λ (n : ℕ). n ≤ 4294967295) parts.2
          (leb-true (digits_value 10 word) 4294967295 parts.1),
    )

pub soak_number-from : (number : ℕ) → number ≤ 4294967295
    → soak_number (decimal number) ≡ Some number
unfolding soak_number
soak_number-from number few =
    let value : digits_value 10 (decimal number) ≡ number =
    (decimal_is_IsNumeral number (omega (arith, few))).1 in
    let spelled : bytes_eq (decimal (digits_value 10 (decimal number))) (decimal number) ≡ true =
    (bytes_eq-Decides (decimal (digits_value 10 (decimal number))) (decimal number)).1
    (ap decimal value) in
    let most : nat_le (digits_value 10 (decimal number)) 4294967295 ≡ true =
    le-leb (digits_value 10 (decimal number)) 4294967295
    (subst (λ (n : ℕ). n ≤ 4294967295) (sym value) few) in
    ap (λ (test : Bool). if test && nat_le (digits_value 10 (decimal number)) 4294967295
    then Some (digits_value 10 (decimal number)) else None) spelled
    ∙ ap (λ (test : Bool). if test then Some (digits_value 10 (decimal number)) else None) most
    ∙ ap (λ (n : ℕ). Some n) value

-- no number begins with a hyphen
pub soak_number-hyphen : (bytes : List ℕ) → soak_number (45 ∷ bytes) ≡ None
soak_number-hyphen bytes = here (soak_number (45 ∷ bytes)) refl
  where
    here : (named : Option ℕ) → soak_number (45 ∷ bytes) ≡ named → soak_number (45 ∷ bytes) ≡ None
    here None e = e
    here (Some number) e =
        let is = soak_number-is (45 ∷ bytes) number e in
        let numeral = (decimal_is_IsNumeral number (omega (arith, is.1))).0 in
        absurd (omega (arith, digit_from_value 45 (subst (AllDigits 10) is.0 numeral.1).0))

-- what a reader of numbers below 2^64 answers, where the number is one of a soak
pub soak_read : (word : List ℕ) (read : Option ℕ)
    → IfSome read (λ n. (decimal n ≡ word) × (n ≤ 4294967295))
    → IfNone read ((n : ℕ) → n ≤ 4294967295 → decimal n ≢ word) → read ≡ soak_number word
soak_read word (Some number) found none =
    sym (ap soak_number (sym found.0) ∙ soak_number-from number found.1)
soak_read word None found none = here (soak_number word) refl
  where
    here : (named : Option ℕ) → soak_number word ≡ named
        → ◌≡◌ {A = Option ℕ} None (soak_number word)
    here None e = sym e
    here (Some number) e = let is = soak_number-is word number e in absurd (none number is.1 is.0)

-- a number that is too great is none of a soak
pub soak_too_great : (word : List ℕ) (number : ℕ) → decimal number ≡ word → number < 2 ^ 64
    → 4294967295 < number → None ≡ soak_number word
soak_too_great word number spells small great =
    soak_read word None tt (λ n few same. let one : n ≡ number = decimal_injective n number
    (omega (arith, few)) small (same ∙ sym spells) in omega (arith, one, few, great))
