-- Which settings command words change.
use Rattle.std.proofs.Common.{◌≡◌, ◌∙◌, ℕ, ◌<◌, ◌≤◌, ◌^◌, List, [], ◌∷◌, Result, Ok, Err, length, get_or, map, ◌-◌, String, Global, string_bytes, sym, subst, ap, arith}
use Rattle.std.specs.Prelude.{IfOk, IfErr, slice_range}
use Rattle.std.proofs.lemmas.Fmt.{decimal_injective}
use Rattle.std.proofs.lemmas.List.{take_all}
use Rattle.std.proofs.lemmas.Option.{same_Some}
use Rattle.hunts.specs.declared.runs.Settings.{Settings}
use Rattle.hunts.specs.declared.asked.NoChange.{NoChange}
use Rattle.hunts.specs.declared.setting.Setting.{Setting}
use Rattle.hunts.specs.declared.setting.Setting.TheVariants.{Seed, Runs, Callers, Calls, Values}
use Rattle.hunts.specs.Asking.{IsWithin, Gives, changed, Change}

-- a number within a setting's bounds is below 2^64
pub within_word : (setting : Setting) (number : ℕ) → IsWithin setting number → number < 2 ^ 64
within_word Seed number within = omega (arith, within.1)
within_word Runs number within = omega (arith, within.1)
within_word Callers number within = omega (arith, within.1)
within_word Calls number within = omega (arith, within.1)
within_word Values number within = omega (arith, within.1)

-- the texts of words of which the first two are these
pub first_two : (words : List (String Global)) (name digits : String Global) → 2 ≤ length words
    → name ≡ get_or words 0 name → digits ≡ get_or words 1 digits → map string_bytes words
    ≡ string_bytes name ∷ string_bytes digits ∷ map string_bytes (slice_range words 2 (length words))
first_two [] name digits two first second = absurd (omega (arith, two))
first_two (only ∷ []) name digits two first second = absurd (omega (arith, two))
first_two (one ∷ other ∷ words) name digits two first second =
    ap (λ (text : List ℕ). text ∷ string_bytes other ∷ map string_bytes words)
    (ap string_bytes (sym first))
    ∙ ap (λ (text : List ℕ). string_bytes name ∷ text ∷ map string_bytes words)
    (ap string_bytes (sym second))
    ∙ ap (λ (rest : List (String Global)).
    string_bytes name ∷ string_bytes digits ∷ map string_bytes rest)
    (sym (take_all (length (one ∷ other ∷ words) - 2) words (omega arith)))

module _ (before mid : Settings) (texts : List (List ℕ)) (name digits : List ℕ)
    (words : List (List ℕ)) (setting : Setting) (number : ℕ) (same : texts ≡ name ∷ digits ∷ words)
    (gives : Gives name digits setting number) (is : mid ≡ changed setting number before) where
  -- what the words after the first two change, all words change
  all_change : (after : Settings) → Change mid words after → Change before texts after
  all_change after more =
      subst (λ (ws : List (List ℕ)). Change before ws after) (sym same)
      (setting, number, gives, subst (λ (s : Settings). Change s words after) is more)

  -- what all words change, the words after the first two change
  more_change : (after : Settings) → Change before (name ∷ digits ∷ words) after
      → Change mid words after
  more_change after (other, n, given, more) =
      let one : other ≡ setting = same_Some other setting (sym given.0 ∙ gives.0) in
      let equal : n ≡ number = decimal_injective n number (within_word other n given.2)
      (within_word setting number gives.2) (given.1 ∙ sym gives.1) in
      subst (λ (s : Settings). Change s words after) (sym is)
      (subst (λ (s : Setting). Change (changed s number before) words after) one
      (subst (λ (m : ℕ). Change (changed other m before) words after) equal more))

  -- where the words after the first two change the settings, all words do
  pub changed_further : (result : Result Settings NoChange) → IfOk result (Change mid words)
      → IfOk result (Change before texts)
  changed_further (Ok after) more = all_change after more
  changed_further (Err why) more = tt

  -- where the words after the first two change no settings, all words change none
  pub none_further : (result : Result Settings NoChange)
      → IfErr result (λ _. (after : Settings) → ¬ Change mid words after)
      → IfErr result (λ _. (after : Settings) → ¬ Change before texts after)
  none_further (Ok after) none = tt
  none_further (Err why) none = λ after all. none after (more_change after
      (subst (λ (ws : List (List ℕ)). Change before ws after) same all))
