-- Which settings of a hunt command words change, and in which form its catch is to be shown.
use Rattle.std.specs.Prelude.{◌≡◌, ◌≢◌, ℕ, ◌≤◌, ◌⊎◌, List, [], ◌∷◌, Option, Some, None, codes, decimal, unwrap_or, if◌then◌else◌}
use Rattle.std.specs.Option.{is_some}
use Rattle.std.specs.Str.{bytes_eq}
use Rattle.text_fields.specs.declared.TheConstants.{TEXT_CALLERS, TEXT_CALLS}
use Rattle.hunts.specs.declared.runs.Settings.{Settings}
use Rattle.hunts.specs.declared.shown.Shown.{Shown}
use Rattle.hunts.specs.declared.shown.Shown.TheVariants.{Smaller, Report, Picture, Finding}
use Rattle.hunts.specs.declared.setting.Setting.{Setting}
use Rattle.hunts.specs.declared.setting.Setting.TheVariants.{Seed, Runs, Callers, Calls, Values}
use Rattle.hunts.specs.declared.asked.Asked.{Asked}
use Rattle.hunts.specs.declared.asked.Asked.TheVariants.{Hunt, OutOfBounds, Unknown}

-- The value of the first row of a table that has this word, where one has it.
abbrev pub named_in : {X : Type 0} → List (List ℕ × X) → List ℕ → Option X
named_in [] word = None
named_in (row ∷ rows) word = if bytes_eq word row.0 then Some row.1 else named_in rows word

-- the form of a catch that a word asks for
unfoldable pub shown_named : List ℕ → Option Shown
shown_named word =
    named_in ((codes "report", Report) ∷ (codes "picture", Picture) ∷ (codes "finding", Finding)
    ∷ []) word

-- the setting that a word names
unfoldable pub setting_named : List ℕ → Option Setting
setting_named word =
    named_in ((codes "seed", Seed) ∷ (codes "runs", Runs) ∷ (codes "callers", Callers)
    ∷ (codes "calls", Calls) ∷ (codes "values", Values) ∷ []) word

-- The least number that a setting can have.
abbrev pub least : Setting → ℕ
least Seed = 0
least Runs = 1
least Callers = 1
least Calls = 1
least Values = 1

-- The greatest number that a setting can have.
abbrev pub most : Setting → ℕ
most Seed = 18446744073709551615
most Runs = 18446744073709551615
most Callers = TEXT_CALLERS
most Calls = TEXT_CALLS
most Values = 4294967295

-- A number is within the bounds of a setting.
abbrev pub IsWithin : Setting → ℕ → Type 0
IsWithin setting number = (least setting ≤ number) × (number ≤ most setting)

-- The settings of a hunt with this number in place of one of them.
abbrev pub changed : Setting → ℕ → Settings → Settings
changed Seed number s = record s { seed = number }
changed Runs number s = record s { runs = number }
changed Callers number s = record s { workload = record s.workload { callers = number } }
changed Calls number s = record s { workload = record s.workload { calls = number } }
changed Values number s = record s { workload = record s.workload { values = number } }

-- Two words give a setting a number: its name, and the decimal digits of a number within its bounds.
abbrev pub Gives : List ℕ → List ℕ → Setting → ℕ → Type 0
Gives name digits setting number =
    (setting_named name ≡ Some setting) × (decimal number ≡ digits) × IsWithin setting number

-- Command words change some settings to others, by two words for each change.
abbrev pub Change : Settings → List (List ℕ) → Settings → Type 0
Change before [] after = after ≡ before
Change before (name ∷ []) after = ⊥
Change before (name ∷ digits ∷ words) after = (setting : Setting) × (number : ℕ)
    × Gives name digits setting number × Change (changed setting number before) words after

-- Command words give settings numbers up to the name of this setting, after which no decimal digits
-- of a number within its bounds stand.
abbrev pub GoesOut : Setting → List (List ℕ) → Type 0
GoesOut setting [] = ⊥
GoesOut setting (name ∷ []) = ⊥
GoesOut setting (name ∷ digits ∷ words) = ((setting_named name ≡ Some setting)
    × ((number : ℕ) → IsWithin setting number → decimal number ≢ digits))
    ⊎ ((other : Setting) × (number : ℕ) × Gives name digits other number × GoesOut setting words)

-- The form of a catch that command words ask for: by their first word, and else the smaller
-- witness.
abbrev pub shown_of : List (List ℕ) → Shown
shown_of [] = Smaller
shown_of (word ∷ words) = unwrap_or (shown_named word) Smaller

-- The command words after the one that asks for a form, where one does.
abbrev pub settings_in : List (List ℕ) → List (List ℕ)
settings_in [] = []
settings_in (word ∷ words) = if is_some (shown_named word) then words else word ∷ words

-- What command words ask for, where the settings are these unless words change them: a hunt with
-- changed settings; or none, and then the setting is told that goes out of its bounds, if one does.
abbrev pub IsAsked : Settings → List (List ℕ) → Asked → Type 0
IsAsked usual words (Hunt settings shown) =
    Change usual (settings_in words) settings × (shown ≡ shown_of words)
IsAsked usual words (OutOfBounds setting) =
    ((settings : Settings) → ¬ Change usual (settings_in words) settings)
    × GoesOut setting (settings_in words)
IsAsked usual words Unknown = ((settings : Settings) → ¬ Change usual (settings_in words) settings)
    × ((setting : Setting) → ¬ GoesOut setting (settings_in words))

-- What is written of a setting that goes out of its bounds.
abbrev pub bounds_text : Setting → List ℕ
bounds_text Seed = codes "seed is a number from 0 to 18446744073709551615\n"
bounds_text Runs = codes "runs is a number from 1 to 18446744073709551615\n"
bounds_text Callers = codes "callers is a number from 1 to 16\n"
bounds_text Calls = codes "calls is a number from 1 to 256\n"
bounds_text Values = codes "values is a number from 1 to 4294967295\n"

-- What is written where command words ask for nothing.
abbrev pub usage_text : List ℕ
usage_text =
    codes "usage: [report | picture | finding] [seed N] [runs N] [callers N] [calls N] [values N]\n"
