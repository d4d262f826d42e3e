-- What holds of a hunt that command words ask for, or of words that ask for none.
use Rattle.std.specs.Prelude.{ℕ, List}
use Rattle.client_scripts.specs.Drawn.{IsWorkload}
use Rattle.hunts.specs.declared.asked.Asked.{Asked}
use Rattle.hunts.specs.declared.asked.Asked.TheVariants as asks
use Rattle.hunts.specs.declared.asked.NoChange.{NoChange}
use Rattle.hunts.specs.declared.asked.NoChange.TheVariants as no_changes
use Rattle.hunts.specs.declared.setting.Setting.{Setting}
use Rattle.hunts.specs.Asking.{GoesOut}

-- Why words change no settings: this setting goes out of its bounds, or none does.
abbrev pub IsNoChange : List (List ℕ) → NoChange → Type 0
IsNoChange words (no_changes.OutOfBounds setting) = GoesOut setting words
IsNoChange words no_changes.Unknown = (setting : Setting) → ¬ GoesOut setting words

-- The workload of a hunt that is asked for is within the limits of scripts' texts.
abbrev pub AsksForWorkload : Asked → Type 0
AsksForWorkload (asks.Hunt settings shown) = IsWorkload settings.workload
AsksForWorkload (asks.OutOfBounds setting) = Unit {0}
AsksForWorkload asks.Unknown = Unit {0}
