-- Logs: the calls of one caller in a log, and how a log grows.
use Rattle.std.specs.Prelude.{◌≡◌, ℕ, ◌<◌, ◌≤◌, ◌==◌, List, [], ◌∷◌, ◌++◌, map, length, All, ◌⊎◌}
use Rattle.std.specs.List.{filter}
use Rattle.shared_words.specs.declared.entry.Entry.{Entry}

-- The operations of the entries of a caller, in order.
abbrev pub calls_by : ℕ → List Entry → List ℕ
calls_by i log = map (λ e. e.op) (filter (λ e. e.caller == i) log)

-- The log `log` begins with the log `prefix`.
abbrev pub BeginsWith : List Entry → List Entry → Type 0
BeginsWith log prefix = (rest : List Entry) × (log ≡ prefix ++ rest)

-- Each entry of the log is of one of n callers, and no caller has more than `cap` entries.
pub record IsWithinCap (n cap : ℕ) (log : List Entry) : Type 0 where
  pub callers : All (λ e. e.caller < n) log
  pub calls : (i : ℕ) → length (calls_by i log) ≤ cap

-- The entry of a call of caller `i` with the operation `op`.
abbrev pub entry : ℕ → ℕ → Entry
entry i op = record { caller = i; op = op }

-- The log `after` is the log `before` after a call of caller `i` with the operation `op`: it begins
-- with `before`, ends with this call, and has no other new entry of this caller.
pub record IsAfterCall (i op : ℕ) (before after : List Entry) : Type 0 where
  pub between : List Entry
  pub log : after ≡ (before ++ between) ++ entry i op ∷ []
  pub own : calls_by i after ≡ calls_by i before ++ op ∷ []

-- The log `log` is one of two logs, and no shorter than either of them.
pub record IsLonger (one other log : List Entry) : Type 0 where
  pub same : (log ≡ one) ⊎ (log ≡ other)
  pub first : length one ≤ length log
  pub second : length other ≤ length log
