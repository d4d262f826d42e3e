-- The tools of a pass: what it needs besides its seat of the log.
use Rattle.std.specs.Prelude.{◌≡◌, ℕ, ◌*◌, ◌≤◌, [], vec_len, vec_capacity}
use Rattle.test_objects.specs.declared.log_pass.Tools.{Tools}
use Rattle.test_objects.specs.Scratches.{HasCapacity}

-- The tools of a new pass: no pair yet, with capacity for `cap` pairs, one for each call of the
-- pass's own caller; and a scratch for logs of n callers with `cap` calls each.
pub record AreReady (n cap : ℕ) (t : Tools) : Type 0 where
  pub pairs : t.pairs.items ≡ []
  pub room : cap ≤ vec_capacity t.pairs
  pub scratch : HasCapacity (n * cap) t.scratch
  pub waiting : vec_len t.scratch.waiting ≡ n
