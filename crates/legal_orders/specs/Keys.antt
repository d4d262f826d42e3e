-- Objects of keys: operations on different keys don't touch one another (after Herlihy and Wing
-- 1990, on locality).
use Rattle.std.specs.Prelude.{◌≡◌, ◌≢◌, ℕ, ◌≤◌, List, ◌∷◌, length, Option, None, Some, unwrap_or}
use Rattle.book_base.specs.declared.call.Call.{Call}
use Rattle.book_base.specs.declared.call.Place.{Place}
use Rattle.book_base.specs.Book.{Page, IsValid, operation_of}
use Rattle.book_base.specs.Order.{call_at, step_at}
use Rattle.book_base.specs.Next.{next_call, Continues}
use Rattle.book_base.specs.Pruning.{HasOneOpen, IsForced}

-- An object of keys: each key has its part of a list. An operation on a key sees and changes that
-- key's part alone. An operation on no key changes no key's part, and has the same reply at each
-- list.
pub record IsKeyed (key : ℕ → Option ℕ) (part : ℕ → List ℕ → List ℕ)
    (next : List ℕ → ℕ → List ℕ × ℕ) : Type 0 where
  pub reply : (one other : List ℕ) (op k : ℕ) → key op ≡ Some k → part k one ≡ part k other
      → (next one op).1 ≡ (next other op).1
  pub own : (one other : List ℕ) (op k : ℕ) → key op ≡ Some k → part k one ≡ part k other
      → part k (next one op).0 ≡ part k (next other op).0
  pub others : (list : List ℕ) (op k : ℕ) → key op ≢ Some k → part k (next list op).0 ≡ part k list
  pub unkeyed : (one other : List ℕ) (op : ℕ) → key op ≡ None → (next one op).1 ≡ (next other op).1

-- For an object of keys and a valid book with one open, at a cut after which the forced call has a
-- key: where places continue an order, as many places or fewer that begin with a call on this key
-- continue it too.
abbrev pub ForcedKeyGoesFirst : Type 0
ForcedKeyGoesFirst =
    (key : ℕ → Option ℕ) (part : ℕ → List ℕ → List ℕ) (next : List ℕ → ℕ → List ℕ × ℕ)
    → IsKeyed key part next
    → (book : List Page) (cut list : List ℕ) (forced k : ℕ) (rest : List Place)
    → length book ≤ length cut → IsValid book → HasOneOpen book
    → IsForced book cut forced → key (unwrap_or (operation_of book (next_call cut forced)) 0)
    ≡ Some k → Continues book next cut list rest
    → (place : Place) × (other : List Place) × Continues book next cut list (place ∷ other)
    × (key (step_at book place).0 ≡ Some k)
    × (length (place ∷ other) ≤ length rest)
