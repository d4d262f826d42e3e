-- Which operations are known to overwrite.
use Rattle.std.proofs.Common.{◌≡◌, ℕ, Bool, true, false, List, Option, Some, None, refl}
use Rattle.std.specs.Prelude.{IsTrue}
use Rattle.seq_objects.specs.declared.kind.Kind.{Kind}
use Rattle.seq_objects.specs.declared.kind.Kind.TheVariants as kinds
use Rattle.seq_objects.specs.declared.register.RegisterOperation.{RegisterOperation}
use Rattle.seq_objects.specs.declared.register.RegisterOperation.TheVariants as register
use Rattle.seq_objects.specs.declared.cas_register.CasRegisterOperation.{CasRegisterOperation}
use Rattle.seq_objects.specs.declared.cas_register.CasRegisterOperation.TheVariants as cas_register
use Rattle.seq_objects.specs.RegisterSteps.{register_operation, register_after}
use Rattle.seq_objects.specs.CasRegisterSteps.{cas_register_operation, cas_register_after}
use Rattle.seq_objects.specs.Objects.{kind_next}
use Rattle.late_residue.specs.Placing.{Overwrites}

-- an operation of a register is a write
abbrev pub is_register_write : Option RegisterOperation → Bool
is_register_write (Some (register.Write value)) = true
is_register_write (Some register.Read) = false
is_register_write None = false

-- an operation of a register with compare-and-set is a write
abbrev pub is_cas_register_write : Option CasRegisterOperation → Bool
is_cas_register_write (Some (cas_register.Write value)) = true
is_cas_register_write (Some cas_register.Read) = false
is_cas_register_write (Some (cas_register.CompareAndSet expected new)) = false
is_cas_register_write None = false

-- The operations of a kind that are known to overwrite: the writes of registers.
unfoldable pub kind_writes : Kind → ℕ → Bool
kind_writes kinds.Queue op = false
kind_writes kinds.Stack op = false
kind_writes kinds.Register op = is_register_write (register_operation op)
kind_writes kinds.Counter op = false
kind_writes kinds.IntSet op = false
kind_writes kinds.Pqueue op = false
kind_writes kinds.CasRegister op = is_cas_register_write (cas_register_operation op)
kind_writes kinds.Map op = false

not_written : {X : Type 0} → IsTrue false → X
not_written holds = cc

register_overwrites : (o : Option RegisterOperation) (one other : List ℕ)
    → IsTrue (is_register_write o) → register_after one o ≡ register_after other o
register_overwrites (Some (register.Write value)) one other holds = refl
register_overwrites (Some register.Read) one other holds = not_written holds
register_overwrites None one other holds = not_written holds

cas_register_overwrites : (o : Option CasRegisterOperation) (one other : List ℕ)
    → IsTrue (is_cas_register_write o) → cas_register_after one o ≡ cas_register_after other o
cas_register_overwrites (Some (cas_register.Write value)) one other holds = refl
cas_register_overwrites (Some cas_register.Read) one other holds = not_written holds
cas_register_overwrites (Some (cas_register.CompareAndSet expected new)) one other holds =
    not_written holds
cas_register_overwrites None one other holds = not_written holds

-- What is known to overwrite does so.
pub kind_writes-overwrite : (kind : Kind) (op : ℕ) → IsTrue (kind_writes kind op)
    → Overwrites (kind_next kind) op
unfolding kind_writes kind_next
kind_writes-overwrite kinds.Queue op holds one other = not_written holds
kind_writes-overwrite kinds.Stack op holds one other = not_written holds
kind_writes-overwrite kinds.Register op holds one other =
    register_overwrites (register_operation op) one other holds
kind_writes-overwrite kinds.Counter op holds one other = not_written holds
kind_writes-overwrite kinds.IntSet op holds one other = not_written holds
kind_writes-overwrite kinds.Pqueue op holds one other = not_written holds
kind_writes-overwrite kinds.CasRegister op holds one other =
    cas_register_overwrites (cas_register_operation op) one other holds
kind_writes-overwrite kinds.Map op holds one other = not_written holds
