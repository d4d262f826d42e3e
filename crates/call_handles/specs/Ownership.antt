-- What the pointer by which a program in another language holds a handle points to.
use Rattle.std.specs.Prelude.{Option, Some, None}
use Rattle.std.specs.Coded.{Coded, coded_option}
use base.Fml.{Fml, ftrue, fsep, fex}
use denote.RawPtr.{Ptr}
use Rattle.std_heap.specs.contracts.GlobalAllocator.TheImpl.{ghosts}
use Rattle.std_heap.specs.declared.Global.{Global}
use Rattle.std_alloc.specs.Box.Ownership.{box_owns}
use Rattle.call_handles.specs.declared.handle.Handle.{Handle}
use Rattle.call_handles.specs.contracts.handle.Handle.{the_row}
use Rattle.call_handles.specs.Handles.{IsSound}

-- How the logic encodes a handle, or none.
abbrev pub coded_handle : Coded (Option Handle)
coded_handle = coded_option the_row.coded

-- The pointer is to a box with this handle, which is sound. Where there is no handle, nothing is
-- claimed of the pointer.
abbrev pub held_at : Ptr → Option Handle → Fml
held_at p None = ftrue
held_at p (Some h) = fsep (fex Global (λ heap. box_owns (ghosts.dealloc_token heap) the_row p h))
    (fex (IsSound h) (λ _. ftrue))
