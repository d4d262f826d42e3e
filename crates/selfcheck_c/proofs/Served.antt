-- What replies to a request to go on.
use Rattle.std.proofs.Common.{◌≡◌, ℕ, Option, inl, inr, refl}
use Rattle.model_checks.specs.declared.answer.ModelAnswer.{ModelAnswer}
use Rattle.model_checks.specs.declared.request.ModelRequest.TheVariants.{GoOn}
use Rattle.model_checks.specs.declared.request.ModelReply.{ModelReply}
use Rattle.model_checks.specs.declared.request.ModelReply.TheVariants.{Done, Unfit, Contradicts, LeavesNot, NoMemory, Said}
use Rattle.call_handles.specs.declared.handle.Handle.{Handle}
use Rattle.call_handles.specs.Slots.{HasServed}

-- A reply that says nothing tells of want of memory.
pub unsaid : (steps : ℕ) (reply : ModelReply) (before after : Option Handle)
    → HasServed (GoOn steps) reply before after → ((said : ModelAnswer) → reply ≡ Said said → ⊥)
    → HasServed (GoOn steps) NoMemory before after
unsaid steps NoMemory before after h not = h
unsaid steps (Said said) before after h not = absurd (not said refl)
unsaid steps Done before after (inl h) not = absurd h.4
unsaid steps Done before after (inr h) not = absurd h.5.3
unsaid steps Unfit before after (inl h) not = absurd h.4
unsaid steps Unfit before after (inr h) not = absurd h.5.3
unsaid steps Contradicts before after (inl h) not = absurd h.4
unsaid steps Contradicts before after (inr h) not = absurd h.5.3
unsaid steps LeavesNot before after (inl h) not = absurd h.4
unsaid steps LeavesNot before after (inr h) not = absurd h.5.3
