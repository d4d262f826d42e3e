use Rattle.client_calls.proofs.client.Client.release.Goals as goal

pub invariant_of-result : goal.invariant_of-result
invariant_of-result g c = record { kept = ∣ tt ∣₁ }
