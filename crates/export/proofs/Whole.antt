-- What a callee did, told as the boundary tells it. Assumes nothing.
use Rattle.std.proofs.Common.{◌≡◌, refl, ap, ◌∙◌, List, ℕ, ◌+◌, ◌*◌, ◌≤◌, length, Result, Ok, Err}
use Rattle.std.proofs.lemmas.List.Edits.{sets}
use Rattle.std.specs.Result.{result_unwrap_or}
use Rattle.meaning.specs.Status.{status}
use Rattle.meaning.specs.Receive.{Outcome, refusal, answer_of, outcome, received}
use Rattle.meaning.specs.declared.Accepted.{Accepted}
use Rattle.meaning.specs.declared.Refusal.{Refusal}
use Rattle.meaning.specs.Build.{built_of, construction, built}
use Rattle.meaning.specs.declared.Request.{Request}
use Rattle.meaning.proofs.Tests.{off-lt}
use Rattle.export.specs.Packed.{packed, request_from}
use Rattle.export.specs.Boundary.{exchange, told, received_by, delivery, delivered, built_by}

-- the number of an answer
pub told-status : (r : Result Accepted Refusal) → status r ≡ (answer_of r).status
unfolding refusal
told-status (Ok a) = refl
told-status (Err r) = refl

pub received-is : (r : Result Accepted Refusal) (n : ℕ) (s' o' a' s f o a : List ℕ)
    → 48 ≤ length a → outcome (answer_of r) s' o' ≡ received s f o → a' ≡ sets a 0 (packed (answer_of r)) → n ≡ status r
    → exchange n s' o' a' ≡ received_by s f o a
unfolding received_by told
received-is r n s' o' a' s f o a h e w d =
    off-lt (length a) 48 (exchange 2 s o a) (told (received s f o) a) (exchange n s' o' a') h
    (ap (λ (i : ℕ). exchange i s' o' a') (d ∙ told-status r)
    ∙ ap (λ (x : List ℕ). exchange (answer_of r).status s' o' x) w
    ∙ ap (λ (u : Outcome). told u a) e)

-- status and length of what building answers
pub told-numbers : (r : Result ℕ Refusal) → status r + 256 * result_unwrap_or r 0 ≡ (built_of r).status + 256 * (built_of r).len
told-numbers (Ok n) = refl
told-numbers (Err r) = refl

pub built-is : (r : Result ℕ Refusal) (n m : ℕ) (s' out' s i o p out : List ℕ) (q : Request)
    → q ≡ request_from i → construction (built_of r) s' out' ≡ built s q o p out → n ≡ status r → m ≡ result_unwrap_or r 0
    → delivery (n + 256 * m) s' out' ≡ built_by s i o p out
unfolding built_by delivered
built-is r n m s' out' s i o p out q h e c d =
    rw (c, d, told-numbers r) (ap delivered e ∙ ap (λ (x : Request). delivered (built s x o p out)) h)
