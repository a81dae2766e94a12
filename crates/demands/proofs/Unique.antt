-- Any two permitted outcomes are equal: receiving and building are functions, and each promise is an equation with them; and no two answers have
-- the same numbers, since a number says which refusal it is of. Assumes nothing.
use Rattle.std.specs.Prelude.{Result, Ok, Err}
use mathlib.Core.Path.{◌≡◌, refl, sym, ap, ◌∙◌}
use mathlib.Core.Bool.{false}
use mathlib.Core.List.{List}
use Prim.Native.Nat.{ℕ}
use lib.Dec.{eqb}
use Rattle.meaning.specs.Octets.{pick}
use Rattle.meaning.specs.Status.{number}
use Rattle.meaning.specs.Receive.{Received, answer_of, refusal, Outcome, outcome, received}
use Rattle.meaning.specs.Build.{Built, built_of, Construction, construction, built}
use Rattle.meaning.specs.declared.Refusal.{Refusal}
use Rattle.meaning.specs.declared.Refusal.TheVariants.{
  Site,
  Room,
  Length,
  Fcs,
  Malformed,
  Filtered,
  UnsupportedLegacy,
  UnsupportedSecurity,
  UnavailableSecurityLevel,
  ImproperSecurityLevel,
  UnavailableKey,
  ImproperKeyType,
  UnavailableDevice,
  CounterError,
  SecurityError,
  FrameTooLong,
  InvalidParameter,
}
use Rattle.meaning.specs.declared.Accepted.{Accepted}
use Rattle.meaning.specs.declared.Request.{Request}

-- the refusal of a number
refusal-at : ℕ → Refusal
refusal-at n =
    pick (eqb n 1) Site
    (pick (eqb n 2) Room
    (pick (eqb n 3) Length
    (pick (eqb n 4) Fcs
    (pick (eqb n 5) Malformed
    (pick (eqb n 6) Filtered
    (pick (eqb n 7) UnsupportedLegacy
    (pick (eqb n 8) UnsupportedSecurity
    (pick (eqb n 9) UnavailableSecurityLevel
    (pick (eqb n 10) ImproperSecurityLevel
    (pick (eqb n 11) UnavailableKey
    (pick (eqb n 12) ImproperKeyType
    (pick (eqb n 13) UnavailableDevice
    (pick (eqb n 14) CounterError
    (pick (eqb n 15) SecurityError
    (pick (eqb n 16) FrameTooLong
    InvalidParameter)))))))))))))))

number-back : (r : Refusal) → refusal-at (number r) ≡ r
unfolding number refusal-at
number-back Site = refl
number-back Room = refl
number-back Length = refl
number-back Fcs = refl
number-back Malformed = refl
number-back Filtered = refl
number-back UnsupportedLegacy = refl
number-back UnsupportedSecurity = refl
number-back UnavailableSecurityLevel = refl
number-back ImproperSecurityLevel = refl
number-back UnavailableKey = refl
number-back ImproperKeyType = refl
number-back UnavailableDevice = refl
number-back CounterError = refl
number-back SecurityError = refl
number-back FrameTooLong = refl
number-back InvalidParameter = refl

-- no two refusals have one number
pub one-number : (r q : Refusal) → number r ≡ number q → r ≡ q
one-number r q e = sym (number-back r) ∙ (ap refusal-at e ∙ number-back q)

refused-low : (r : Refusal) → eqb (number r) 0 ≡ false
unfolding number
refused-low Site = refl
refused-low Room = refl
refused-low Length = refl
refused-low Fcs = refl
refused-low Malformed = refl
refused-low Filtered = refl
refused-low UnsupportedLegacy = refl
refused-low UnsupportedSecurity = refl
refused-low UnavailableSecurityLevel = refl
refused-low ImproperSecurityLevel = refl
refused-low UnavailableKey = refl
refused-low ImproperKeyType = refl
refused-low UnavailableDevice = refl
refused-low CounterError = refl
refused-low SecurityError = refl
refused-low FrameTooLong = refl
refused-low InvalidParameter = refl

-- the answer of its numbers
answer-at : Received → Result Accepted Refusal
answer-at x =
    pick (eqb x.status 0)
    (Ok (record { header = x.header; level = x.level; keymode = x.keymode; device = x.device; private = x.private; start = x.start; len = x.len }))
    (Err (refusal-at x.status))

answer-back : (r : Result Accepted Refusal) → answer-at (answer_of r) ≡ r
unfolding answer-at refusal
answer-back (Ok a) = refl
answer-back (Err r) = rw (refused-low r, number-back r)

-- no two answers to a frame have the same numbers
pub one-answer : (r q : Result Accepted Refusal) → answer_of r ≡ answer_of q → r ≡ q
one-answer r q e = sym (answer-back r) ∙ (ap answer-at e ∙ answer-back q)

built-at : Built → Result ℕ Refusal
built-at x = pick (eqb x.status 0) (Ok x.len) (Err (refusal-at x.status))

built-back : (r : Result ℕ Refusal) → built-at (built_of r) ≡ r
unfolding built-at
built-back (Ok n) = refl
built-back (Err r) = rw (refused-low r, number-back r)

-- nor two answers to a request
pub one-built : (r q : Result ℕ Refusal) → built_of r ≡ built_of q → r ≡ q
one-built r q e = sym (built-back r) ∙ (ap built-at e ∙ built-back q)

-- the numbers of the answer, the site and the output that receiving leaves
pub one-receiving : (s f o : List ℕ) (a b : Received) (s₁ s₂ o₁ o₂ : List ℕ)
    → outcome a s₁ o₁ ≡ received s f o → outcome b s₂ o₂ ≡ received s f o → (a ≡ b) × (s₁ ≡ s₂) × (o₁ ≡ o₂)
one-receiving s f o a b s₁ s₂ o₁ o₂ p q =
    let e : outcome a s₁ o₁ ≡ outcome b s₂ o₂ = p ∙ sym q in
    (ap (λ (x : Outcome). x.answer) e, ap (λ (x : Outcome). x.site) e, ap (λ (x : Outcome). x.out) e)

-- and that building leaves
pub one-building : (s : List ℕ) (q : Request) (o p out : List ℕ) (a b : Built) (s₁ s₂ o₁ o₂ : List ℕ)
    → construction a s₁ o₁ ≡ built s q o p out → construction b s₂ o₂ ≡ built s q o p out → (a ≡ b) × (s₁ ≡ s₂) × (o₁ ≡ o₂)
one-building s q o p out a b s₁ s₂ o₁ o₂ x y =
    let e : construction a s₁ o₁ ≡ construction b s₂ o₂ = x ∙ sym y in
    (ap (λ (z : Construction). z.answer) e, ap (λ (z : Construction). z.site) e, ap (λ (z : Construction). z.out) e)

-- the same of what the two functions answer
pub one-received : (s f o : List ℕ) (a b : Result Accepted Refusal) (s₁ s₂ o₁ o₂ : List ℕ)
    → outcome (answer_of a) s₁ o₁ ≡ received s f o → outcome (answer_of b) s₂ o₂ ≡ received s f o → (a ≡ b) × (s₁ ≡ s₂) × (o₁ ≡ o₂)
one-received s f o a b s₁ s₂ o₁ o₂ p q =
    let e = one-receiving s f o (answer_of a) (answer_of b) s₁ s₂ o₁ o₂ p q in
    (one-answer a b e.0, e.1, e.2)

pub one-construction : (s : List ℕ) (q : Request) (o p out : List ℕ) (a b : Result ℕ Refusal) (s₁ s₂ o₁ o₂ : List ℕ)
    → construction (built_of a) s₁ o₁ ≡ built s q o p out → construction (built_of b) s₂ o₂ ≡ built s q o p out → (a ≡ b) × (s₁ ≡ s₂) × (o₁ ≡ o₂)
one-construction s q o p out a b s₁ s₂ o₁ o₂ x y =
    let e = one-building s q o p out (built_of a) (built_of b) s₁ s₂ o₁ o₂ x y in
    (one-built a b e.0, e.1, e.2)
