-- Receiving many frames: what one turn of the loop does. Assumes nothing.
-- A frame takes at least an octet, so as many turns as there are octets are enough, and one more changes nothing.
use Rattle.std.proofs.Common.{◌≡◌, refl, sym, ap, ◌∙◌, Bool, true, false, List, [], ◌∷◌, ℕ, zero, suc, ◌+◌, ◌≤◌, ◌<◌, length, take, drop, ltb, Result, Ok, Err, arith, add-zero, length-drop}
use Rattle.std.proofs.lemmas.List.{nil_from_length}
use Rattle.std.specs.Result.{is_ok}
use mir.Val.{bool_byte}
use borrow.Author.Tests.{lt-ltb, le-ltb}
use Rattle.meaning.specs.Octets.{pick}
use Rattle.meaning.specs.Status.{number}
use Rattle.meaning.specs.Receive.{Outcome, outcome, refusal, answer_of, received_valid}
use Rattle.meaning.specs.declared.Accepted.{Accepted}
use Rattle.meaning.specs.declared.Refusal.{Refusal}
use Rattle.meaning.specs.declared.Refusal.TheVariants.{
  Site,
  Room,
  Length,
  Fcs,
  Malformed,
  Filtered,
  UnsupportedLegacy,
  UnsupportedSecurity,
  UnavailableSecurityLevel,
  ImproperSecurityLevel,
  UnavailableKey,
  ImproperKeyType,
  UnavailableDevice,
  CounterError,
  SecurityError,
  FrameTooLong,
  InvalidParameter,
}
use Rattle.export.specs.Boundary.{Tally, tally, counted, many_by, many}

-- one turn more
more : (k n : ℕ) (s o l : List ℕ) → length l ≤ k → many_by k n s o l ≡ many_by (suc k) n s o l
unfolding many_by
more zero n s o [] h = refl
more zero n s o (x ∷ l) h = absurd (omega arith)
more (suc k) n s o [] h = refl
more (suc k) n s o (x ∷ l) h =
    ap (λ (t : Tally). pick (ltb (length l) x) (tally n s o) t) (more k _ _ _ (drop x l) (omega (arith, length-drop x l)))

-- a frame of x octets, then l
step : (k n x : ℕ) (s o l : List ℕ) (w : Outcome) → x ≤ length l → length l ≤ k → w ≡ received_valid s (take x l) o
    → many_by (suc k) n s o (x ∷ l) ≡ many_by (suc k) (counted n w.answer.status) w.site w.out (drop x l)
unfolding many_by
step k n x s o l w h g e =
    rw (e, le-ltb (length l) x h) (more k _ _ _ (drop x l) (omega (arith, length-drop x l)))

turn : (k n x : ℕ) (s o d l : List ℕ) (w : Outcome) → d ≡ x ∷ l → x ≤ length l → length l < k → w ≡ received_valid s (take x l) o
    → many_by k n s o d ≡ many_by k (counted n w.answer.status) w.site w.out (drop x l)
turn zero n x s o d l w c h g e = absurd (omega arith)
turn (suc k) n x s o d l w c h g e = rw c (step k n x s o l w h (omega arith) e)

cut : (k n x : ℕ) (s o d l : List ℕ) → d ≡ x ∷ l → length l < x → many_by k n s o d ≡ tally n s o
unfolding many_by
cut zero n x s o d l c h = refl
cut (suc k) n x s o d l c h = rw (c, lt-ltb (length l) x h)

ended : (k n : ℕ) (s o d : List ℕ) → d ≡ [] → many_by k n s o d ≡ tally n s o
unfolding many_by
ended zero n s o d c = refl
ended (suc k) n s o d c = rw c

bit : (b : Bool) → bool_byte b ≤ 1
bit true = omega arith
bit false = omega arith

-- what holds before each turn: n frames were accepted, and the rest l is received on what they left
pub record Run (s₀ o₀ f : List ℕ) (n : ℕ) (s o l : List ℕ) : Type 0 where
  pub few : n + length l ≤ length f
  pub same : many s₀ f o₀ ≡ many_by (length f) n s o l

pub run-none : (s o f : List ℕ) → Run s o f 0 s o f
unfolding many
run-none s o f = record { few = omega arith; same = refl }

-- a refusal's number is none that counts
no-count : (n : ℕ) (r : Refusal) → counted n (number r) ≡ n
unfolding counted number
no-count n r =
    elim r as (λ r. counted n (number r) ≡ n) [
      | Site ↦ refl
      | Room ↦ refl
      | Length ↦ refl
      | Fcs ↦ refl
      | Malformed ↦ refl
      | Filtered ↦ refl
      | UnsupportedLegacy ↦ refl
      | UnsupportedSecurity ↦ refl
      | UnavailableSecurityLevel ↦ refl
      | ImproperSecurityLevel ↦ refl
      | UnavailableKey ↦ refl
      | ImproperKeyType ↦ refl
      | UnavailableDevice ↦ refl
      | CounterError ↦ refl
      | SecurityError ↦ refl
      | FrameTooLong ↦ refl
      | InvalidParameter ↦ refl
    ]

-- a success counts one
counted-ok : (n : ℕ) (a : Result Accepted Refusal) → counted n (answer_of a).status ≡ n + bool_byte (is_ok a)
unfolding refusal counted
counted-ok n (Ok a) = refl
counted-ok n (Err r) = rw add-zero (no-count n r)

module _ (s₀ o₀ f : List ℕ) (n : ℕ) (s o l : List ℕ) (r : Run s₀ o₀ f n s o l) where
  pub run-end : length l ≡ 0 → tally n s o ≡ many s₀ f o₀
  run-end h = sym (r.same ∙ ended (length f) n s o l (nil_from_length l h))

  module _ (x y : ℕ) (k : List ℕ) (e : l ≡ x ∷ k) (d : y ≡ x) where
    front : l ≡ y ∷ k
    front = e ∙ ap (λ (z : ℕ). z ∷ k) (sym d)

    pub run-cut : length k < y → tally n s o ≡ many s₀ f o₀
    run-cut h = sym (r.same ∙ cut (length f) n y s o l k front h)

    pub run-more : (b : Bool) (m : ℕ) (a : Result Accepted Refusal) (p q s' o' : List ℕ) → y ≤ length k → p ≡ take y k → q ≡ drop y k
        → outcome (answer_of a) s' o' ≡ received_valid s p o → b ≡ is_ok a → m ≡ bool_byte b → Run s₀ o₀ f (n + m) s' o' q
    run-more b m a p q s' o' h t u w i j =
        let g : outcome (answer_of a) s' o' ≡ received_valid s (take y k) o = w ∙ ap (λ (z : List ℕ). received_valid s z o) t in
        let c : counted n (answer_of a).status ≡ n + m = counted-ok n a ∙ ap (λ (z : Bool). n + bool_byte z) (sym i) ∙ ap (λ (z : ℕ). n + z) (sym j) in
        let v : m ≤ 1 = rw j (bit b) in
        record {
          few = omega (arith, ap length e, ap length u, length-drop y k, r.few);
          same =
              r.same
              ∙ turn (length f) n y s o l k (outcome (answer_of a) s' o') front h (omega (arith, ap length e, r.few)) g
              ∙ ap (λ (z : ℕ). many_by (length f) z s' o' (drop y k)) c
              ∙ ap (λ (z : List ℕ). many_by (length f) (n + m) s' o' z) (sym u);
        }
