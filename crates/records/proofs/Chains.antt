-- What `any` over the numbers below n and `all` over the kinds answer: the meaning's `some` and `every`. Assumes nothing.
use mathlib.Core.Path.{◌≡◌, refl, sym, ap, ◌∙◌}
use mathlib.Core.Bool.{Bool, true, false, not}
use mathlib.Core.List.{List, [], ◌∷◌}
use Prim.Native.Nat.{ℕ, zero, suc, ◌+◌, ◌≤◌, ◌<◌}
use native.Mathlib.Nat.{zero-add}
use native.Mathlib.Omega.{arith}
use lib.ListN.{length, get_or}
use denote.Param.Members.{Mut}
use Rattle.std.specs.declared.ops.Range.{Range}
use Rattle.std.specs.Prelude.{Option}
use Rattle.std.specs.Bool.{MatchBool}
use Rattle.std.specs.Option.{MatchOption}
use Rattle.std.specs.Fn.{Called}
use Rattle.std.specs.Iterator.{YieldsThen}
use Rattle.std.specs.List.{AllWithin, HoldsAt, FoldsTo, range_with_len}
use Rattle.std.proofs.iter.Yields.{nat_range_steps}
use Rattle.std.proofs.lemmas.Iterator.{cases_from_any, YieldsList-from_range}
use Rattle.std.proofs.lemmas.List.FromFn.{length-range_with_len, get_or-range_with_len}
use Rattle.meaning.specs.Octets.{scan, every, some}
use Rattle.meaning.specs.Records.{kinds}
use Rattle.meaning.proofs.Scan.{pick-all}
use Rattle.records.specs.Kinds.{number_of}
use Rattle.records.specs.declared.Kind.{Kind}
use Rattle.records.specs.declared.Kind.TheVariants.{Settings, Devices, Levels, Keys, Lookups, Usages, Handles}

-- ---- a search for one value x, and else y
module _ (q : ℕ → Bool) (x y : Bool) where
  scan-hit : (n i k : ℕ) → i ≤ k → k < i + n → q k ≡ true → x ≡ scan q (λ j. x) y n i
  scan-hit zero i k a b e = absurd (omega arith)
  scan-hit (suc n) i k a b e =
      pick-all (λ r. x ≡ r) (q i) x (scan q (λ j. x) y n (suc i)) (λ h. refl)
      (λ h. let z : k ≡ i → ⊥ = λ w. let t : true ≡ false = sym e ∙ ap q w ∙ h in cc in scan-hit n (suc i) k (omega arith) (omega arith) e)

  scan-none : (n i : ℕ) → ((k : ℕ) → i ≤ k → k < i + n → q k ≡ false) → y ≡ scan q (λ j. x) y n i
  scan-none zero i h = refl
  scan-none (suc n) i h = rw (h i (omega arith) (omega arith)) (scan-none n (suc i) (λ k a b. h k (omega arith) (omega arith)))

-- number k of those below n is k
at : (P : ℕ → Type 0) (n k : ℕ) → k < n → ((d : ℕ) → P (get_or (range_with_len 0 n) k d)) → P k
at P n k l h = rw (get_or-range_with_len 0 n k 0 l, zero-add k) at (h 0)

long : (n : ℕ) → length (range_with_len 0 n) ≡ n
long n = length-range_with_len 0 n

-- ---- the chain: the closure f answers p of each number, and stays as it is
module _ {F : Type 0} {g : Mut F (ℕ × Unit {0}) Bool} {s : Range ℕ} (u : Range ℕ) (f : F) (r : Bool) (p : ℕ → Bool) (n : ℕ) (whole : s ≡ record { start = 0; end = n }) where
  pub some-any :
      (xs : List ℕ) × (o : Option ℕ) × (j : F) × YieldsThen nat_range_steps s xs o u × FoldsTo (λ p x q. Called g p (x, tt) false q) f xs j
      × MatchOption o (r ≡ false) (λ x. (r ≡ true) × ((h : F) × Called g j (x, tt) true h))
      → ((x : ℕ) (q : F) → Called g f (x, tt) true q → p x ≡ true) → ((x : ℕ) (q : F) → Called g f (x, tt) false q → (q ≡ f) × (p x ≡ false))
      → r ≡ some p n
  some-any ran holds fails =
      by r (cases_from_any u f r (λ x. p x ≡ true) (λ x. p x ≡ false) ran (YieldsList-from_range 0 n n whole (omega arith)) holds fails)
    where
      by : (r : Bool) → MatchBool r ((k : ℕ) × (k < length (range_with_len 0 n)) × HoldsAt (λ k. p k ≡ true) (range_with_len 0 n) k)
          (AllWithin (λ k. p k ≡ false) (range_with_len 0 n) 0 (length (range_with_len 0 n))) → r ≡ some p n
      by true h =
          let l : h.0 < n = omega (arith, h.1, long n) in
          scan-hit p true false n 0 h.0 (omega arith) (omega arith) (at (λ k. p k ≡ true) n h.0 l h.2)
      by false h =
          scan-none p true false n 0
          (λ k a b. let l : k < n = omega arith in at (λ k. p k ≡ false) n k l (λ d. h k d a (omega (arith, long n))))

-- ---- the seven kinds, one after the other
abbrev pub seven : List Kind
seven = Settings ∷ Devices ∷ Levels ∷ Keys ∷ Lookups ∷ Usages ∷ Handles ∷ []

pub nth-kind : (k : ℕ) → k < kinds → number_of (get_or seven k Settings) ≡ k
nth-kind zero h = refl
nth-kind (suc zero) h = refl
nth-kind (suc (suc zero)) h = refl
nth-kind (suc (suc (suc zero))) h = refl
nth-kind (suc (suc (suc (suc zero)))) h = refl
nth-kind (suc (suc (suc (suc (suc zero))))) h = refl
nth-kind (suc (suc (suc (suc (suc (suc zero)))))) h = refl
nth-kind (suc (suc (suc (suc (suc (suc (suc k))))))) h = absurd (omega arith)

pub every-kind : (p : ℕ → Bool) (r : Bool) → MatchBool r (AllWithin (λ k. p (number_of k) ≡ true) seven 0 (length seven)) ((i : ℕ) × (i < length seven) × HoldsAt (λ k. p (number_of k) ≡ false) seven i)
    → r ≡ every p kinds
every-kind p true h =
    scan-none (λ k. not (p k)) false true kinds 0
    (λ k a b. let l : k < kinds = omega arith in ap not (rw (nth-kind k l) at (h k Settings a l)))
every-kind p false h =
    let l : h.0 < kinds = h.1 in
    scan-hit (λ k. not (p k)) false true kinds 0 h.0 (omega arith) (omega arith) (ap not (rw (nth-kind h.0 l) at (h.2 Settings)))
