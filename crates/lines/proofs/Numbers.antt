-- A number's digits: how many there are, and that a loop finds them from the last on.
-- Assumes nothing.
use mathlib.Core.Path.{◌≡◌, sym, ap, ap₂, ◌∙◌}
use mathlib.Core.List.{List, [], ◌∷◌, ◌++◌, append_assoc, append-nil}
use Prim.Native.Nat.{ℕ, zero, suc, ◌+◌, ◌-◌, ◌*◌, ◌/◌, ◌%◌, ◌^◌, ◌≤◌, ◌<◌}
use native.Mathlib.Nat.{pow-suc}
use native.Mathlib.Decide.{dec_lt}
use native.Mathlib.Omega.{arith}
use lib.ListN.{length, drop, set, take, length-append, length-set, length-drop, drop_of_length-le}
use lib.Seq.{take_all, drop-cons, drop-set-lt, get_or-set_same}
use borrow.Author.Tests.{lt-ltb, le-ltb}
use Rattle.lines.specs.Text.{decimal, decimal_by}

-- a bound on the digits that is large enough does not matter
enough : (j k n : ℕ) → n < j → n < k → decimal_by j n ≡ decimal_by k n
unfolding decimal_by
enough zero k n h l = absurd (omega arith)
enough (suc j) zero n h l = absurd (omega arith)
enough (suc j) (suc k) n h l = by (λ p q. enough j k (n / 10) p q) (dec_lt n 10)
  where
    by : (n / 10 < j → n / 10 < k → decimal_by j (n / 10) ≡ decimal_by k (n / 10)) → Dec (n < 10) → decimal_by (suc j) n ≡ decimal_by (suc k) n
    by f (yes s) = rw (lt-ltb n 10 s)
    by f (no s) = rw (le-ltb n 10 (omega arith)) (ap (λ (l : List ℕ). l ++ ((48 + n % 10) ∷ [])) (f (omega arith) (omega arith)))

pub last : (n : ℕ) → n < 10 → decimal n ≡ (48 + n) ∷ []
unfolding decimal decimal_by
last n h = rw (lt-ltb n 10 h)

more-by : (n : ℕ) → 10 ≤ n → decimal_by (suc n) n ≡ decimal_by n (n / 10) ++ ((48 + n % 10) ∷ [])
unfolding decimal_by
more-by n h = rw (le-ltb n 10 h)

pub more : (n : ℕ) → 10 ≤ n → decimal n ≡ decimal (n / 10) ++ ((48 + n % 10) ∷ [])
unfolding decimal
more n h = more-by n h ∙ ap (λ (l : List ℕ). l ++ ((48 + n % 10) ∷ [])) (enough n (suc (n / 10)) (n / 10) (omega arith) (omega arith))

-- ---- how many
pub few : (k n : ℕ) → n < 10 ^ suc k → length (decimal n) ≤ suc k
few zero n h = rw (last n h) (omega arith)
few (suc k) n h = by (λ q. few k (n / 10) q) (dec_lt n 10)
  where
    by : (n / 10 < 10 ^ suc k → length (decimal (n / 10)) ≤ suc k) → Dec (n < 10) → length (decimal n) ≤ suc (suc k)
    by f (yes s) = rw (last n s) (omega arith)
    by f (no s) =
        let q : n < 10 ^ suc k * 10 = rw (pow-suc 10 (suc k)) at h in
        let l = f (omega arith) in
        rw (more n (omega arith)) (omega (arith, length-append (decimal (n / 10)) ((48 + n % 10) ∷ [])))

pub at-most-20 : (n : ℕ) → n < 2 ^ 64 → length (decimal n) ≤ 20
at-most-20 n h = few 19 n (omega arith)

-- ---- from the last on: the digits of n are those of m and then those in d past k
pub record Spelled (n : ℕ) (d : List ℕ) (k m : ℕ) : Type 0 where
  pub low : k ≤ 19
  pub long : length d ≡ 20
  pub size : m < 10 ^ suc k
  pub digits : decimal n ≡ decimal m ++ drop (suc k) d

-- a digit v stored at k
stored : (d : List ℕ) (k v : ℕ) → k < length d → drop k (set d k v) ≡ v ∷ drop (suc k) d
stored d k v h =
    drop-cons (set d k v) k 0 (omega (arith, length-set d k v))
    ∙ ap₂ (λ (x : ℕ) (l : List ℕ). x ∷ l) (get_or-set_same d k v 0 h) (drop-set-lt (suc k) d k v (omega arith))

pub spelled-none : (n : ℕ) (d : List ℕ) → length d ≡ 20 → n < 2 ^ 64 → Spelled n d 19 n
spelled-none n d e h =
    record {
      low = omega arith;
      long = e;
      size = omega arith;
      digits = sym (ap (λ (l : List ℕ). decimal n ++ l) (drop_of_length-le d {i = 20} (omega arith)) ∙ append-nil (decimal n));
    }

pub spelled-past : (n : ℕ) (d : List ℕ) (k m : ℕ) → Spelled n d k m → 10 ≤ m → 0 < k
spelled-past n d zero m p h = absurd (omega (arith, p.size))
spelled-past n d (suc k) m p h = omega arith

pub spelled-more : (n : ℕ) (d : List ℕ) (k m v : ℕ) → Spelled n d k m → 10 ≤ m → v ≡ 48 + m % 10 → Spelled n (set d k v) (k - 1) (m / 10)
spelled-more n d zero m v p h e = absurd (omega (arith, p.size))
spelled-more n d (suc k) m v p h e =
    let z : suc k - 1 ≡ k = omega arith in
    rw z
    record {
      low = omega (arith, p.low);
      long = length-set d (suc k) v ∙ p.long;
      size = let q : m < 10 ^ suc k * 10 = rw (pow-suc 10 (suc k)) at p.size in omega arith;
      digits =
          p.digits
          ∙ ap (λ (l : List ℕ). l ++ drop (suc (suc k)) d) (more m h ∙ ap (λ (x : ℕ). decimal (m / 10) ++ (x ∷ [])) (sym e))
          ∙ append_assoc (decimal (m / 10)) (v ∷ []) (drop (suc (suc k)) d)
          ∙ ap (λ (l : List ℕ). decimal (m / 10) ++ l) (sym (stored d (suc k) v (omega (arith, p.low, p.long))));
    }

-- the last digit stored, all of them stand from k on
pub spelled-last : (n : ℕ) (d : List ℕ) (k m v : ℕ) → Spelled n d k m → m < 10 → v ≡ 48 + m → take (20 - k) (drop k (set d k v)) ≡ decimal n
spelled-last n d k m v p h e =
    take_all (20 - k) (drop k (set d k v)) (omega (arith, length-drop k (set d k v), length-set d k v, p.long))
    ∙ stored d k v (omega (arith, p.low, p.long))
    ∙ ap (λ (x : ℕ). x ∷ drop (suc k) d) e
    ∙ sym (p.digits ∙ ap (λ (l : List ℕ). l ++ drop (suc k) d) (last m h))
