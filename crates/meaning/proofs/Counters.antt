-- Four octets stored at a counter's place in a body of devices: no device and no other counter changes. Assumes nothing.
use mathlib.Core.Path.{◌≡◌}
use Prim.Native.Nat.{ℕ, ◌+◌, ◌*◌, ◌≤◌, ◌<◌}
use native.Mathlib.Decide.{dec_le, dec_lt}
use native.Mathlib.Omega.{arith}
use mathlib.Core.List.{List}
use lib.ListN.{length, get_or}
use lib.Seq.{sets}
use Rattle.meaning.specs.Octets.{le_at}
use Rattle.meaning.specs.Records.{device_at, counter_at}
use Rattle.meaning.proofs.Stores.{get_or-before, get_or-after}
use Rattle.meaning.proofs.Numbers.{le_at-sets-before, le_at-sets-after}

-- ---- no rule and no table reads a counter
module _ (b xs : List ℕ) (four : length xs ≡ 4) (d i : ℕ) where
  number-beside : (w a : ℕ) → ((a + w ≤ 17 * d + 12 → ⊥) → 17 * d + 16 ≤ a) → le_at w (sets b (17 * d + 12) xs) a ≡ le_at w b a
  number-beside w a h = by (dec_le (a + w) (17 * d + 12))
    where
      by : Dec (a + w ≤ 17 * d + 12) → le_at w (sets b (17 * d + 12) xs) a ≡ le_at w b a
      by (yes l) = le_at-sets-before w xs b (17 * d + 12) a l
      by (no n) = le_at-sets-after w xs b (17 * d + 12) a (omega (arith, h n))

  octet-beside : get_or (sets b (17 * d + 12) xs) (17 * i + 16) 0 ≡ get_or b (17 * i + 16) 0
  octet-beside = by (dec_lt i d)
    where
      by : Dec (i < d) → get_or (sets b (17 * d + 12) xs) (17 * i + 16) 0 ≡ get_or b (17 * i + 16) 0
      by (yes l) = get_or-before xs b (17 * d + 12) (17 * i + 16) 0 (omega arith)
      by (no n) = get_or-after xs b (17 * d + 12) (17 * i + 16) 0 (omega arith)

  pub device-beside : device_at (sets b (17 * d + 12) xs) i ≡ device_at b i
  unfolding device_at
  device-beside =
      rw (
        number-beside 2 (17 * i) (λ n. omega arith),
        number-beside 2 (17 * i + 2) (λ n. omega arith),
        number-beside 8 (17 * i + 4) (λ n. omega arith),
        octet-beside,
      )

  pub counter-beside : (i ≡ d → ⊥) → counter_at (sets b (17 * d + 12) xs) i ≡ counter_at b i
  unfolding counter_at
  counter-beside h = number-beside 4 (17 * i + 12) (λ n. by n (dec_lt i d) (dec_lt d i))
    where
      by : (17 * i + 12 + 4 ≤ 17 * d + 12 → ⊥) → Dec (i < d) → Dec (d < i) → 17 * d + 16 ≤ 17 * i + 12
      by n (yes l) w = absurd (n (omega arith))
      by n (no m) (yes l) = omega arith
      by n (no m) (no l) = absurd (h (omega arith))
