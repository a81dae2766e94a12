-- One round more: what a turn of `Cipher::encrypt`'s loop does to the state.
-- Assumes nothing.
use mathlib.Core.Path.{◌≡◌}
use mathlib.Core.List.{List}
use Prim.Native.Nat.{ℕ, suc, ◌+◌, ◌-◌, ◌≤◌}
use native.Mathlib.Omega.{arith}
use Rattle.meaning.specs.Cipher.{sub_bytes, shift_rows, mix_columns, add_round_key, round_key, rounds, cipher_with}

module _ (w : List ℕ) where
  pub state-more : (s₀ : List ℕ) (i : ℕ) {s b m t : List ℕ} → 1 ≤ i → s ≡ rounds w s₀ (i - 1)
      → b ≡ shift_rows (sub_bytes s) → m ≡ mix_columns b → t ≡ add_round_key m (round_key w i) → t ≡ rounds w s₀ (i + 1 - 1)
  unfolding rounds
  state-more s₀ i {s} {b} {m} {t} h p eb em et =
      let e : i + 1 - 1 ≡ suc (i - 1) = omega arith in
      let n : suc (i - 1) ≡ i = omega arith in
      rw (e, et, em, eb, p, n)

  pub finish : (block : List ℕ) {l s₀ s b t r : List ℕ} → l ≡ block → s₀ ≡ add_round_key l (round_key w 0) → s ≡ rounds w s₀ 9
      → b ≡ shift_rows (sub_bytes s) → t ≡ add_round_key b (round_key w 10) → r ≡ t → r ≡ cipher_with w block
  unfolding cipher_with
  finish block l o p b t r = rw (r, t, b, p, o, l)
