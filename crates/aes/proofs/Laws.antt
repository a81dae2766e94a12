-- All that a caller knows of the cipher by an expanded key.
--     by-schedule, same-cipher   by the expanded key it is the cipher under the key
--     length-by, length-cipher   sixteen octets come out
-- Assumes nothing.
use mathlib.Core.Path.{◌≡◌, refl}
use mathlib.Core.List.{List}
use Prim.Native.Nat.{ℕ}
use lib.ListN.{length}
use Rattle.meaning.specs.Cipher.{cipher, cipher_with, add_round_key}
use Rattle.aes.specs.Schedule.{scheduled, cipher_by}

pub by-schedule : (key b : List ℕ) → cipher_by (scheduled key) b ≡ cipher key b
unfolding cipher_by scheduled cipher
by-schedule key b = refl

-- the same, as functions of the block
pub same-cipher : (key : List ℕ) → cipher_by (scheduled key) ≡ cipher key
unfolding cipher_by scheduled cipher
same-cipher key = refl

pub length-by : (w b : List ℕ) → length (cipher_by w b) ≡ 16
unfolding cipher_by cipher_with add_round_key
length-by w b = refl

pub length-cipher : (key b : List ℕ) → length (cipher key b) ≡ 16
unfolding cipher cipher_with add_round_key
length-cipher key b = refl
