-- The expanded key as callers see it: they never look inside. Assumes nothing: these are definitions.
-- scheduled   what a key is expanded to
-- cipher_by    the cipher of a block, by an expanded key
-- grown       a buffer with so many octets of the expansion more
use Rattle.std.specs.Prelude.{ℕ, zero, suc, ◌+◌, List, set}
use Rattle.meaning.specs.Cipher.{key_octet, expanded, cipher_with}

unfoldable pub scheduled : List ℕ → List ℕ
scheduled key = expanded key 160

unfoldable pub cipher_by : List ℕ → List ℕ → List ℕ
cipher_by w block = cipher_with w block

-- octet i made from those before it
unfoldable pub more : List ℕ → ℕ → List ℕ
more w i = set w i (key_octet w i)

-- m octets from place i on
unfoldable pub grown : List ℕ → ℕ → ℕ → List ℕ
grown w i zero = w
grown w i (suc m) = more (grown w i m) (i + m)
