-- The state as four words, a column each, and what a round does to a column. Assumes nothing: these are definitions.
-- turned      a column with each octet a row further up, the first at the end
-- doubled     a column with each octet times {02}
-- mix_column   a column times the matrix of MixColumns
-- sub_column   the column that SubBytes and ShiftRows make of four words: row r comes from the word r places on
-- state_of     the state of four words
use Rattle.std.specs.Prelude.{List, [], ◌∷◌, ◌++◌, ℕ, ◌+◌, ◌%◌, get_or}
use Rattle.meaning.specs.Octets.{tab, octs}
use Rattle.meaning.specs.Field.{xtime}
use Rattle.meaning.specs.Sbox.{sbox}
use Rattle.meaning.specs.Cipher.{mixed}
use Rattle.aes.specs.declared.rounds.Columns.{Columns}

unfoldable pub turned : List ℕ → List ℕ
turned s = tab (λ r. get_or s ((r + 1) % 4) 0) 4

unfoldable pub doubled : List ℕ → List ℕ
doubled s = tab (λ r. xtime (get_or s r 0)) 4

unfoldable pub mix_column : List ℕ → List ℕ
mix_column s = tab (λ r. mixed (get_or s r 0) (get_or s ((r + 1) % 4) 0) (get_or s ((r + 2) % 4) 0) (get_or s ((r + 3) % 4) 0)) 4

unfoldable pub sub_column : ℕ → ℕ → ℕ → ℕ → List ℕ
sub_column a b c d =
    sbox (get_or (octs 4 a) 0 0) ∷ sbox (get_or (octs 4 b) 1 0) ∷ sbox (get_or (octs 4 c) 2 0) ∷ sbox (get_or (octs 4 d) 3 0) ∷ []

unfoldable pub state_of : Columns → List ℕ
state_of s = octs 4 s.a ++ (octs 4 s.b ++ (octs 4 s.c ++ octs 4 s.d))
