-- Demand 3 for the log program: two inputs that pair up print the same lines. Assumes nothing: these are definitions.
-- file_in, rest_in    the site file of an input, and the octets after it
-- AlikeInputs       two inputs whose files are equal outside the key octets, and whose frames pair up
-- framed, input_of   an input put together: the file's length, the file, each frame behind its length octet
use Rattle.std.specs.Prelude.{ℕ, ◌+◌, ◌≡◌, List, [], ◌∷◌, ◌++◌, length, drop, replicate}
use Rattle.meaning.specs.Octets.{le_at, octs, part}
use Rattle.lines.specs.Log.{items, printed}
use Rattle.meaning.specs.Loading.{site_of}
use Rattle.demands.specs.Secrecy.{Paired}
use Rattle.demands.specs.Loading.{AlikeFiles}

unfoldable pub file_in : List ℕ → List ℕ
file_in i = part 2 (le_at 2 i 0) i

unfoldable pub rest_in : List ℕ → List ℕ
rest_in i = drop (2 + le_at 2 i 0) i

pub record AlikeInputs (i j : List ℕ) : Type 0 where
  pub lengths : length i ≡ length j
  -- the lengths that they say of their files
  pub sizes : le_at 2 i 0 ≡ le_at 2 j 0
  pub files : AlikeFiles (file_in i) (file_in j)
  -- each pair where the loaded sites then stand
  pub frames : Paired (site_of (file_in i)) (site_of (file_in j)) (replicate 127 0) (replicate 127 0) (items (rest_in i)).frames (items (rest_in j)).frames

unfoldable pub SameLines : Type 0
SameLines = (i j : List ℕ) → AlikeInputs i j → printed i ≡ printed j

unfoldable pub framed : List (List ℕ) → List ℕ
framed [] = []
framed (f ∷ fs) = length f ∷ (f ++ framed fs)

unfoldable pub input_of : List ℕ → List (List ℕ) → List ℕ
input_of f fs = octs 2 (length f) ++ (f ++ framed fs)
