-- 'The log program': what it prints of its whole input. Assumes nothing: these are definitions.
-- Items, items     the frames of the octets after the site file, and whether those end inside an item
-- answers          the answers to the frames, one after the other, each with the site and the output that the one before left
-- lines_from        their lines
-- printed_from      what is printed of octets after the site file
-- printed          what is printed of an input
use Rattle.std.specs.Prelude.{Bool, true, false, List, [], ◌∷◌, ◌++◌, ℕ, zero, suc, ◌+◌, ◌-◌, ltb, length, take, drop, replicate}
use Rattle.meaning.specs.Octets.{pick, le_at, part}
use Rattle.meaning.specs.File.{file_most}
use Rattle.meaning.specs.Loading.{site_of}
use Rattle.meaning.specs.Receive.{Received, received}
use Rattle.lines.specs.Text.{heading, cut_line, site_line, line_of}

-- ---- the items: each a length octet and its octets
pub record Items : Type 0 where
  pub frames : List (List ℕ)
  pub cut : Bool

abbrev pub none : Bool → Items
none c = record { frames = []; cut = c }

abbrev pub with : List ℕ → Items → Items
with f i = record { frames = f ∷ i.frames; cut = i.cut }

-- at most k items
unfoldable pub items_by : ℕ → List ℕ → Items
items_by zero l = none false
items_by (suc k) [] = none false
items_by (suc k) (n ∷ l) = pick (ltb (length l) n) (none true) (with (take n l) (items_by k (drop n l)))

-- an item takes at least an octet
unfoldable pub items : List ℕ → Items
items l = items_by (length l) l

-- ---- the lines
-- site s, output o
unfoldable pub answers : List ℕ → List ℕ → List (List ℕ) → List Received
answers s o [] = []
answers s o (f ∷ fs) = (received s f o).answer ∷ answers (received s f o).site (received s f o).out fs

-- numbers from n on
unfoldable pub lines_from : ℕ → List Received → List ℕ
lines_from n [] = []
lines_from n (a ∷ more) = line_of n a.status a.private ++ lines_from (suc n) more

unfoldable pub ending : Bool → List ℕ
ending c = pick c cut_line []

-- from frame number n on, at site s with output o
unfoldable pub printed_from : ℕ → List ℕ → List ℕ → List ℕ → List ℕ
printed_from n s o l = lines_from n (answers s o (items l).frames) ++ ending (items l).cut

-- ---- the whole
-- after a site file of n octets, which is loaded; the output starts as 127 zeros
unfoldable pub printed_with : ℕ → List ℕ → List ℕ
printed_with n i = printed_from 1 (site_of (part 2 n i)) (replicate 127 0) (drop (2 + n) i)

-- of an input whose first two octets say n
unfoldable pub printed_sized : ℕ → List ℕ → List ℕ
printed_sized n i = pick (ltb file_most n) site_line (pick (ltb (length i - 2) n) cut_line (printed_with n i))

unfoldable pub printed : List ℕ → List ℕ
printed i = heading ++ pick (ltb (length i) 2) cut_line (printed_sized (le_at 2 i 0) i)
