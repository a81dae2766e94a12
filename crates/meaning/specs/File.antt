-- 'The site file': a table of contents, then the bodies of the seven kinds with no gap or tail. Assumes nothing: these are definitions.
-- entry_len, contents_len   the octets of an entry, and of the table of contents
-- file_most                the largest file
-- file_count, file_place    count and offset, as the table of contents has them
-- contents_right           the rules of the table of contents
-- file_body, file_store     the records of a kind, and of all
-- file_rule                all rules of a site file
use Rattle.std.specs.Prelude.{ℕ, ◌+◌, ◌*◌, Bool, ◌&&◌, List, length, get_or, take, leb, eqb}
use Rattle.meaning.specs.Octets.{every, le_at, part}
use Rattle.meaning.specs.Records.{
  settings,
  kinds,
  width_of,
  limit_of,
  count_right,
  start_by,
  own_at,
  Tables,
  Store,
  tables_in,
  store_in,
  store_rule,
}

-- an entry: kind 1, record length 1, count 2, offset 2
abbrev pub entry_len : ℕ
entry_len = 6

abbrev pub contents_len : ℕ
contents_len = entry_len * kinds

unfoldable pub file_most : ℕ
file_most = start_by contents_len limit_of kinds

unfoldable pub file_count : List ℕ → ℕ → ℕ
file_count f k = le_at 2 f (entry_len * k + 2)

unfoldable pub file_place : List ℕ → ℕ → ℕ
file_place f k = le_at 2 f (entry_len * k + 4)

-- the length of all before body k
unfoldable pub start_of : List ℕ → ℕ → ℕ
start_of f k = start_by contents_len (file_count f) k

unfoldable pub entry_right : List ℕ → ℕ → Bool
entry_right f k =
    eqb (get_or f (entry_len * k) 0) (k + 1)
    && (eqb (get_or f (entry_len * k + 1) 0) (width_of k)
    && (count_right k (file_count f k) && eqb (file_place f k) (start_of f k)))

unfoldable pub contents_right : List ℕ → Bool
contents_right f = leb contents_len (length f) && (every (entry_right f) kinds && eqb (length f) (start_of f kinds))

-- ---- its records
unfoldable pub file_body : List ℕ → ℕ → List ℕ
file_body f k = part (file_place f k) (width_of k * file_count f k) f

unfoldable pub file_tables : List ℕ → Tables
file_tables f = tables_in (take own_at (file_body f settings)) (file_body f)

unfoldable pub file_store : List ℕ → Store
file_store f = store_in (file_tables f) (file_body f)

unfoldable pub file_rule : List ℕ → Bool
file_rule f = contents_right f && store_rule (file_store f)
